-- Note 6 of document 02: "Given a density map and a coverage, clip it", down the tree from the twelve base cells. The entries of a map
-- stand with the first one first, and none is deeper than K. Over any type of values.
use Rattle.std.specs.Prelude.{cond, List, [], ◌∷◌, ℕ, zero, suc}
use Rattle.std.proofs.Math.Option.{Option, none, some}
use Rattle.zuniq.specs.Cells.{child_hash, lies_in}
use Rattle.build.specs.Map.{Entry, itself_or, joined}
use Rattle.coverage.specs.Ranges.{Range, in_coverage}

module _ {A : Type 0} where
  -- "lies inside an entry [..] with the entry's density": that density, of the cell (d, h)
  unfoldable pub value_over : List (Entry A) → ℕ → ℕ → Option A
  value_over [] d h = none
  value_over (e ∷ l) d h = cond (lies_in d h e.depth e.hash) (some e.value) (value_over l d h)

  module _ (K : ℕ) (l : List (Entry A)) (rs : List Range) where
    -- "lies inside an entry and inside the coverage"
    unfoldable pub in_both : ℕ → ℕ → Option A
    in_both d h = cond (in_coverage K rs d h) (value_over l d h) none

    -- "every cell that lies inside an entry and inside the coverage while its parent, if any, doesn't lie inside both", of those in
    -- the cell (d, h) with n depths below it: itself, or those in its children
    unfoldable pub clip_in : ℕ → ℕ → ℕ → List (Entry A)
    clip_in zero d h = itself_or d h (in_both d h) []
    clip_in (suc n) d h = itself_or d h (in_both d h) (joined 4 (λ i. clip_in n (suc d) (child_hash h i)))

    -- the clipped map: "nothing merged, result depth 29"
    unfoldable pub clipped : List (Entry A)
    clipped = joined 12 (λ h. clip_in K 0 h)
