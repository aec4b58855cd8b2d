-- Section 5 of the scope: the overlay of two maps, down the tree from the twelve base cells. The entries of a map stand with
-- the first one first, and none is deeper than K. Over any type of values and any way to split them.
use Rattle.std.specs.Prelude.{Bool, false, ◌&&◌, ◌||◌, not, cond, List, [], ◌∷◌, ℕ, zero, suc, ◌/◌, ◌%◌, ◌-◌}
use Rattle.std.proofs.Math.Option.{Option, none, some}
use Rattle.zuniq.specs.Cells.{child_hash, lies_in, overlap}
use Rattle.build.specs.Map.{Entry, itself_or, joined}

-- "Each overlay cell is seen by the rule as left only, right only or both": with the values that it has from them. An overlay
-- cell is an entry with such a value: "with its cell".
pub data Seen (A : Type 0) : Type 0 where
  left : A → Seen A
  right : A → Seen A
  both : A → A → Seen A

-- what the rule sees, if a map that the cell lies in is there
abbrev pub seen_by : {A : Type 0} → Option A → Option A → Option (Seen A)
seen_by none none = none
seen_by (some x) none = some (left x)
seen_by none (some y) = some (right y)
seen_by (some x) (some y) = some (both x y)

-- some entry passes the test
unfoldable pub some_entry : {A : Type 0} → (Entry A → Bool) → List (Entry A) → Bool
some_entry test [] = false
some_entry test (e ∷ l) = test e || some_entry test l

-- "for each map, lie in one of its entries or overlap none": of the cell (d, h) and one map
unfoldable pub fits : {A : Type 0} → List (Entry A) → ℕ → ℕ → Bool
fits l d h = some_entry (λ e. lies_in d h e.depth e.hash) l || not (some_entry (λ e. overlap d h e.depth e.hash) l)

-- split d h v i is the value of child i of the cell (d, h) of value v
abbrev pub Split : Type 0 → Type 0
Split A = ℕ → ℕ → A → ℕ → A

module _ {A : Type 0} (split : Split A) where
  -- "level by level": the value of the cell (d, h) in a cell n levels above it of value v
  unfoldable pub part : ℕ → ℕ → ℕ → A → A
  part zero d h v = v
  part (suc n) d h v = split (d - 1) (h / 4) (part n (d - 1) (h / 4) v) (h % 4)

  -- the value that the cell (d, h) has from the entry that it lies in
  unfoldable pub value_in : List (Entry A) → ℕ → ℕ → Option A
  value_in [] d h = none
  value_in (e ∷ l) d h = cond (lies_in d h e.depth e.hash) (some (part (d - e.depth) d h e.value)) (value_in l d h)

  module _ (l r : List (Entry A)) where
    abbrev pub seen_at : ℕ → ℕ → Option (Seen A)
    seen_at d h = seen_by (value_in l d h) (value_in r d h)

    -- "the largest cells that lie in an entry of at least one map and, for each map, lie in one of its entries or overlap
    -- none", of those in the cell (d, h) with n depths below it: itself, or those in its children
    unfoldable pub overlay_in : ℕ → ℕ → ℕ → List (Entry (Seen A))
    overlay_in zero d h = cond (fits l d h && fits r d h) (itself_or d h (seen_at d h) []) []
    overlay_in (suc n) d h =
        let inside = joined 4 (λ i. overlay_in n (suc d) (child_hash h i)) in
        cond (fits l d h && fits r d h) (itself_or d h (seen_at d h) []) inside

-- "The overlay of two maps"
unfoldable pub overlay : {A : Type 0} → Split A → ℕ → List (Entry A) → List (Entry A) → List (Entry (Seen A))
overlay split K l r = joined 12 (λ h. overlay_in split l r K 0 h)

-- the other way round
abbrev pub swap : {A : Type 0} → Seen A → Seen A
swap (left x) = right x
swap (right y) = left y
swap (both x y) = both y x

abbrev pub swapped : {A : Type 0} → Entry (Seen A) → Entry (Seen A)
swapped e = record { depth = e.depth; hash = e.hash; value = swap e.value }
