-- Section 4 of the scope: adding to a map, cell by cell. The entries of the map stand with the last one first.
-- Over any type of values and any merger.
use Rattle.std.specs.Prelude.{Bool, ◌&&◌, cond, List, [], ◌∷◌, ℕ, zero, suc, ◌/◌, ◌-◌}
use Rattle.std.proofs.Math.Option.{Option, none, some, map}
use Rattle.zuniq.specs.Cells.{child_hash}
use Rattle.build.specs.Map.{Entry, entry, is_cell, Merger}

-- child i of the cell (d, h), with a value
abbrev pub child : {A : Type 0} → ℕ → ℕ → ℕ → A → Entry A
child d h i x = entry (suc d) (child_hash h i) x

abbrev pub is_child : {A : Type 0} → ℕ → ℕ → ℕ → Entry A → Bool
is_child d h i e = is_cell (suc d) (child_hash h i) e

-- the four are children 0 to 3 of the cell (d, h)
abbrev pub is_quad : {A : Type 0} → ℕ → ℕ → Entry A → Entry A → Entry A → Entry A → Bool
is_quad d h e0 e1 e2 e3 = is_child d h 0 e0 && (is_child d h 1 e1 && (is_child d h 2 e2 && is_child d h 3 e3))

module _ {A : Type 0} (accept : Merger A) where
  -- four entries replaced by the cell (d, h), if they are its children and the merger accepts
  abbrev pub merge_into : ℕ → ℕ → Entry A → Entry A → Entry A → Entry A → List (Entry A) → Option (List (Entry A))
  merge_into d h e0 e1 e2 e3 s =
      cond (is_quad d h e0 e1 e2 e3) (map (λ x. entry d h x ∷ s) (accept d h e0.value e1.value e2.value e3.value)) none

  -- "the last four entries are children 0 to 3 of one parent and the merger accepts, replace them by the parent"
  unfoldable pub step : List (Entry A) → Option (List (Entry A))
  step [] = none
  step (e3 ∷ []) = none
  step (e3 ∷ e2 ∷ []) = none
  step (e3 ∷ e2 ∷ e1 ∷ []) = none
  step (e3 ∷ e2 ∷ e1 ∷ e0 ∷ s) = merge_into (e3.depth - 1) (e3.hash / 4) e0 e1 e2 e3 s

  -- "while": at most n times
  unfoldable pub collapse_up_to : ℕ → List (Entry A) → List (Entry A)
  collapse_up_to zero s = s
  collapse_up_to (suc n) s = elim (step s) [ none ↦ s | some t ↦ collapse_up_to n t ]

  -- "while": each time the last entry is one depth further up, so as many times as it has depths above it are enough
  unfoldable pub collapse : List (Entry A) → List (Entry A)
  collapse [] = []
  collapse (e ∷ s) = collapse_up_to e.depth (e ∷ s)

  -- "for each cell, append it; while the last four entries are children 0 to 3 of one parent and the merger accepts, replace
  -- them by the parent"
  unfoldable pub run : List (Entry A) → List (Entry A) → List (Entry A)
  run s [] = s
  run s (e ∷ l) = run (collapse (e ∷ s)) l
