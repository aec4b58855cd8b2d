-- Section 5 of the scope: what a rule keeps of an overlay, the maps that merging makes of that, and the two rules.
use Rattle.std.specs.Prelude.{cond, List, [], ◌∷◌, ◌++◌, ℕ, zero, suc, ◌+◌, ◌/◌, ◌%◌, eqb, Float}
use Rattle.std.proofs.Math.Option.{Option, none, some}
use Rattle.std.specs.Float.Ieee as Ieee
use Rattle.std.specs.Float.{binary64}
use Rattle.build.specs.Map.{Entry, itself_or, Merger, defined_map}
use Rattle.combine.specs.Overlay.{Seen, left, right, both, Split, overlay}

-- the value that an overlay cell is kept with, or none if it is dropped
abbrev pub Rule : Type 0 → Type 0
Rule A = Entry (Seen A) → Option A

-- an overlay cell, with the value that it is kept with, if it is kept
abbrev pub kept_of : {A : Type 0} → Rule A → Entry (Seen A) → List (Entry A)
kept_of rule e = itself_or e.depth e.hash (rule e) []

-- the "overlay cells kept by the rule", with their values
unfoldable pub kept : {A : Type 0} → Rule A → List (Entry (Seen A)) → List (Entry A)
kept rule [] = []
kept rule (e ∷ o) = kept_of rule e ++ kept rule o

-- "Merging .. then makes the defined map with overlay cells in place of listed ones"; K is the depth of the result, "the larger"
unfoldable pub combined : {A : Type 0} → Merger A → Split A → Rule A → ℕ → List (Entry A) → List (Entry A) → List (Entry A)
combined accept split rule K l r = defined_map accept K (kept rule (overlay split K l r))

-- ---- "Pool (counts)"
-- "for parent hash h the extra ones go to children h mod 4, (h + 1) mod 4 and onwards" (note 10 of 02): how many of n extra ones child i gets
unfoldable pub extras : ℕ → ℕ → ℕ → ℕ
extras h zero i = 0
extras h (suc n) i = extras h n i + cond (eqb i ((h + n) % 4)) 1 0

-- "splitting v gives each child floor(v/4)", and the extra ones, "(v mod 4) of them", are shared by the parent's hash
unfoldable pub split_count : Split ℕ
split_count d h v i = v / 4 + extras h (v % 4) i

-- "alone: kept; both: sum"
abbrev pub pooled_count : Seen ℕ → ℕ
pooled_count (left m) = m
pooled_count (right n) = n
pooled_count (both m n) = m + n

abbrev pub pool_rule : Rule ℕ
pool_rule e = some (pooled_count e.value)

-- "the defined pool"
abbrev pub defined_pool : Merger ℕ → ℕ → List (Entry ℕ) → List (Entry ℕ) → List (Entry ℕ)
defined_pool accept K l r = combined accept split_count pool_rule K l r

-- ---- "Product (densities)"
-- "a child copies its parent"
unfoldable pub copy_density : Split Float
copy_density d h v i = v

-- "alone: dropped; both: (k × left) × right"
abbrev pub product_of : Float → Seen Float → Option Float
product_of k (left x) = none
product_of k (right y) = none
product_of k (both x y) = some (Ieee.mul binary64 (Ieee.mul binary64 k x) y)

abbrev pub product_rule : Float → Rule Float
product_rule k e = product_of k e.value

-- "the defined .. product"
abbrev pub defined_product : Merger Float → Float → ℕ → List (Entry Float) → List (Entry Float) → List (Entry Float)
defined_product accept k K l r = combined accept copy_density (product_rule k) K l r
