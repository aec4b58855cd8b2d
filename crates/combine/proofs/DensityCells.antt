-- Values that are not finite, and cells with such. Assumes nothing.
use mathlib.Core.Path.{◌≡◌, refl, ap, sym, ◌∙◌}
use mathlib.Core.Bool.{Bool, true, false, ◌||◌, or_assoc, or-false}
use mathlib.Core.List.{List, [], ◌∷◌, ◌++◌}
use Prim.Native.Nat.{ℕ, ◌≤◌}
use native.Mathlib.Omega.{arith}
use lib.Ieee as Ieee
use lib.Ieee.{Float, nan, inf, fin, is_nan}
use lib.ListN.{length}
use Rattle.zuniq.specs.Cells.{n_hash}
use Rattle.build.specs.Map.{Entry}
use Rattle.combine.specs.Overlay.{some_entry, overlay}
use Rattle.combine.specs.Rules.{copy_density, product_rule}
use Rattle.combine.specs.Slices.{entries_of}
use Rattle.combine.specs.Densities.{product_cells, not_finite, some_not_finite}
use Rattle.combine.proofs.Overlay.{overlay-length}
use Rattle.combine.proofs.Kept.{kept-length}

-- ---- finite values
-- A float is not finite exactly if it is a NaN, at least infinity, or at most minus infinity.
pub not_finite-is : (x : Float) → not_finite x ≡ (is_nan x || (Ieee.le (inf false) x || Ieee.le x (inf true)))
unfolding Ieee.le Ieee.lt Ieee.eq is_nan
not_finite-is nan = refl
not_finite-is (inf true) = refl
not_finite-is (inf false) = refl
not_finite-is (fin s m e) = refl

pub no_cell_finite : some_not_finite [] ≡ false
unfolding some_entry
no_cell_finite = refl

-- of one cell
pub one_not_finite : (e : Entry Float) (b : Bool) → not_finite e.value ≡ b → some_not_finite (e ∷ []) ≡ b
unfolding some_entry
one_not_finite e b q = or-false (not_finite e.value) ∙ q

-- of one list behind another
pub not_finite_append : (l m : List (Entry Float)) → some_not_finite (l ++ m) ≡ (some_not_finite l || some_not_finite m)
unfolding some_entry
not_finite_append [] m = refl
not_finite_append (e ∷ l) m = ap (λ (b : Bool). not_finite e.value || b) (not_finite_append l m) ∙ sym (or_assoc (not_finite e.value) (some_not_finite l) (some_not_finite m))

-- The cells of a product are no more than there are cells of the largest depth.
pub product_cells-few : (k : Float) (lz : List ℕ) (lv : List Float) (rz : List ℕ) (rv : List Float) → length (product_cells k lz lv rz rv) ≤ n_hash 29
product_cells-few k lz lv rz rv =
    let all = overlay copy_density 29 (entries_of lz lv) (entries_of rz rv) in
    omega (arith, kept-length (product_rule k) all, overlay-length copy_density 29 (entries_of lz lv) (entries_of rz rv))
