-- The checks of an add call, turn by turn. Assumes nothing.
use mathlib.Core.Path.{◌≡◌, refl, ap}
use mathlib.Core.Bool.{Bool, true, false, ◌||◌, not, true≢false}
use mathlib.Core.List.{List, [], ◌∷◌}
use mathlib.Core.Logic.{⊎_elim}
use mathlib.Core.Option.{Option, none, some}
use Prim.Native.Nat.{ℕ, zero, suc, ◌+◌, ◌≤◌, ◌<◌, min}
use native.Mathlib.Numerals.{add-one}
use native.Mathlib.Omega.{arith}
use lib.Dec.{eqb, leb, ltb}
use lib.Ieee.{Float}
use lib.ListN.{length, get_or, drop, drop_of_length-le}
use lib.Seq.{drop-cons}
use borrow.Author.Tests.{leb-false, ltb-false, lt-ltb, le-ltb, eqb-true, not-false}
use Rattle.zuniq.specs.Cells.{n_hash}
use Rattle.refusal.specs.declared.Refusal.{Refusal}
use Rattle.refusal.proofs.Checks.{or_else_none, refused_if-none}
use Rattle.zuniq.proofs.Basics.{le_or_lt}
use Rattle.std.specs.Prelude.{Option as Answer, None, Some}
use Rattle.mom.specs.Map.{first_fault, ValidMap}
use Rattle.mom.specs.declared.FirstFault.{FirstFault}
use Rattle.mom.proofs.Faults.{no_fault_iff_valid}
use Rattle.refusal.specs.Checks.{or_else, refused_if}
use Rattle.build.specs.Add.{settings_refusal, lengths_refusal, map_refusal, cell_refusal, cells_refusal, hashes_refusal, sum_of, capped_sum, sum_refusal, total_refusal, space_refusal}
use Rattle.build.specs.Standing.{Rising}
use Rattle.build.specs.Counts.{never}

-- Refusals in order may be tried in groups.
pub grouped : (a b c d e : Option Refusal) → or_else a (or_else b (or_else c (or_else d e))) ≡ or_else (or_else a (or_else b (or_else c d))) e
grouped none none none none e = refl
grouped none none none (some r) e = refl
grouped none none (some r) d e = refl
grouped none (some r) c d e = refl
grouped (some r) b c d e = refl

-- A cell that passes is one of its depth, and is not below what it must be above.
pub cell_passes : (cells least h i : ℕ) → cell_refusal cells least h i ≡ none → (h < cells) × (least ≤ h)
unfolding cell_refusal
cell_passes cells least h i e = go (leb cells h) refl (ltb h least) refl e
  where
    go : (a : Bool) → leb cells h ≡ a → (b : Bool) → ltb h least ≡ b
        → or_else (refused_if a (Refusal.HashOutOfRange i)) (refused_if b (Refusal.CellNotAbove i)) ≡ none → (h < cells) × (least ≤ h)
    go true p b q f = let z : ◌≡◌ {A = ℕ} 0 1 = cc in absurd (omega arith)
    go false p true q f = let z : ◌≡◌ {A = ℕ} 0 1 = cc in absurd (omega arith)
    go false p false q f = (leb-false cells h p, ltb-false h least q)

-- The cells from place i on: the one there, and those after it.
pub hashes_at : (D least i : ℕ) (hs : List ℕ) → i < length hs
    → hashes_refusal D least i (drop i hs) ≡ or_else (cell_refusal (n_hash D) least (get_or hs i 0) i) (hashes_refusal D (get_or hs i 0 + 1) (i + 1) (drop (i + 1) hs))
unfolding hashes_refusal
hashes_at D least i hs p = rw (drop-cons hs i 0 p, add-one i) refl

pub hashes_end : (D least i : ℕ) (hs : List ℕ) → length hs ≤ i → hashes_refusal D least i (drop i hs) ≡ none
unfolding hashes_refusal
hashes_end D least i hs p = rw (drop_of_length-le hs p) refl

-- ---- what passing a check tells
pub or_false_both : (a b : Bool) → (a || b) ≡ false → (a ≡ false) × (b ≡ false)
or_false_both true b e = absurd (true≢false e)
or_false_both false b e = (refl, e)

pub settings-pass : (K D M : ℕ) (T : Float) → settings_refusal K D M T ≡ none → D ≤ K
unfolding settings_refusal
settings-pass K D M T e = ltb-false K D (refused_if-none _ _ (or_else_none _ _ e).0)

pub lengths_pass : (m zs vs hs batch : ℕ) → lengths_refusal m zs vs hs batch ≡ none → (zs ≡ vs) × (m ≤ zs) × (hs ≡ batch)
unfolding lengths_refusal
lengths_pass m zs vs hs batch e =
    let b = or_false_both (not (eqb zs vs)) _ (refused_if-none _ _ e) in
    let d = or_false_both (ltb zs m) (not (eqb hs batch)) b.1 in
    (eqb-true zs vs (not-false _ b.0), ltb-false zs m d.0, eqb-true hs batch (not-false _ d.1))

pub map_passes : (K D : ℕ) (zs : List ℕ) → map_refusal (first_fault K D zs) ≡ none → ValidMap K D zs
unfolding map_refusal
map_passes K D zs e = (no_fault_iff_valid K D zs).0 (go (first_fault K D zs) e)
  where
    go : (f : Answer FirstFault) → map_refusal f ≡ none → f ≡ None
    go None q = refl
    go (Some first) q = let z : ◌≡◌ {A = ℕ} 0 1 = cc in absurd (omega arith)

pub space_passes : (places m batch : ℕ) → space_refusal places m batch ≡ none → m + batch ≤ places
unfolding space_refusal
space_passes places m batch e = ltb-false places (m + batch) (refused_if-none _ _ e)

-- The cells of a batch with their values: the one at place i and those after it, and that where all pass they are cells of
-- their depth.
module _ {A : Type 0} (bad : A → Bool) (D least i : ℕ) (hs : List ℕ) (vs : List A) where
  pub cells_at : (u : A) → i < length hs → i < length vs
      → cells_refusal bad D least i (drop i hs) (drop i vs)
      ≡ or_else (cell_refusal (n_hash D) least (get_or hs i 0) i)
      (or_else (refused_if (bad (get_or vs i u)) (Refusal.InvalidDensity i)) (cells_refusal bad D (get_or hs i 0 + 1) (i + 1) (drop (i + 1) hs) (drop (i + 1) vs)))
  unfolding cells_refusal
  cells_at u p q = rw (drop-cons hs i 0 p, drop-cons vs i u q, add-one i) refl

  pub cells-end : length hs ≤ i → cells_refusal bad D least i (drop i hs) (drop i vs) ≡ none
  unfolding cells_refusal
  cells-end p = rw (drop_of_length-le hs p) refl

-- Where all pass, the cells are of their depth, and they rise.
module _ {A : Type 0} (bad : A → Bool) (D : ℕ) where
  first_passes : (least i h : ℕ) (hs : List ℕ) (v : A) (vs : List A) → cells_refusal bad D least i (h ∷ hs) (v ∷ vs) ≡ none
      → (h < n_hash D) × (least ≤ h) × (cells_refusal bad D (h + 1) (i + 1) hs vs ≡ none)
  unfolding cells_refusal
  first_passes least i h hs v vs e =
      let rest = cells_refusal bad D (h + 1) (i + 1) hs vs in
      let value = refused_if (bad v) (Refusal.InvalidDensity i) in
      let q = or_else_none (cell_refusal (n_hash D) least h i) (or_else value rest) e in
      let c = cell_passes (n_hash D) least h i q.0 in
      (c.0, c.1, (or_else_none value rest q.1).1)

  cells_below : (least i : ℕ) (hs : List ℕ) (vs : List A) → length hs ≡ length vs → cells_refusal bad D least i hs vs ≡ none → (k : ℕ) → k < length hs → get_or hs k 0 < n_hash D
  cells_below least i [] vs n e k p = absurd (omega arith)
  cells_below least i (h ∷ hs) [] n e k p = absurd (omega arith)
  cells_below least i (h ∷ hs) (v ∷ vs) n e zero p = (first_passes least i h hs v vs e).0
  cells_below least i (h ∷ hs) (v ∷ vs) n e (suc k) p = cells_below (h + 1) (i + 1) hs vs (omega arith) (first_passes least i h hs v vs e).2 k (omega arith)

  cells_above : (least i : ℕ) (hs : List ℕ) (vs : List A) → length hs ≡ length vs → cells_refusal bad D least i hs vs ≡ none → (k : ℕ) → k + 1 < length hs → get_or hs k 0 < get_or hs (k + 1) 0
  cells_above least i [] vs n e k p = absurd (omega arith)
  cells_above least i (h ∷ hs) [] n e k p = absurd (omega arith)
  cells_above least i (h ∷ []) (v ∷ vs) n e zero p = absurd (omega arith)
  cells_above least i (h ∷ g ∷ hs) (v ∷ []) n e zero p = absurd (omega arith)
  cells_above least i (h ∷ g ∷ hs) (v ∷ w ∷ vs) n e zero p =
      let q = (first_passes (h + 1) (i + 1) g hs w vs (first_passes least i h (g ∷ hs) v (w ∷ vs) e).2).1 in omega arith
  cells_above least i (h ∷ hs) (v ∷ vs) n e (suc k) p =
      let m : suc k + 1 ≡ suc (k + 1) = omega arith in
      rw m (cells_above (h + 1) (i + 1) hs vs (omega arith) (first_passes least i h hs v vs e).2 k (omega arith))

  pub cells_pass : (least i : ℕ) (hs : List ℕ) (vs : List A) → length hs ≡ length vs → cells_refusal bad D least i hs vs ≡ none → Rising D hs
  cells_pass least i hs vs n e = record { below = cells_below least i hs vs n e; above = cells_above least i hs vs n e }

-- Where no value is bad, the hashes are all that is tried.
pub cells_by_hashes : (D least i : ℕ) (hs ns : List ℕ) → length hs ≡ length ns → cells_refusal never D least i hs ns ≡ hashes_refusal D least i hs
unfolding cells_refusal hashes_refusal
cells_by_hashes D least i [] ns e = refl
cells_by_hashes D least i (h ∷ hs) [] e = absurd (omega arith)
cells_by_hashes D least i (h ∷ hs) (n ∷ ns) e = ap (or_else (cell_refusal (n_hash D) least h i)) (cells_by_hashes D (h + 1) (i + 1) hs ns (omega arith))

-- ---- totals
-- A total that is not refused fits.
sum_fits : (sum i : ℕ) (ns : List ℕ) → sum ≤ 4294967295 → sum_refusal sum i ns ≡ none → sum + sum_of ns ≤ 4294967295
unfolding sum_refusal sum_of
sum_fits sum i [] l e = omega arith
sum_fits sum i (n ∷ ns) l e =
    let p = or_else_none _ _ e in
    let q = sum_fits (sum + n) (i + 1) ns (ltb-false 4294967295 (sum + n) (refused_if-none _ _ p.0)) p.1 in
    omega arith

pub total_fits : (sum : ℕ) (ns : List ℕ) → total_refusal sum ns ≡ none → sum + sum_of ns ≤ 4294967295
unfolding total_refusal
total_fits sum ns e = let p = or_else_none _ _ e in sum_fits sum 0 ns (ltb-false 4294967295 sum (refused_if-none _ _ p.0)) p.1

-- and one that fits is not refused.
sum_not_refused : (sum i : ℕ) (ns : List ℕ) → sum + sum_of ns ≤ 4294967295 → sum_refusal sum i ns ≡ none
unfolding sum_refusal sum_of
sum_not_refused sum i [] l = refl
sum_not_refused sum i (n ∷ ns) l = rw (le-ltb 4294967295 (sum + n) (omega arith)) (sum_not_refused (sum + n) (i + 1) ns (omega arith))

pub total_passes : (sum : ℕ) (ns : List ℕ) → sum + sum_of ns ≤ 4294967295 → total_refusal sum ns ≡ none
unfolding total_refusal
total_passes sum ns l = rw (le-ltb 4294967295 sum (omega arith)) (sum_not_refused sum 0 ns l)

-- The capped sum tells as much as the sum.
pub capped_refusal : (vs ns : List ℕ) → total_refusal (capped_sum vs) ns ≡ total_refusal (sum_of vs) ns
unfolding total_refusal capped_sum
capped_refusal vs ns = ⊎_elim small large (le_or_lt (sum_of vs) 4294967295)
  where
    small : sum_of vs ≤ 4294967295 → total_refusal (capped_sum vs) ns ≡ total_refusal (sum_of vs) ns
    small l = let e : min (sum_of vs) 4294967296 ≡ sum_of vs = omega arith in rw e refl

    large : 4294967295 < sum_of vs → total_refusal (capped_sum vs) ns ≡ total_refusal (sum_of vs) ns
    large l = rw (lt-ltb 4294967295 (min (sum_of vs) 4294967296) (omega arith), lt-ltb 4294967295 (sum_of vs) l) refl
