-- Two maps that pass the checks of a call: their entries rise, they are in the slices as the walk takes them, and what is made of
-- them is the same over the larger of their depths as over all depths that there are. Assumes nothing.
use mathlib.Core.Path.{◌≡◌, refl, ap, sym, ◌∙◌}
use mathlib.Core.Bool.{true, ◌||◌, not}
use mathlib.Core.Option.{none}
use Prim.Native.Nat.{ℕ, ◌≤◌}
use native.Mathlib.Omega.{arith}
use lib.Dec.{eqb, ltb}
use lib.Ieee.{Float}
use lib.ListN.{length}
use borrow.Author.Tests.{ltb-false, eqb-true, not-false}
use Rattle.zuniq.specs.Cells.{n_hash}
use Rattle.mom.specs.Map.{first_fault, ValidMap}
use Rattle.build.specs.Map.{Merger, defined_map}
use Rattle.build.specs.Promises.{Rises}
use Rattle.build.specs.Add.{map_refusal}
use Rattle.build.proofs.Order.{defined_map-deeper}
use Rattle.refusal.proofs.Checks.{or_else_none, refused_if-none}
use Rattle.build.proofs.Checking.{or_false_both, map_passes}
use Rattle.combine.specs.Overlay.{Split, overlay}
use Rattle.combine.specs.Rules.{Rule, kept, combined}
use Rattle.combine.specs.Slices.{passes}
use Rattle.combine.specs.Pool.{Given, entries, result_depth, settings_refusal, pairs_refusal, maps_refusal}
use Rattle.combine.proofs.Kept.{kept-overlay_rises}
use Rattle.combine.proofs.Deeper.{Shallow, overlay-deeper}
use Rattle.combine.proofs.Given.{entries_rise, entries_shallow}

-- Two maps that pass: of depths that there are, valid, each with a value for each zuniq; and output buffers of one length.
pub record Passed {A : Type 0} (l r : Given A) (places values : ℕ) : Type 0 where
  pub left_deep : l.depth ≤ 29
  pub right_deep : r.depth ≤ 29
  pub left_paired : length l.zuniqs ≡ length l.values
  pub right_paired : length r.zuniqs ≡ length r.values
  pub paired : places ≡ values
  pub left_valid : ValidMap 29 l.depth l.zuniqs
  pub right_valid : ValidMap 29 r.depth r.zuniqs
  pub left_passes : passes (map_refusal (first_fault 29 l.depth l.zuniqs)) ≡ true
  pub right_passes : passes (map_refusal (first_fault 29 r.depth r.zuniqs)) ≡ true

settings-pass : (Dl Dr M : ℕ) (T : Float) → settings_refusal Dl Dr M T ≡ none → (Dl ≤ 29) × (Dr ≤ 29)
unfolding settings_refusal
settings-pass Dl Dr M T e =
    let b = or_false_both (ltb 29 Dl) (ltb 29 Dr) (refused_if-none _ _ (or_else_none _ _ e).0) in
    (ltb-false 29 Dl b.0, ltb-false 29 Dr b.1)

pairs-pass : (lz lv rz rv places values : ℕ) → pairs_refusal lz lv rz rv places values ≡ none → (lz ≡ lv) × (rz ≡ rv) × (places ≡ values)
unfolding pairs_refusal
pairs-pass lz lv rz rv places values e =
    let b = or_false_both (not (eqb lz lv)) (not (eqb rz rv) || not (eqb places values)) (refused_if-none _ _ e) in
    let c = or_false_both (not (eqb rz rv)) (not (eqb places values)) b.1 in
    (eqb-true lz lv (not-false _ b.0), eqb-true rz rv (not-false _ c.0), eqb-true places values (not-false _ c.1))

pub passed : {A : Type 0} (l r : Given A) (M : ℕ) (T : Float) (places values : ℕ) → settings_refusal l.depth r.depth M T ≡ none
    → pairs_refusal (length l.zuniqs) (length l.values) (length r.zuniqs) (length r.values) places values ≡ none → maps_refusal l r ≡ none → Passed l r places values
unfolding maps_refusal
passed l r M T places values a b c =
    let d = settings-pass l.depth r.depth M T a in
    let p = pairs-pass _ _ _ _ places values b in
    let m = or_else_none (map_refusal (first_fault 29 l.depth l.zuniqs)) (map_refusal (first_fault 29 r.depth r.zuniqs)) c in
    record {
      left_deep = d.0;
      right_deep = d.1;
      left_paired = p.0;
      right_paired = p.1;
      paired = p.2;
      left_valid = map_passes 29 l.depth l.zuniqs m.0;
      right_valid = map_passes 29 r.depth r.zuniqs m.1;
      left_passes = rw m.0 refl;
      right_passes = rw m.1 refl;
    }

-- Their entries rise, and none is deeper than the result.
module _ {A : Type 0} (l r : Given A) (places values : ℕ) (p : Passed l r places values) where
  pub left_rises : Rises 29 0 (n_hash 29) (entries l)
  left_rises = entries_rise l.depth l.zuniqs l.values p.left_paired p.left_valid

  pub right_rises : Rises 29 0 (n_hash 29) (entries r)
  right_rises = entries_rise r.depth r.zuniqs r.values p.right_paired p.right_valid

  pub left_shallow : Shallow (result_depth l r) (entries l)
  left_shallow e m = omega (arith, entries_shallow l.depth l.zuniqs l.values p.left_paired p.left_valid e m)

  pub right_shallow : Shallow (result_depth l r) (entries r)
  right_shallow e m = omega (arith, entries_shallow r.depth r.zuniqs r.values p.right_paired p.right_valid e m)

  pub result_deep : result_depth l r ≤ 29
  result_deep = omega (arith, p.left_deep, p.right_deep)

  -- The cells that a rule keeps, and what merging makes of them, over all depths and over that of the result.
  module _ (split : Split A) (rule : Rule A) where
    pub kept-deeper : kept rule (overlay split 29 (entries l) (entries r)) ≡ kept rule (overlay split (result_depth l r) (entries l) (entries r))
    kept-deeper = ap (kept rule) (overlay-deeper split (entries l) (entries r) (result_depth l r) left_shallow right_shallow 29 result_deep)

    pub combined-deeper : (accept : Merger A) → combined accept split rule 29 (entries l) (entries r) ≡ combined accept split rule (result_depth l r) (entries l) (entries r)
    unfolding combined
    combined-deeper accept =
        ap (defined_map accept 29) kept-deeper
        ∙ sym (defined_map-deeper (result_depth l r) 29 result_deep accept (kept rule (overlay split (result_depth l r) (entries l) (entries r))) (kept-overlay_rises rule accept split (result_depth l r) (entries l) (entries r)))
