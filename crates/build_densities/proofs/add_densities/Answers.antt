-- `add_densities` meets its contract. Assumes nothing.
use mathlib.Core.Path.{◌≡◌, refl, sym, ◌∙◌, subst, subst₂}
use mathlib.Core.List.{List}
use mathlib.Core.Option.{Option, none, some}
use Prim.Native.Nat.{ℕ, ◌≤◌}
use native.Mathlib.Omega.{arith}
use lib.Ieee.{Float, of_bits, binary64}
use lib.ListN.{length, take}
use lib.Seq.{length-take-le}
use Rattle.std.proofs.Common.{rules}
use Rattle.refusal.specs.declared.Refusal.{Refusal}
use Rattle.refusal.specs.Checks.{or_else}
use Rattle.refusal.proofs.Checks.{none_of_ok, some_of_err}
use Rattle.merger.specs.Floats.{0·0, invalid_density}
use Rattle.merger.specs.Merge.{accept_densities}
use Rattle.build.specs.Buffers.{held, batch}
use Rattle.build.specs.Standing.{Added}
use Rattle.build.specs.Calls.{add_call}
use Rattle.build.specs.Add.{cells_refusal, space_refusal}
use Rattle.build.specs.Densities.{density_refusal, densities_refusal, add_densities}
use Rattle.build.proofs.Accepted.{Accepted, HeldPassed, held_passes, densities_after_held, densities_by_batch, may_push, cleared}
use Rattle.build.proofs.DensityCalls.{densities_accepted, densities_left, no_total}
use Rattle.build_densities.proofs.add_densities.Goals as goal
use Rattle.build_densities.proofs.add_densities.Goals.{In_ok-check_batch, In_ok-map, Start}

-- ---- what the call is refused for
abbrev fault : Start → Option Refusal
fault c =
    let a = c.args in
    densities_refusal a.protected.now a.depth a.depth_threshold a.chi2_threshold a.held (length a.zuniqs.now) (length a.densities.now) (take a.held a.zuniqs.now) (take a.held a.densities.now) a.hashes.now a.batch.now

by_batch : (c : In_ok-map) → let a = c.args in
    fault (goal.at.In_ok-map c).Start
    ≡ or_else (density_refusal 0 (take a.held a.densities.now)) (or_else (cells_refusal invalid_density a.depth c.in_ok-map.map.end 0 a.hashes.now a.batch.now) (space_refusal (length a.zuniqs.now) (length (take a.held a.densities.now)) (length a.hashes.now)))
by_batch c =
    let a = c.args in
    densities_by_batch a.protected.now a.depth a.depth_threshold a.chi2_threshold a.held c.in_ok-map.map.end a.zuniqs.now a.densities.now a.hashes.now a.batch.now c.in_ok-map.ensures.1 c.in_ok-map.ensures.2

-- ---- what has passed
passed : (c : In_ok-map) → let a = c.args in HeldPassed 29 a.depth a.held (length a.zuniqs.now) (length a.densities.now) (length a.hashes.now) (length a.batch.now)
passed c =
    let a = c.args in
    held_passes 29 a.protected.now a.depth a.depth_threshold a.chi2_threshold a.held (length a.zuniqs.now) (length a.densities.now) (take a.held a.zuniqs.now) _ _ c.in_ok-map.ensures.1

within : (c : In_ok-map) → c.args.held ≤ length c.args.densities.now
within c = omega (arith, (passed c).within, (passed c).paired)

passed_all : (c : In_ok-check_batch) → fault (goal.at.In_ok-check_batch c).Start ≡ none
passed_all c = by_batch (goal.at.In_ok-check_batch c).In_ok-map ∙ none_of_ok _ _ _ (sym c.check_batch.ensures ∙ c.in_ok-check_batch.was)

accepted : (c : In_ok-check_batch) → let a = c.args in Accepted invalid_density 29 a.depth a.held (length a.zuniqs.now) (length a.densities.now) (take a.held a.zuniqs.now) a.hashes.now a.batch.now
accepted c =
    let a = c.args in
    (densities_accepted a.protected.now a.depth a.depth_threshold a.chi2_threshold a.held (length a.zuniqs.now) (length a.densities.now) (take a.held a.zuniqs.now) (take a.held a.densities.now) a.hashes.now a.batch.now (passed_all c)).0

zero_is : of_bits binary64 0 ≡ 0·0
unfolding of_bits
zero_is = refl

-- ---- the answers
pub returns-in_err-map : goal.returns-in_err-map
unfolding add_densities add_call
returns-in_err-map c =
    let a = c.args in
    let row = c.in_err-map.ensures in
    let e : fault (goal.at.returns-in_err-map c).Start ≡ some c.in_err-map.field-0.0 =
    densities_after_held a.protected.now a.depth a.depth_threshold a.chi2_threshold a.held (length a.zuniqs.now) (length a.densities.now) (take a.held a.zuniqs.now) (take a.held a.densities.now) a.hashes.now a.batch.now ∙ (rw row refl) in
    rw e (search rules)

pub slice_bounds-check_batch-end : goal.slice_bounds-check_batch-end
slice_bounds-check_batch-end c = within c

pub slice_bounds-check_batch-end-2 : goal.slice_bounds-check_batch-end-2
slice_bounds-check_batch-end-2 c = sym (length-take-le c.args.held c.args.densities.now (within c))

pub check_batch-requires : goal.check_batch-requires
check_batch-requires c = ((passed c).shallow, (passed c).batched)

pub returns-in_err-check_batch : goal.returns-in_err-check_batch
unfolding add_densities add_call
returns-in_err-check_batch c =
    let row = some_of_err _ _ _ (sym c.check_batch.ensures ∙ c.in_err-check_batch.was) in
    rw (by_batch (goal.at.returns-in_err-check_batch c).In_ok-map ∙ row) (search rules)

pub new-merger-requires : goal.new-merger-requires
new-merger-requires c = omega (arith, c.saturating_sub-parent_depth.ensures, (passed (goal.at.new-merger-requires c).In_ok-map).shallow)

pub push_all-entries-requires-clause-stands : goal.push_all-entries-requires-clause-stands
push_all-entries-requires-clause-stands c = (may_push {zs = c.args.zuniqs.now} {vs = c.args.densities.now} (accepted (goal.at.push_all-entries-requires-clause-stands c).In_ok-check_batch)).0

pub push_all-entries-requires-clause-rising : goal.push_all-entries-requires-clause-rising
push_all-entries-requires-clause-rising c = (may_push {zs = c.args.zuniqs.now} {vs = c.args.densities.now} (accepted (goal.at.push_all-entries-requires-clause-rising c).In_ok-check_batch)).1

pub push_all-entries-requires-clause-batch_bound : goal.push_all-entries-requires-clause-batch_bound
push_all-entries-requires-clause-batch_bound c =
    let a = c.args in
    omega (arith, no_total (held 29 a.held a.zuniqs.now a.densities.now), no_total (batch a.depth a.hashes.now a.batch.now))

pub returns : goal.returns
returns c =
    let a = c.args in
    let n = c.push_all-entries.result in
    let zs₁ = c.push_all-entries.new.zuniqs in
    let vs₁ = c.push_all-entries.new.values in
    let m = c.new-merger.result in
    let e = c.new-merger.ensures in
    let at : List ℕ → ℕ → Float → Type 0 = λ ps M T. Added (accept_densities ps M T) 29 a.held (batch a.depth a.hashes.now a.batch.now) a.zuniqs.now a.densities.now n zs₁ vs₁ in
    let w =
    subst (λ (ps : List ℕ). at ps a.depth_threshold a.chi2_threshold) (e.2 ∙ c.in_ok-map.ensures.0)
    (subst₂ (λ (M : ℕ) (T : Float). at m.protected.zuniqs.now M T) e.0 e.1 c.push_all-entries.ensures) in
    let zs = cleared n zs₁ _ 0 w.stands.zuniqs c.clear.ensures in
    let vs = cleared n vs₁ _ 0·0 w.stands.values (rw zero_is at c.clear-2.ensures) in
    densities_left a.protected.now a.depth a.depth_threshold a.chi2_threshold a.held a.zuniqs.now a.densities.now a.hashes.now a.batch.now (passed_all (goal.at.returns c).In_ok-check_batch) n zs₁ vs₁ _ _ w
    c.push_all-entries.auto.zuniqs c.push_all-entries.auto.values zs vs
