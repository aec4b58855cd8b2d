-- `first_fault_in` meets its contract. The invariant of its loop: the entries before `place` have no fault, and the one before
-- it is carried along with its end. Assumes nothing.
use mathlib.Core.Path.{sym, ◌∙◌}
use native.Mathlib.Omega.{arith}
use Rattle.mom.proofs.Passed.{passed_none, passed_all, not_zuniq_here, too_deep_here, not_above_here, overlapping_here, passed_on}
use Rattle.mom.proofs.first_fault_in.Goals as goal

pub loop-place-init : goal.loop-place-init
loop-place-init g c = passed_none

pub returns-in_default : goal.returns-in_default
returns-in_default g c = not_zuniq_here c.loop-place.invariant (omega (arith, c.loop-place-test.true, c.n_zuniqs-place-end.ensures)) c.zuniq_at-zuniq.ensures (sym c.range_of.ensures ∙ c.in_default.is)

pub returns-then-range-depth : goal.returns-then-range-depth
returns-then-range-depth g c = too_deep_here c.loop-place.invariant (omega (arith, c.loop-place-test.true, c.n_zuniqs-place-end.ensures)) c.zuniq_at-zuniq.ensures (sym c.range_of.ensures ∙ c.in-Some.is) (omega (arith, c.if-range-depth.true))

pub returns-then-as_u64-zuniq_before : goal.returns-then-as_u64-zuniq_before
returns-then-as_u64-zuniq_before g c =
    not_above_here c.loop-place.invariant (omega (arith, c.loop-place-test.true, c.n_zuniqs-place-end.ensures)) c.zuniq_at-zuniq.ensures (sym c.range_of.ensures ∙ c.in-Some.is)
    (omega (arith, c.if-range-depth.false)) (omega (arith, c.if-range-end_before.true)) (omega (arith, c.as_u64.ensures, c.if-as_u64-zuniq_before.true))

pub returns-then-range-end_before : goal.returns-then-range-end_before
returns-then-range-end_before g c =
    overlapping_here c.loop-place.invariant (omega (arith, c.loop-place-test.true, c.n_zuniqs-place-end.ensures)) c.zuniq_at-zuniq.ensures (sym c.range_of.ensures ∙ c.in-Some.is)
    (omega (arith, c.if-range-depth.false)) (omega (arith, c.if-range-end_before.true)) (omega (arith, c.as_u64.ensures, c.if-as_u64-zuniq_before.false))

pub loop-place-preserved : goal.loop-place-preserved
loop-place-preserved g c =
    rw c.as_u64-zuniq_before.ensures
    (passed_on c.loop-place.invariant (omega (arith, c.loop-place-test.true, c.n_zuniqs-place-end.ensures)) c.zuniq_at-zuniq.ensures (sym c.range_of.ensures ∙ c.in-Some.is) (omega (arith, c.if-range-depth.false)) (omega (arith, c.if-range-end_before.false)))

pub returns : goal.returns
returns g c = passed_all c.loop-place.invariant (omega (arith, c.loop-place-test.false, c.n_zuniqs-place-end.ensures))
