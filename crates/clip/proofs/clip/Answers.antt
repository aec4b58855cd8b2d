-- `clip` meets its contract: the cells are counted, and written where there is space. Assumes nothing.
use mathlib.Core.Path.{sym, ◌∙◌}
use native.Mathlib.Omega.{arith}
use Rattle.merger.specs.Floats.{0·0}
use lib.Ieee.{of_bits}
use lib.ListN.{length}
use Rattle.std.proofs.lemmas.Result.{err_from_is_err_and}
use Rattle.refusal.proofs.Checks.{none_of_ok, some_of_err}
use Rattle.build.proofs.Accepted.{cleared}
use Rattle.clip.proofs.Call.{Passed, can_count, passes_all, call_refused, call_no_space, call_clipped}
use Rattle.clip.proofs.clip.Goals as goal
use Rattle.clip.proofs.clip.Goals.{In_ok-check}

-- ---- a point on the way: the map and the coverage are accepted

accepted : (c : In_ok-check) → Passed (record { depth = c.args.depth; zuniqs = c.args.map_zuniqs.now; values = c.args.map_densities.now }) c.args.starts.now c.args.ends.now (length c.args.zuniqs.now) (length c.args.densities.now)
accepted c = passes_all _ _ _ _ _ (none_of_ok _ _ _ (sym c.check.ensures ∙ c.in_ok-check.was))

pub returns-in_err-check : goal.returns-in_err-check
returns-in_err-check c =
    let p = err_from_is_err_and c.from_residual.result c.from_residual.ensures.1 in
    rw (p.1, p.2) (call_refused _ _ _ _ _ _ (some_of_err _ _ _ (sym c.check.ensures ∙ c.in_err-check.was)))

pub walk-cells-requires : goal.walk-cells-requires
walk-cells-requires c = let p = (accepted (goal.at.walk-cells-requires c).In_ok-check) in record { holds = (p.holds, p.ranges, p.parted); room = can_count _ _ _ _ }

pub returns-then-zuniqs-cells : goal.returns-then-zuniqs-cells
returns-then-zuniqs-cells c = call_no_space _ _ _ _ _ (accepted (goal.at.returns-then-zuniqs-cells c).In_ok-check) (omega (arith, c.walk-cells.ensures.0, c.if-zuniqs-cells.true))

pub walk-written-requires : goal.walk-written-requires
walk-written-requires c = let p = (accepted (goal.at.walk-written-requires c).In_ok-check) in record { holds = (p.holds, p.ranges, p.parted); room = (omega (arith, c.walk-cells.ensures.0, c.if-zuniqs-cells.false), omega (arith, c.walk-cells.ensures.0, c.if-zuniqs-cells.false, p.paired)) }

pub offset_bounds-zuniqs-written : goal.offset_bounds-zuniqs-written
offset_bounds-zuniqs-written c = omega (arith, c.well_formed, c.walk-cells.ensures.0, c.walk-written.ensures.0, c.if-zuniqs-cells.false, c.walk-written.auto.zuniqs, c.walk-written.auto.densities, (accepted (goal.at.offset_bounds-zuniqs-written c).In_ok-check).paired)

pub offset_bounds-densities-written : goal.offset_bounds-densities-written
offset_bounds-densities-written c = omega (arith, c.well_formed, c.walk-cells.ensures.0, c.walk-written.ensures.0, c.if-zuniqs-cells.false, c.walk-written.auto.zuniqs, c.walk-written.auto.densities, (accepted (goal.at.offset_bounds-densities-written c).In_ok-check).paired)

pub slice_bounds-fill-count : goal.slice_bounds-fill-count
slice_bounds-fill-count c = omega (arith, c.walk-cells.ensures.0, c.walk-written.ensures.0, c.if-zuniqs-cells.false, c.walk-written.auto.zuniqs, c.walk-written.auto.densities, (accepted (goal.at.slice_bounds-fill-count c).In_ok-check).paired)

pub slice_bounds-fill-start : goal.slice_bounds-fill-start
slice_bounds-fill-start c = omega (arith, c.walk-cells.ensures.0, c.walk-written.ensures.0, c.if-zuniqs-cells.false, c.walk-written.auto.zuniqs, c.walk-written.auto.densities, (accepted (goal.at.slice_bounds-fill-start c).In_ok-check).paired)

pub returns : goal.returns
unfolding of_bits
returns c = call_clipped _ _ _ _ _ (accepted (goal.at.returns c).In_ok-check) _ _ _ _ _ c.walk-written.ensures.0 (omega (arith, c.walk-cells.ensures.0, c.walk-written.ensures.0, c.if-zuniqs-cells.false, c.walk-written.auto.zuniqs, c.walk-written.auto.densities, (accepted (goal.at.returns c).In_ok-check).paired)) c.walk-written.ensures.1 c.walk-written.auto.zuniqs c.walk-written.auto.densities (cleared c.walk-written.result c.walk-written.new.zuniqs _ 0 (omega (arith, c.walk-cells.ensures.0, c.walk-written.ensures.0, c.if-zuniqs-cells.false, c.walk-written.auto.zuniqs, c.walk-written.auto.densities, (accepted (goal.at.returns c).In_ok-check).paired)) (c.fill.ensures.after (λ y k. k))) (cleared c.walk-written.result c.walk-written.new.densities _ 0·0 (omega (arith, c.walk-cells.ensures.0, c.walk-written.ensures.0, c.if-zuniqs-cells.false, c.walk-written.auto.zuniqs, c.walk-written.auto.densities, (accepted (goal.at.returns c).In_ok-check).paired)) (c.fill-2.ensures.after (λ y k. k)))
