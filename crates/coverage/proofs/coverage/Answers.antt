-- `coverage` meets its contract. Assumes nothing.
use mathlib.Core.Path.{sym, ◌∙◌}
use native.Mathlib.Omega.{arith}
use lib.ListN.{length}
use Rattle.std.proofs.lemmas.Result.{err_from_is_err_and}
use Rattle.refusal.proofs.Checks.{none_of_ok, some_of_err}
use Rattle.build.proofs.Accepted.{cleared}
use Rattle.coverage.proofs.Call.{Passed, passes_all, call_refused, call_no_space, call_written}
use Rattle.coverage.proofs.coverage.Goals as goal
use Rattle.coverage.proofs.coverage.Goals.{In_ok-check}

-- ---- points on the way: the map is accepted, there is space for its ranges, they are written, the starts behind are cleared

accepted : (c : In_ok-check) → Passed c.args.depth c.args.zuniqs.now (length c.args.starts.now) (length c.args.ends.now)
accepted c = passes_all _ _ _ _ (none_of_ok _ _ _ (sym c.check.ensures ∙ c.in_ok-check.was))

pub returns-in_err-check : goal.returns-in_err-check
returns-in_err-check c =
    let a = c.args in
    let p = err_from_is_err_and c.from_residual.result c.from_residual.ensures.1 in
    rw (p.1, p.2) (call_refused a.depth a.zuniqs.now a.starts.now a.ends.now _ (some_of_err _ _ _ (sym c.check.ensures ∙ c.in_err-check.was)))

pub count_ranges-ranges-requires : goal.count_ranges-ranges-requires
count_ranges-ranges-requires c = (accepted (goal.at.count_ranges-ranges-requires c).In_ok-check).valid.valid

pub returns-then-starts-ranges : goal.returns-then-starts-ranges
returns-then-starts-ranges c =
    let a = c.args in
    call_no_space a.depth a.zuniqs.now a.starts.now a.ends.now (accepted (goal.at.returns-then-starts-ranges c).In_ok-check) c.count_ranges-ranges.result c.count_ranges-ranges.ensures c.if-starts-ranges.true

pub write_ranges-requires : goal.write_ranges-requires
write_ranges-requires c =
    let p = accepted (goal.at.write_ranges-requires c).In_ok-check in
    (p.valid.valid, omega (arith, c.count_ranges-ranges.ensures, c.if-starts-ranges.false), omega (arith, c.count_ranges-ranges.ensures, c.if-starts-ranges.false, p.paired))

pub returns : goal.returns
returns c =
    let p = accepted (goal.at.returns c).In_ok-check in
    call_written _ _ _ _ p _ _ _ _ _ c.count_ranges-ranges.ensures c.if-starts-ranges.false c.write_ranges.ensures c.write_ranges.auto.starts c.write_ranges.auto.ends
    (cleared c.count_ranges-ranges.result c.write_ranges.new.starts _ 0 (omega (arith, c.if-starts-ranges.false, c.write_ranges.auto.starts)) (c.fill.ensures.after (λ y k. k)))
    (cleared c.count_ranges-ranges.result c.write_ranges.new.ends _ 0 (omega (arith, c.if-starts-ranges.false, p.paired, c.write_ranges.auto.ends)) (c.fill-2.ensures.after (λ y k. k)))
