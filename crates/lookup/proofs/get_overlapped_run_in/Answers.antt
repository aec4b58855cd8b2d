-- `get_overlapped_run_in` meets its contract. Assumes nothing.
use mathlib.Core.Path.{sym, ◌∙◌}
use native.Mathlib.Omega.{arith}
use Rattle.mom.proofs.Ranges.{has_range}
use Rattle.mom.proofs.Answers.{run_refused, run_answer, empty_answer}
use Rattle.lookup.proofs.get_overlapped_run_in.Goals as goal

pub returns-in_default : goal.returns-in_default
returns-in_default g c = run_refused (sym c.range_of.ensures ∙ c.in_default.is)

pub returns-then-first-end : goal.returns-then-first-end
returns-then-first-end g c =
    let range = has_range _ _ _ (sym c.range_of.ensures ∙ c.in-Some.is) in
    run_answer range c.lower_bound_in-place.ensures c.run_start-first.ensures c.run_end-end.ensures (omega (arith, c.if-first-end.true))

pub returns : goal.returns
returns g c =
    let range = has_range _ _ _ (sym c.range_of.ensures ∙ c.in-Some.is) in
    empty_answer range c.lower_bound_in-place.ensures c.run_start-first.ensures c.run_end-end.ensures (omega (arith, c.if-first-end.false))
