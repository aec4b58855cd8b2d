-- `run_end` meets its contract. The invariant of its loop: the entries from the place on and before `end`
-- overlap the query. Assumes nothing.
use mathlib.Core.Path.{◌≡◌, sym, ◌∙◌}
use native.Mathlib.Omega.{arith}
use Rattle.mom.proofs.Searching.{found_none_from, found_from, ends_before, ends_with_all}
use Rattle.lookup.proofs.run_end.Goals as goal

pub loop-end-init : goal.loop-end-init
loop-end-init g c = found_none_from c.requires

pub returns-then-not-is_overlapped : goal.returns-then-not-is_overlapped
returns-then-not-is_overlapped g c = ends_before c.loop-end.invariant (rw c.zuniq_at.ensures at (sym c.is_overlapped.ensures ∙ c.if-not-is_overlapped.true))

pub loop-end-preserved : goal.loop-end-preserved
loop-end-preserved g c =
    found_from c.loop-end.invariant (omega (arith, c.loop-end-test.true, c.n_zuniqs-len.ensures))
    (rw c.zuniq_at.ensures at (sym c.is_overlapped.ensures ∙ c.if-not-is_overlapped.false))

pub returns : goal.returns
returns g c =
    let e : c.n_zuniqs-len.result ≡ c.loop-end.end = omega (arith, c.n_zuniqs-len.ensures, c.loop-end.invariant.within, c.loop-end-test.false) in
    rw e (ends_with_all c.loop-end.invariant (omega (arith, c.n_zuniqs-len.ensures, c.loop-end-test.false)))
