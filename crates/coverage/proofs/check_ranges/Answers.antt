-- `check_ranges` meets its contract. The invariant of its loop: the ranges so far pass. Assumes nothing.
use mathlib.Core.Path.{ap, sym, ◌∙◌}
use mathlib.Core.Logic.{inl, inr, ⊎_elim}
use native.Mathlib.Omega.{arith}
use borrow.Author.Tests.{le-leb, lt-leb, le-ltb, lt-ltb}
use Rattle.zuniq.specs.Cells.{n_hash}
use Rattle.refusal.specs.Checks.{check_of}
use Rattle.coverage.proofs.Given.{one_true, none_true, faulty_here, passed_here, passed_all}
use Rattle.coverage.proofs.check_ranges.Goals as goal

pub loop-i-preserved : goal.loop-i-preserved
loop-i-preserved c =
    let l = c.loop-i in
    let a = c.args in
    let p = none_true _ _ _ (lt-leb _ _ c.if-end-start.false) (le-ltb _ _ c.if-end-sky.false) (le-ltb _ _ c.if-start-least.false) in
    l.invariant ∙ passed_here a.starts.now a.ends.now l.i _ l.least c.loop-i-test.true (omega (arith, c.requires, c.loop-i-test.true)) p

pub returns-then-end-start : goal.returns-then-end-start
returns-then-end-start c =
    let l = c.loop-i in
    let a = c.args in
    let f = one_true _ _ _ (⊎_elim (λ w. inl (le-leb _ _ w)) (⊎_elim (λ w. inr (inl (lt-ltb _ _ w.1))) (λ w. inr (inr (lt-ltb _ _ w.2)))) c.then-end-start.either) in
    rw (← c.n_hash_unchecked-sky.ensures) (sym (ap check_of (l.invariant ∙ faulty_here a.starts.now a.ends.now l.i _ l.least c.loop-i-test.true (omega (arith, c.requires, c.loop-i-test.true)) f)))

pub overflow_add-least : goal.overflow_add-least
unfolding n_hash
overflow_add-least c =
    omega (arith, c.if-end-sky.false, c.n_hash_unchecked-sky.ensures)

pub returns : goal.returns
returns c =
    let l = c.loop-i in
    let a = c.args in
    rw (← c.n_hash_unchecked-sky.ensures) (sym (ap check_of (l.invariant ∙ passed_all a.starts.now a.ends.now l.i _ l.least c.loop-i-test.false)))
