-- `reached` meets its contract. Assumes nothing.
use borrow.Author.Tests.{eq-eqb, ne_eqb}
use Rattle.tally.proofs.reached.Goals as goal

pub returns-then-first-running : goal.returns-then-first-running
returns-then-first-running c = rw (eq-eqb _ _ c.if-first-running.true)

pub returns : goal.returns
returns c = rw (ne_eqb _ _ c.if-first-running.false) c.settle.ensures
