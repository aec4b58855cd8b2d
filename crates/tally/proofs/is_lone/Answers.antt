-- `is_lone` meets its contract. Assumes nothing.
use native.Mathlib.Omega.{arith}
use borrow.Author.Tests.{eq-eqb, ne_eqb, lt-ltb, le-ltb}
use Rattle.tally.proofs.is_lone.Goals as goal

pub returns-then-live-gt0 : goal.returns-then-live-gt0
returns-then-live-gt0 c = rw (ne_eqb c.args.live 0 (λ e. let u = c.if-live-gt0.true in omega arith))

pub returns-then-depth-eq0 : goal.returns-then-depth-eq0
returns-then-depth-eq0 c = rw (eq-eqb c.args.live 0 (let u = c.if-live-gt0.false in omega arith), le-ltb 0 c.args.depth (let u = c.if-depth-eq0.true in omega arith))

pub returns : goal.returns
returns c = rw (eq-eqb c.args.live 0 (let u = c.if-live-gt0.false in omega arith), lt-ltb 0 c.args.depth (let u = c.if-depth-eq0.false in omega arith))
