-- `is_last` meets its contract. Assumes nothing.
use mathlib.Core.Path.{◌≡◌, sym, ◌∙◌}
use Prim.Native.Nat.{◌-◌}
use native.Mathlib.Omega.{arith}
use lib.ListN.{get_or}
use borrow.Author.Tests.{eq-eqb, ne_eqb, lt-ltb, le-ltb}
use Rattle.zuniq.specs.Codec.{decode}
use Rattle.zuniq.specs.declared.Decoded.{Decoded}
use Rattle.tally.proofs.is_last.Goals as goal
use Rattle.tally.proofs.is_last.Goals.{In-Cell}

-- ---- the last entry is decoded

last_is : (c : In-Cell) → decode 29 (get_or c.args.zuniqs.now (c.args.n - 1) 0) ≡ Decoded.Cell c.in-Cell.last
last_is c = sym c.from_zuniq.ensures.answer ∙ c.in-Cell.is

pub returns-then-hash-ne3 : goal.returns-then-hash-ne3
returns-then-hash-ne3 c = rw (ne_eqb _ 3 c.if-hash-ne3.true)

pub returns-in_default : goal.returns-in_default
returns-in_default c =
    rw (eq-eqb _ 3 c.if-hash-ne3.false, sym c.from_zuniq.ensures.answer ∙ c.in_default.is)

pub returns-then-n-gt1 : goal.returns-then-n-gt1
returns-then-n-gt1 c =
    rw (eq-eqb _ 3 c.if-hash-ne3.false, last_is (goal.at.returns-then-n-gt1 c).In-Cell, lt-ltb 1 c.args.n c.if-n-gt1.true)

pub returns : goal.returns
returns c =
    rw (eq-eqb _ 3 c.if-hash-ne3.false, last_is (goal.at.returns c).In-Cell, le-ltb 1 c.args.n (let u = c.if-n-gt1.false in omega arith)) c.is_lone.ensures
