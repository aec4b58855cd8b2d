-- `meet` meets its contract. Assumes nothing.
use Rattle.combine.specs.Cells.{as_entry}
use Rattle.combine.proofs.Heads.{left_before, right_before, left_around, same_cell, left_before', right_before', right_around}
use native.Mathlib.Omega.{arith}
use Rattle.combine.proofs.by_heads.meet.Goals as goal

pub returns-then-a-ancestor : goal.returns-then-a-ancestor
returns-then-a-ancestor g c =
    left_before as_entry 29 c.args.a c.args.b c.if-a-b.true c.requires.1 c.if-a-ancestor.true

pub returns-then-ancestor-a : goal.returns-then-ancestor-a
returns-then-ancestor-a g c =
    right_before as_entry 29 c.args.a c.args.b c.if-a-b.true c.requires.1 c.if-ancestor-a.true

pub returns-then-a-b-2 : goal.returns-then-a-b-2
returns-then-a-b-2 g c =
    let x = c.if-a-ancestor.false in
    let y = c.if-ancestor-a.false in
    left_around as_entry 29 c.args.a c.args.b c.if-a-b.true c.requires.1 c.if-a-b-2.true (omega arith)

pub returns-then-a-b : goal.returns-then-a-b
returns-then-a-b g c =
    let x = c.if-a-ancestor.false in
    let y = c.if-ancestor-a.false in
    same_cell as_entry 29 c.args.a c.args.b c.if-a-b.true c.requires.1 c.if-a-b-2.false (omega arith)

pub returns-then-ancestor-b : goal.returns-then-ancestor-b
returns-then-ancestor-b g c =
    left_before' as_entry 29 c.args.a c.args.b c.if-a-b.false c.requires.0 c.if-ancestor-b.true

pub returns-then-b-ancestor : goal.returns-then-b-ancestor
returns-then-b-ancestor g c =
    right_before' as_entry 29 c.args.a c.args.b c.if-a-b.false c.requires.0 c.if-b-ancestor.true

pub returns : goal.returns
returns g c =
    let x = c.if-ancestor-b.false in
    let y = c.if-b-ancestor.false in
    right_around as_entry 29 c.args.a c.args.b c.if-a-b.false c.requires.0 (omega arith)
