-- `part_of` meets its contract. Assumes nothing.
use mathlib.Core.Path.{refl}
use borrow.Author.Tests.{lt-ltb, le-ltb}
use native.Mathlib.Omega.{arith}
use Rattle.combine.proofs.Sharing.{split_count-by_turn}
use Rattle.combine.proofs.counts.part_of.Goals as goal

pub returns-then-before-count : goal.returns-then-before-count
returns-then-before-count c = let a = c.args in rw (split_count-by_turn 0 a.parent_hash a.count a.i c.requires, lt-ltb _ _ c.if-before-count.true) refl

pub returns-else-before-count : goal.returns-else-before-count
returns-else-before-count c = let a = c.args in rw (split_count-by_turn 0 a.parent_hash a.count a.i c.requires, le-ltb _ _ c.if-before-count.false) (omega arith)
