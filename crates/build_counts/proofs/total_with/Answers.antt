-- `total_with` meets its contract. Assumes nothing.
use mathlib.Core.Path.{refl, ap}
use Prim.Native.Nat.{◌+◌, ◌≤◌}
use native.Mathlib.Omega.{arith}
use borrow.Author.Tests.{lt-ltb, le-ltb}
use Rattle.build.specs.Add.{sum_of, capped_sum}
use Rattle.build_counts.specs.declared.BatchCheck.{BatchCheck}
use Rattle.build_counts.proofs.total_with.Goals as goal

pub overflow_add-sum : goal.overflow_add-sum
unfolding capped_sum
overflow_add-sum c = record { fits = omega (arith, c.capped_sum.ensures, c.requires) }

pub returns-then-sum-gt-MAX_COUNT : goal.returns-then-sum-gt-MAX_COUNT
unfolding capped_sum
returns-then-sum-gt-MAX_COUNT c = rw (lt-ltb 4294967295 (c.args.held + sum_of c.args.batch.now) (omega (arith, c.capped_sum.ensures, c.if-sum-gt-MAX_COUNT.true))) refl

pub returns : goal.returns
unfolding capped_sum
returns c =
    let n = c.args.held + sum_of c.args.batch.now in
    let fits : n ≤ 4294967295 = omega (arith, c.capped_sum.ensures, c.if-sum-gt-MAX_COUNT.false) in
    rw (le-ltb 4294967295 n fits) (ap BatchCheck.Total (omega (arith, c.capped_sum.ensures, c.if-sum-gt-MAX_COUNT.false)))
