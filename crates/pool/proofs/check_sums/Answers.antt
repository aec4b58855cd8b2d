-- `check_sums` meets its contract. Assumes nothing.
use mathlib.Core.Path.{◌≡◌, refl}
use Prim.Native.Nat.{◌+◌}
use native.Mathlib.Omega.{arith}
use borrow.Author.Tests.{lt-ltb, le-ltb}
use Rattle.build.specs.Add.{sum_of, capped_sum}
use Rattle.combine.specs.Pool.{sums_refusal}
use Rattle.pool.proofs.check_sums.Goals as goal

pub overflow_add-total : goal.overflow_add-total
unfolding capped_sum
overflow_add-total c = record { fits = omega (arith, c.capped_sum.ensures, c.capped_sum-2.ensures) }

pub returns-then-total-gt-MAX_COUNT : goal.returns-then-total-gt-MAX_COUNT
unfolding sums_refusal capped_sum
returns-then-total-gt-MAX_COUNT c = rw (lt-ltb 4294967295 (sum_of c.args.left.now + sum_of c.args.right.now) (omega (arith, c.capped_sum.ensures, c.capped_sum-2.ensures, c.if-total-gt-MAX_COUNT.true))) refl

pub returns : goal.returns
unfolding sums_refusal capped_sum
returns c =
    let l = sum_of c.args.left.now in
    let r = sum_of c.args.right.now in
    let whole : c.capped_sum.result + c.capped_sum-2.result ≡ l + r = omega (arith, c.capped_sum.ensures, c.capped_sum-2.ensures, c.if-total-gt-MAX_COUNT.false) in
    rw (whole, le-ltb 4294967295 (l + r) (omega (arith, whole, c.if-total-gt-MAX_COUNT.false))) refl
