-- `digit_sum` meets its contract. Assumes nothing.
use native.Mathlib.Omega.{arith}
use Rattle.clip.proofs.Digits.{digits_le, digits_by_bits}
use Rattle.clip.proofs.sizes.digit_sum.Goals as goal

pub returns : goal.returns
returns c = digits_by_bits c.args.number (omega arith)

pub overflow_add-result : goal.overflow_add-result
overflow_add-result c = omega (arith, digits_by_bits c.args.number (omega arith), digits_le 32 c.args.number)
