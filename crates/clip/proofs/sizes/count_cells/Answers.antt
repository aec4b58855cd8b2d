-- `count_cells` meets its contract. Assumes nothing.
use mathlib.Core.Path.{refl}
use mathlib.Core.List.{[]}
use native.Mathlib.Omega.{arith}
use Rattle.clip.proofs.Levels.{sky_is, zeros_le}
use Rattle.clip.proofs.Digits.{two_sums_le, middle-within, piece_cells}
use Rattle.clip.proofs.sizes.count_cells.Goals as goal

pub returns-then-from-to : goal.returns-then-from-to
returns-then-from-to c = λ v. (_, [], refl, c.if-from-to.true, refl)

pub overflow_sub-bits-2 : goal.overflow_sub-bits-2
overflow_sub-bits-2 c = omega (arith, zeros_le c.args.from c.args.to c.if-from-to.false c.requires.1)

pub overflow_sub-middle : goal.overflow_sub-middle
overflow_sub-middle c = (middle-within c.args.from c.args.to c.if-from-to.false c.requires.1 (omega (arith, sky_is, c.requires.0))).0

pub overflow_sub-to : goal.overflow_sub-to
overflow_sub-to c = (middle-within c.args.from c.args.to c.if-from-to.false c.requires.1 (omega (arith, sky_is, c.requires.0))).1

pub overflow_add-result : goal.overflow_add-result
overflow_add-result c = omega (arith, two_sums_le _ _ c.digit_sum.ensures c.digit_sum-2.ensures)

pub overflow_cast-result : goal.overflow_cast-result
overflow_cast-result c = omega (arith, two_sums_le _ _ c.digit_sum.ensures c.digit_sum-2.ensures)

pub returns : goal.returns
returns c = λ v. rw (c.digit_sum.ensures, c.digit_sum-2.ensures) (piece_cells c.args.from c.args.to c.if-from-to.false c.requires.1 (omega (arith, sky_is, c.requires.0)) v)
