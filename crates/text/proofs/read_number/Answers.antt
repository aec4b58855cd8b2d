-- `read_number` meets its contract. The loop's invariant: what is left of the field makes the number behind the digits passed. Assumes nothing.
use Rattle.std.proofs.Common.{length, sym, ◌∙◌, ◌≤◌, arith}
use Rattle.text.proofs.Numbers.{number_from-0, number-of_none, number-of_many, longer-le, drop-next, drop-stops, drop-end}
use Rattle.text.proofs.read_number.Goals as goal

pub returns-then-is_empty : goal.returns-then-is_empty
returns-then-is_empty c = grind (arith, number-of_none, number-of_many)

pub loop-digit-init : goal.loop-digit-init
loop-digit-init c =
    let some : 1 ≤ length c.args.field.now = grind arith in
    (omega arith, number_from-0 c.args.most c.args.field.now some (omega arith))

pub returns-in_err-value : goal.returns-in_err-value
returns-in_err-value c = let l = c.loop-digit in
    rw c.from_residual.ensures (sym (l.invariant.1 ∙ drop-stops c.args.most l.value c.args.field.now l.digit-index (omega arith) (sym c.with_digit.ensures ∙ c.in_err-value.was)))

pub loop-digit-preserved : goal.loop-digit-preserved
loop-digit-preserved c = let l = c.loop-digit in
    let e = sym c.with_digit.ensures ∙ c.in_ok-value.was in
    (longer-le c.args.most l.value _ c.in_ok-value.value e, l.invariant.1 ∙ drop-next c.args.most l.value c.args.field.now l.digit-index c.in_ok-value.value (omega arith) e)

pub returns : goal.returns
returns c = let l = c.loop-digit in
    sym (l.invariant.1 ∙ drop-end c.args.most l.value c.args.field.now l.digit-index (omega arith) (omega arith))
