-- `print::print_pair` meets its contract: its four parts stand one behind the other. Assumes nothing.
use native.Mathlib.Omega.{arith}
use Rattle.text.proofs.Numbers.{length-decimal}
use Rattle.text.proofs.Writing.{put_written, written_on, written_as}
use Rattle.map_text.proofs.Printing.{pair_joined}
use Rattle.map_text.proofs.print.print_pair.Goals as goal

pub returns-clause-appends : goal.returns-clause-appends
returns-clause-appends c = let a = c.args in
    let left = put_written c.put_number.ensures.put (omega (arith, length-decimal a.left)) in
    let comma = put_written c.put.ensures.put (omega (arith, length-decimal a.left)) in
    let right = put_written c.put_number-2.ensures.put (omega (arith, length-decimal a.left, length-decimal a.right)) in
    let end = put_written c.put-2.ensures.put (omega (arith, length-decimal a.left, length-decimal a.right)) in
    written_as (pair_joined a.left a.right) (written_on (written_on (written_on left comma) right) end)
