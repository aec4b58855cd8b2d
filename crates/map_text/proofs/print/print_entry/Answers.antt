-- `print::print_entry` meets its contract. Assumes nothing.
use native.Mathlib.Omega.{arith}
use Rattle.text.proofs.Numbers.{length-decimal}
use Rattle.text.proofs.Writing.{put_written, written_on, written_as}
use Rattle.map_text.proofs.Printing.{entry_joined}
use Rattle.map_text.proofs.print.print_entry.Goals as goal

pub print_pair-requires : goal.print_pair-requires
print_pair-requires c = let a = c.args in
    let depth = put_written c.put_number.ensures.put (omega (arith, length-decimal c.from.result)) in
    let comma = put_written c.put.ensures.put (omega (arith, length-decimal c.from.result)) in
    omega (arith, length-decimal c.from.result)

pub returns-clause-appends : goal.returns-clause-appends
returns-clause-appends c = let a = c.args in
    let depth = put_written c.put_number.ensures.put (omega (arith, length-decimal c.from.result)) in
    let comma = put_written c.put.ensures.put (omega (arith, length-decimal c.from.result)) in
    rw (← c.from.ensures, ← c.from-2.ensures) (written_as (entry_joined c.from.result a.hash c.from-2.result) (written_on (written_on depth comma) c.print_pair.ensures.appends))
