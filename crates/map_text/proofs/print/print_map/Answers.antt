-- `print::print_map` meets its contract: the buffer holds as many entries as there are places, and the last line. Assumes nothing.
use native.Mathlib.Omega.{arith}
use lib.ListN.{take, length-take}
use Rattle.text.proofs.Writing.{written_on}
use Rattle.map_text.proofs.Printing.{length-entries, take-least}
use Rattle.map_text.proofs.print.print_map.Goals as goal

pub print_end-requires : goal.print_end-requires
print_end-requires c = let a = c.args in
    let held = c.min-held.result in
    let written = c.print_entries.ensures.appends in
    omega (arith, length-entries (take held a.zuniqs.now) (take held a.counts.now), length-take held a.zuniqs.now)

pub returns : goal.returns
returns c = let a = c.args in
    let zs = take-least a.zuniqs.now a.entries {k = c.min-held.result} (omega (arith, c.min-held.ensures)) in
    let ns = take-least a.counts.now a.entries {k = c.min-held.result} (omega (arith, c.min-held.ensures)) in
    rw (← zs, ← ns) (written_on c.print_entries.ensures.appends c.print_end.ensures.appends)
