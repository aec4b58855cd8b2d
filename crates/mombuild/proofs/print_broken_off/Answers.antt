-- `print_broken_off` meets its contract: the line behind a readable text is told by the number of its cells. Assumes nothing.
use lib.Seq.{length-take-le}
use Rattle.text.proofs.Writing.{written_as}
use Rattle.mombuild.proofs.BrokenOff.{broken_in_line, broken_behind}
use Rattle.mombuild.proofs.print_broken_off.Goals as goal

pub returns-in-Err : goal.returns-in-Err
returns-in-Err c = let read = rw c.in-Err.is at c.read_text.ensures in
    written_as (broken_in_line c.args.text.now read.reads) c.print_refused.ensures

pub returns-in-Ok : goal.returns-in-Ok
returns-in-Ok c = let read = rw c.in-Ok.is at c.read_text.ensures in
    let cells = length-take-le c.in-Ok.read.cells c.read_text.new.hashes read.hashes_fit in
    written_as (rw (← cells) (broken_behind c.args.text.now read.reads)) c.print_refused-in-Ok.ensures
