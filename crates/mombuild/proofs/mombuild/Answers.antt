-- `mombuild` meets its contract: what it prints is that of the definition. Assumes nothing.
use Rattle.text.proofs.Writing.{written_as}
use Rattle.mombuild.proofs.Reading.{prints_refusal, prints_map}
use Rattle.mombuild.proofs.mombuild.Goals as goal

pub returns-in-Err : goal.returns-in-Err
returns-in-Err c = written_as (prints_refusal (rw c.in-Err.is at c.read_text.ensures)) c.print_refused.ensures

pub returns-in-Ok : goal.returns-in-Ok
returns-in-Ok c = written_as (prints_map (rw c.in-Ok.is at c.read_text.ensures)) c.print_built.ensures
