-- `print::print_end` meets its contract. Assumes nothing.
use native.Mathlib.Omega.{arith}
use Rattle.map_text.specs.Lines.{end_text}
use Rattle.text.proofs.Writing.{put_written, written_on}
use Rattle.map_text.proofs.print.print_end.Goals as goal

pub print_pair-requires : goal.print_pair-requires
print_pair-requires c = let word = put_written c.put.ensures.put (omega arith) in omega arith

pub returns-clause-appends : goal.returns-clause-appends
unfolding end_text
returns-clause-appends c = written_on (put_written c.put.ensures.put (omega arith)) c.print_pair.ensures.appends
