-- `print::print_refused` meets its contract. Assumes nothing.
use native.Mathlib.Omega.{arith}
use Rattle.map_text.specs.Lines.{refused_text}
use Rattle.text.proofs.Writing.{put_written, written_on}
use Rattle.map_text.proofs.print.print_refused.Goals as goal

pub print_pair-requires : goal.print_pair-requires
print_pair-requires c = let word = put_written c.put.ensures.put (omega arith) in omega arith

pub returns : goal.returns
unfolding refused_text
returns c = written_on (put_written c.put.ensures.put (omega arith)) c.print_pair.ensures.appends
