use Rattle.map_text.specs.Lines.{cells}
use Rattle.map_text.proofs.Passing.{Passing}
use Rattle.map_text.proofs.read.read_cells.Given as goal

abbrev pub invariant-loop-n : goal.invariant-loop-n
invariant-loop-n l = Passing (cells 2048 2 l.text) l.rest l.initial.hashes l.initial.counts l.hashes l.counts l.n
