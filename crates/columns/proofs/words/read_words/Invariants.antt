use Prim.Native.Nat.{◌+◌, ◌*◌}
use Rattle.columns.specs.Turning.{Words}
use Rattle.columns.proofs.words.read_words.Given as goal

abbrev pub invariant-loop-i : goal.invariant-loop-i
invariant-loop-i l = Words (λ r c. l.at + r * l.row_step + c * l.column_step) l.source l.i l.words
