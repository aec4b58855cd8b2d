-- `read_words` meets its contract: one word more by each turn. Assumes nothing.
use mathlib.Core.Path.{refl, ◌∙◌}
use native.Mathlib.Nat.{zero-mul, one-mul, add-zero}
use native.Mathlib.Omega.{arith}
use Rattle.rows.proofs.LittleEndian.{sum_is}
use Rattle.columns.proofs.Quadruples.{next_word}
use Rattle.columns.proofs.words.read_words.Goals as goal

pub loop-i-preserved : goal.loop-i-preserved
loop-i-preserved c =
    next_word _ _ _ (omega arith) c.loop-i.invariant (simp (zero-mul, one-mul, add-zero) (c.from_le_bytes.ensures ∙ sum_is _ 3 refl))
