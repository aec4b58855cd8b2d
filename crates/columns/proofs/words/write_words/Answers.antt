-- `write_words` meets its contract: the bytes of one word more by each turn. Assumes nothing.
use mathlib.Core.Path.{◌≡◌}
use native.Mathlib.Omega.{arith}
use lib.ListN.{length}
use Rattle.columns.proofs.Moves.{no_rows}
use Rattle.columns.proofs.Quadruples.{next_word_put}
use Rattle.columns.proofs.words.write_words.Goals as goal

pub loop-i-init : goal.loop-i-init
loop-i-init c = no_rows

pub overflow_mul-i : goal.overflow_mul-i
overflow_mul-i c = omega (arith, c.requires c.loop-i.i 0 (omega arith) (omega arith))

pub overflow_add-to : goal.overflow_add-to
overflow_add-to c = omega (arith, c.requires c.loop-i.i 0 (omega arith) (omega arith))

pub write-requires : goal.write-requires
write-requires c = omega (arith, c.requires c.loop-i.i 3 (omega arith) (omega arith))

pub loop-i-preserved : goal.loop-i-preserved
loop-i-preserved c =
    next_word_put c.args.words.now c.args.to c.args.step c.loop-i.i _ _ _ (λ k l. omega (arith, c.requires c.loop-i.i k (omega arith) l)) c.loop-i.invariant c.write.ensures

pub returns : goal.returns
returns c = let done : c.loop-i.i ≡ length c.args.words.now = omega arith in rw done at c.loop-i.invariant
