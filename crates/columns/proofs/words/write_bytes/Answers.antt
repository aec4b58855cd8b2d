-- `write_bytes` meets its contract: one byte more by each turn. Assumes nothing.
use mathlib.Core.Path.{◌≡◌, refl}
use native.Mathlib.Omega.{arith}
use lib.ListN.{length}
use Rattle.columns.proofs.Moves.{no_rows, next_row}
use Rattle.columns.proofs.words.write_bytes.Goals as goal

pub loop-i-init : goal.loop-i-init
loop-i-init c = no_rows

pub loop-i-preserved : goal.loop-i-preserved
loop-i-preserved c = next_row (omega arith) (omega arith) refl refl c.loop-i.invariant

pub returns : goal.returns
returns c = let done : c.loop-i.i ≡ length c.args.words.now = omega arith in rw done at c.loop-i.invariant
