-- `write_counts` meets its contract. Assumes nothing.
use mathlib.Core.Path.{refl}
use native.Mathlib.Omega.{arith}
use Rattle.moving.proofs.Copying.{put_next}
use Rattle.moving.proofs.write_counts.Goals as goal

pub loop-i-preserved : goal.loop-i-preserved
loop-i-preserved c = rw c.loop-i.invariant (put_next c.args.counts.now c.args.out.now c.loop-i.i _ c.loop-i-test.true (omega arith) refl)
