-- `turn_block` meets its contract: four columns more by each turn. Assumes nothing.
use mathlib.Core.Path.{◌≡◌}
use Prim.Native.Nat.{◌+◌, ◌*◌}
use native.Mathlib.Omega.{arith}
use Rattle.columns.proofs.Moves.{no_columns, more_columns}
use Rattle.columns.proofs.turning.turn_block.Goals as goal

pub loop-four-init : goal.loop-four-init
loop-four-init g c = no_columns

pub loop-four-preserved : goal.loop-four-preserved
loop-four-preserved g c =
    let next : 4 * (c.loop-four.four + 1) ≡ 4 * c.loop-four.four + 4 = omega arith in
    rw next (more_columns (omega arith) (omega arith) c.loop-four.invariant c.turn_four.ensures)
