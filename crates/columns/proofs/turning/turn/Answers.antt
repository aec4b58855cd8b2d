-- `turn` meets its contract: the rows of one block more by each turn. Assumes nothing.
use mathlib.Core.Path.{◌≡◌}
use Prim.Native.Nat.{◌+◌, ◌*◌, min}
use native.Mathlib.Omega.{arith}
use Rattle.columns.proofs.Moves.{no_rows, more_rows}
use Rattle.columns.proofs.turning.turn.Goals as goal

pub loop-block-init : goal.loop-block-init
loop-block-init g c = let none : min (0 * 64) c.args.shape.rows ≡ 0 = omega arith in rw none no_rows

pub loop-block-preserved : goal.loop-block-preserved
loop-block-preserved g c =
    let rows = c.args.shape.rows in
    let b = c.loop-block.block in
    let here : min (b * 64) rows ≡ b * 64 = omega arith in
    let next : min ((b + 1) * 64) rows ≡ b * 64 + c.min.result = omega arith in
    rw next (more_rows (omega arith) (omega arith) (rw here at c.loop-block.invariant) c.turn_block.ensures)
