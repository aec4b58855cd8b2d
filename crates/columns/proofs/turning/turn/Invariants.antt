use Prim.Native.Nat.{◌*◌, min}
use Rattle.columns.specs.Turning.{Part, Turned}
use Rattle.columns.proofs.turning.turn.Given as goal

abbrev pub invariant-loop-block : goal.invariant-loop-block
invariant-loop-block g l =
    let d = g.D.Direction in
    Turned (d.from l.shape) (d.to l.shape) l.source (Part 0 (min (l.block * 64) l.shape.rows) 0 l.shape.row_size) l.initial.target l.target
