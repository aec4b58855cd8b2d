use Prim.Native.Nat.{◌*◌}
use Rattle.columns.specs.Turning.{Part, Turned}
use Rattle.columns.proofs.turning.turn_block.Given as goal

abbrev pub invariant-loop-four : goal.invariant-loop-four
invariant-loop-four g l =
    let d = g.D.Direction in
    Turned (d.from l.shape) (d.to l.shape) l.source (Part l.row l.end 0 (4 * l.four)) l.initial.target l.target
