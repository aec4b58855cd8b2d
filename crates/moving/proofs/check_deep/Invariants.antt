use Rattle.std.proofs.Common.{◌≡◌, drop}
use Rattle.moving.specs.Moving.{deep_refusal}
use Rattle.moving.proofs.check_deep.Given as goal

abbrev pub invariant-loop-i : goal.invariant-loop-i
invariant-loop-i g l =
    let z = g.Z.ZUniqHashT in
    let w = g.W.ZUniqHashT in
    deep_refusal z.MAX_DEPTH w.MAX_DEPTH l.i (drop l.i (z.numbers l.zuniqs)) ≡ deep_refusal z.MAX_DEPTH w.MAX_DEPTH 0 (z.numbers l.zuniqs)
