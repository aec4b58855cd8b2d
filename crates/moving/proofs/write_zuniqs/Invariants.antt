use Rattle.std.proofs.Common.{◌≡◌, ◌++◌, ◌-◌, take, drop, length, map}
use Rattle.std.specs.Prelude.{replicate}
use Rattle.moving.specs.Widths.{in_width}
use Rattle.moving.proofs.write_zuniqs.Given as goal

abbrev pub invariant-loop-i : goal.invariant-loop-i
invariant-loop-i g l =
    let z = g.Z.ZUniqHashT in
    let w = g.W.ZUniqHashT in
    w.numbers l.out ≡ map (in_width z.MAX_DEPTH w.MAX_DEPTH) (take l.i (z.numbers l.zuniqs)) ++ drop l.i (w.numbers l.initial.out)

abbrev pub invariant-loop-place : goal.invariant-loop-place
invariant-loop-place g l =
    let z = g.Z.ZUniqHashT in
    let w = g.W.ZUniqHashT in
    w.numbers l.out ≡ map (in_width z.MAX_DEPTH w.MAX_DEPTH) (z.numbers l.zuniqs) ++ (replicate (l.place - length l.zuniqs) 0 ++ drop l.place (w.numbers l.fn.out))
