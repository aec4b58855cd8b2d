use Rattle.std.proofs.Common.{◌≡◌, ◌++◌, take, drop}
use Rattle.moving.proofs.write_counts.Given as goal

abbrev pub invariant-loop-i : goal.invariant-loop-i
invariant-loop-i l = l.out ≡ take l.i l.counts ++ drop l.i l.initial.out
