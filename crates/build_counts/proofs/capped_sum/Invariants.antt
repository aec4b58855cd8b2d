use mathlib.Core.Path.{◌≡◌}
use Prim.Native.Nat.{◌≤◌}
use lib.ListN.{take}
use Rattle.build.specs.Add.{capped_sum}
use Rattle.build_counts.proofs.capped_sum.Given as goal

abbrev pub invariant-loop-count : goal.invariant-loop-count
invariant-loop-count l = (l.sum ≤ 4294967296) × (l.sum ≡ capped_sum (take l.count-index l.counts))
