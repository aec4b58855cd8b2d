use mathlib.Core.Path.{◌≡◌}
use Prim.Native.Nat.{◌+◌, ◌-◌, ◌<◌}
use lib.ListN.{length, get_or}
use Rattle.clip.proofs.Walking.{Walking}
use Rattle.clip.proofs.walk.Given as goal

abbrev pub invariant-loop-i : goal.invariant-loop-i
invariant-loop-i g l =
    Walking l.map_zuniqs l.map_densities l.starts l.ends g.T.Taker.aim l.initial.zuniqs l.initial.densities l.zuniqs l.densities l.n l.i l.j × (l.j < length l.starts) × (l.range.start ≡ get_or l.starts l.j 0) × (l.range.end ≡ get_or l.ends l.j 0)

abbrev pub decreases-loop-i : goal.decreases-loop-i
decreases-loop-i g l = length l.map_zuniqs - l.i + (length l.starts - l.j)
