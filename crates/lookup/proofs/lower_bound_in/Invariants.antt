use Prim.Native.Nat.{◌-◌}
use Rattle.mom.proofs.Searching.{Bracket}
use Rattle.lookup.proofs.lower_bound_in.Given as goal

abbrev pub invariant-loop-lo : goal.invariant-loop-lo
invariant-loop-lo g l = Bracket (g.L.ZuniqList.numbers l.list) (g.L.Zuniq.ZUniqHashT.number l.zuniq) l.lo l.hi

abbrev pub decreases-loop-lo : goal.decreases-loop-lo
decreases-loop-lo g l = l.hi - l.lo
