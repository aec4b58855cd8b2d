use Rattle.mom.proofs.Passed.{Passed}
use Rattle.mom.proofs.first_fault_in.Given as goal

abbrev pub invariant-loop-place : goal.invariant-loop-place
invariant-loop-place g l = Passed g.L.Zuniq.ZUniqHashT.MAX_DEPTH l.depth (g.L.ZuniqList.numbers l.list) l.zuniq_before l.end_before l.place
