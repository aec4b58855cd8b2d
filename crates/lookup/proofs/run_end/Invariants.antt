use Rattle.mom.proofs.Searching.{FoundFrom}
use Rattle.lookup.proofs.run_end.Given as goal

abbrev pub invariant-loop-end : goal.invariant-loop-end
invariant-loop-end g l = FoundFrom g.L.Zuniq.ZUniqHashT.MAX_DEPTH (g.L.ZuniqList.numbers l.list) l.query l.place l.end
