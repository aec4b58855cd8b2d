use Rattle.mom.proofs.Searching.{FoundBefore}
use Rattle.lookup.proofs.run_start.Given as goal

abbrev pub invariant-loop-first : goal.invariant-loop-first
invariant-loop-first g l = FoundBefore g.L.Zuniq.ZUniqHashT.MAX_DEPTH (g.L.ZuniqList.numbers l.list) l.query l.place l.first
