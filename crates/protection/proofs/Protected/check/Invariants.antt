use Rattle.protection.proofs.Lists.{Passed}
use Rattle.protection.proofs.Protected.check.Given as goal

abbrev pub invariant-loop-i : goal.invariant-loop-i
invariant-loop-i g l = Passed g.Z.ZUniqHashT.MAX_DEPTH (g.Z.ZUniqHashT.numbers l.zuniqs) l.before l.i
