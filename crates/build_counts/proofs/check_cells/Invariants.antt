use mathlib.Core.Path.{◌≡◌}
use lib.ListN.{drop}
use Rattle.build.specs.Add.{hashes_refusal}
use Rattle.build_counts.proofs.check_cells.Given as goal

abbrev pub invariant-loop-i : goal.invariant-loop-i
invariant-loop-i g l = let hs = g.Z.ZUniqHashT.numbers l.hashes in hashes_refusal l.depth l.least l.i (drop l.i hs) ≡ hashes_refusal l.depth l.end 0 hs
