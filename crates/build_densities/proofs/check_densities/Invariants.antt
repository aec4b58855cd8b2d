use mathlib.Core.Path.{◌≡◌}
use lib.ListN.{drop}
use Rattle.build.specs.Densities.{density_refusal}
use Rattle.build_densities.proofs.check_densities.Given as goal

abbrev pub invariant-loop-i : goal.invariant-loop-i
invariant-loop-i l = (density_refusal l.i (drop l.i l.densities) ≡ density_refusal 0 l.densities)
