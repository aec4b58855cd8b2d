use mathlib.Core.Path.{◌≡◌}
use lib.ListN.{drop}
use Rattle.merger.specs.Floats.{invalid_density}
use Rattle.build.specs.Add.{cells_refusal}
use Rattle.build_densities.proofs.check_cells.Given as goal

abbrev pub invariant-loop-i : goal.invariant-loop-i
invariant-loop-i l =
    (cells_refusal invalid_density l.depth l.least l.i (drop l.i l.hashes) (drop l.i l.batch) ≡ cells_refusal invalid_density l.depth l.end 0 l.hashes l.batch)
