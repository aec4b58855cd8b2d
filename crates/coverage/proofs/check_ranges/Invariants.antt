use mathlib.Core.Path.{◌≡◌}
use lib.ListN.{drop}
use Rattle.coverage.specs.Ranges.{ranges_of, ranges_refusal}
use Rattle.coverage.proofs.check_ranges.Given as goal

abbrev pub invariant-loop-i : goal.invariant-loop-i
invariant-loop-i l = ranges_refusal l.sky 0 0 (ranges_of l.starts l.ends) ≡ ranges_refusal l.sky l.least l.i (ranges_of (drop l.i l.starts) (drop l.i l.ends))
