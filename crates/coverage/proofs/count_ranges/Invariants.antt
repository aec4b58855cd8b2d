use mathlib.Core.List.{List}
use Rattle.coverage.specs.Ranges.{Range}
use Rattle.coverage.proofs.Joining.{Joining}
use Rattle.coverage.proofs.count_ranges.Given as goal

abbrev pub invariant-loop-zuniq : goal.invariant-loop-zuniq
invariant-loop-zuniq l = (s : List Range) × Joining l.zuniqs l.zuniq-index l.n l.end_before s
