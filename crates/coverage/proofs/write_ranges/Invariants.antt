use Rattle.coverage.proofs.Writing.{Writing}
use Rattle.coverage.proofs.write_ranges.Given as goal

abbrev pub invariant-loop-zuniq : goal.invariant-loop-zuniq
invariant-loop-zuniq l = Writing l.zuniqs l.initial.starts l.initial.ends l.starts l.ends l.zuniq-index l.n l.end_before
