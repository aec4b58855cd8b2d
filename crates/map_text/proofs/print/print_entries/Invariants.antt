use lib.ListN.{length}
use Rattle.map_text.proofs.Printing.{Printed}
use Rattle.map_text.proofs.print.print_entries.Given as goal

abbrev pub invariant-loop-zuniq : goal.invariant-loop-zuniq
invariant-loop-zuniq l = Printed l.zuniqs l.counts l.initial.output l.output (length l.yielded)
