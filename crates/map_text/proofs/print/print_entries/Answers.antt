-- `print::print_entries` meets its contract. The loop's invariant is `Printed`. Assumes nothing.
use Rattle.std.proofs.lemmas.List.{length_push}
use Rattle.std.proofs.lemmas.Slice.Zip.{zip_turn, zip_end}
use Rattle.map_text.proofs.Printing.{Printed-next, printed_end}
use Rattle.map_text.proofs.print.print_entries.Goals as goal

pub loop-zuniq-preserved : goal.loop-zuniq-preserved
loop-zuniq-preserved c = let l = c.loop-zuniq in
    let a = c.args in
    let turn = zip_turn a.zuniqs.now a.counts.now l.yielded _ _ c.next.new.self _ (cc) (cc) l.yielded_by (c.in-Some.zuniq, c.in-Some.count) c.in-Some.is c.next.ensures.steps in
    let line = rw (turn.2 0, turn.3 0) at c.print_zuniq.ensures.appends in
    rw (length_push l.yielded (c.in-Some.zuniq, c.in-Some.count)) (Printed-next l.invariant turn.0 turn.1 c.print_zuniq.ensures.same_buffer line)

pub returns-clause-appends : goal.returns-clause-appends
returns-clause-appends c = let l = c.loop-zuniq in
    let a = c.args in
    printed_end l.invariant (zip_end a.zuniqs.now a.counts.now l.yielded _ _ c.next.new.self _ (cc) (cc) l.yielded_by c.in-None.is c.next.ensures.steps)
