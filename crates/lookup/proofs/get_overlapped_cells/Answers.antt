-- `get_overlapped_cells` answers the run that `get_overlapped_run` finds, and that part of the zuniqs. Assumes nothing.
use Rattle.std.proofs.Common.{◌≡◌, Err, rules, refl}
use Rattle.mom.proofs.Answers.{overlapped_refused, overlapped_answer, part_of_entries}
use Rattle.lookup.proofs.get_overlapped_cells.Goals as goal

pub returns-in_err-run : goal.returns-in_err-run
returns-in_err-run g c =
    let e : c.from_residual.result ≡ Err c.in_err-run.field-0.0 = search rules in
    overlapped_refused (rw c.in_err-run.was at c.get_overlapped_run.ensures) e

pub returns : goal.returns
returns g c =
    let of = g.Z.ZUniqHashT in
    overlapped_answer of.number of.numbers g.met.Z.ZUniqHashT.numbers_are (rw c.in_ok-run.was at c.get_overlapped_run.ensures) refl (part_of_entries (search rules) (search rules))
