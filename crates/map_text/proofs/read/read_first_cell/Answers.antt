-- `read::read_first_cell` meets its contract. Assumes nothing.
use Rattle.std.proofs.Common.{rules, sym, ◌∙◌}
use Rattle.text.specs.Text.{lf, SplitAtFirst}
use Rattle.map_text.proofs.Lines.{first_ended}
use Rattle.map_text.proofs.read.read_first_cell.Goals as goal

pub returns-in_err-cell : goal.returns-in_err-cell
returns-in_err-cell c =
    let cut : SplitAtFirst lf c.args.text.now c.in_ok-line.line.now c.in_ok-line.behind.now = search rules in
    rw c.from_residual-in_err-cell.ensures (first_ended cut ∙ sym c.read_cell.ensures ∙ c.in_err-cell.was)

pub returns : goal.returns
returns c =
    let cut : SplitAtFirst lf c.args.text.now c.in_ok-line.line.now c.in_ok-line.behind.now = search rules in
    (first_ended cut ∙ sym c.read_cell.ensures ∙ c.in_ok-cell.was, cut.behind_is)
