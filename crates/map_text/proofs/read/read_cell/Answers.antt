-- `read::read_cell` meets its contract: the line is cut at its first comma. Assumes nothing.
use mathlib.Core.Path.{refl, sym, ◌∙◌}
use Rattle.map_text.proofs.Lines.{cell_is}
use Rattle.map_text.proofs.read.read_cell.Goals as goal

pub returns-in_err-hash-2 : goal.returns-in_err-hash-2
returns-in_err-hash-2 c = let cut = rw c.in_ok-hash.was at c.split_once.ensures in
    rw c.from_residual-in_err-hash-2.ensures (cell_is cut (sym c.read_number.ensures ∙ c.in_err-hash-2.was) refl)

pub returns-in_err-count : goal.returns-in_err-count
returns-in_err-count c = let cut = rw c.in_ok-hash.was at c.split_once.ensures in
    let hash = sym c.read_number.ensures ∙ c.in_ok-hash-2.was in
    rw c.from_residual-in_err-count.ensures (cell_is cut hash (sym c.read_number-2.ensures ∙ c.in_err-count.was))

pub returns : goal.returns
returns c = let cut = rw c.in_ok-hash.was at c.split_once.ensures in
    let hash = sym c.read_number.ensures ∙ c.in_ok-hash-2.was in
    cell_is cut hash (sym c.read_number-2.ensures ∙ c.in_ok-count.was)
