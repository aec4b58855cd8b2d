-- `columns_to_rows` meets its contract. Assumes nothing.
use mathlib.Core.Path.{sym, ◌∙◌}
use Rattle.std.proofs.lemmas.Result.{err_from_is_err_and}
use Rattle.columns.specs.Columns.{columns_to_rows}
use Rattle.columns.proofs.Laid.{not_laid, may_take_back, rows_laid}
use Rattle.columns.proofs.columns_to_rows.Goals as goal

pub returns-in_err-number : goal.returns-in_err-number
unfolding columns_to_rows
returns-in_err-number c =
    let p = err_from_is_err_and c.from_residual.result c.from_residual.ensures.1 in
    rw (p.1, p.2) (not_laid _ _ _ _ (sym c.rows_to_lay.ensures ∙ c.in_err-number.was))

pub turn-requires : goal.turn-requires
turn-requires c = may_take_back _ _ _ _ (sym c.rows_to_lay.ensures ∙ c.in_ok-number.was)

pub returns : goal.returns
returns c = rows_laid _ _ _ _ (sym c.rows_to_lay.ensures ∙ c.in_ok-number.was) _ c.turn.auto.target c.turn.ensures
