-- `rows_to_columns` meets its contract. Assumes nothing.
use mathlib.Core.Path.{sym, ◌∙◌}
use Rattle.std.proofs.lemmas.Result.{err_from_is_err_and}
use Rattle.columns.specs.Columns.{rows_to_columns}
use Rattle.columns.proofs.Laid.{not_laid, may_lay, columns_laid}
use Rattle.columns.proofs.rows_to_columns.Goals as goal

pub returns-in_err-number : goal.returns-in_err-number
unfolding rows_to_columns
returns-in_err-number c =
    let p = err_from_is_err_and c.from_residual.result c.from_residual.ensures.1 in
    rw (p.1, p.2) (not_laid _ _ _ _ (sym c.rows_to_lay.ensures ∙ c.in_err-number.was))

pub turn-requires : goal.turn-requires
turn-requires c = may_lay _ _ _ _ (sym c.rows_to_lay.ensures ∙ c.in_ok-number.was)

pub returns : goal.returns
returns c = columns_laid _ _ _ _ (sym c.rows_to_lay.ensures ∙ c.in_ok-number.was) _ c.turn.auto.target c.turn.ensures
