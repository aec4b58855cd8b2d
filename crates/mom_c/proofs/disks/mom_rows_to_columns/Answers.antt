-- `mom_rows_to_columns` meets its contract. Assumes nothing.
use Rattle.mom_c.proofs.Told.{number_is}
use Rattle.mom_c.proofs.disks.mom_rows_to_columns.Goals as goal

pub returns : goal.returns
returns c = number_is _ _ _ _ c.rows_to_columns.ensures c.number_word.ensures
