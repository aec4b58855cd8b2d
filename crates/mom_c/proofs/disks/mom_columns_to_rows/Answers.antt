-- `mom_columns_to_rows` meets its contract. Assumes nothing.
use Rattle.mom_c.proofs.Told.{number_is}
use Rattle.mom_c.proofs.disks.mom_columns_to_rows.Goals as goal

pub returns : goal.returns
returns c = number_is _ _ _ _ c.columns_to_rows.ensures c.number_word.ensures
