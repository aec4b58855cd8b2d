-- `mom_write_density_rows` meets its contract. Assumes nothing.
use Rattle.mom_c.proofs.Told.{number_is}
use Rattle.mom_c.proofs.ingest.mom_write_density_rows.Goals as goal

pub returns : goal.returns
returns c = number_is _ _ _ _ c.write_rows.ensures c.number_word.ensures
