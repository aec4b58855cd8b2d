-- `mom_read_count_rows` meets its contract. Assumes nothing.
use Rattle.mom_c.proofs.Told.{number_is}
use Rattle.mom_c.proofs.ingest.mom_read_count_rows.Goals as goal

pub returns : goal.returns
returns c = number_is _ _ _ _ c.read_rows.ensures c.number_word.ensures
