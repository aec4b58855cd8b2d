-- `mom_coverage` meets its contract. Assumes nothing.
use Rattle.mom_c.proofs.Told.{buffers_are}
use Rattle.mom_c.proofs.reach.mom_coverage.Goals as goal

pub returns : goal.returns
returns c = buffers_are _ _ _ _ _ c.coverage.ensures c.number_word.ensures
