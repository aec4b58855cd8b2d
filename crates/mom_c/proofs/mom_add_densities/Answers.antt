-- `mom_add_densities` meets its contract. Assumes nothing.
use Rattle.mom_c.proofs.Told.{buffers_are}
use Rattle.mom_c.proofs.mom_add_densities.Goals as goal

pub returns : goal.returns
returns c = buffers_are _ _ _ _ _ c.add_densities.ensures c.number_word.ensures
