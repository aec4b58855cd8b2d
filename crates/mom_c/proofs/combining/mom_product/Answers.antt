-- `mom_product` meets its contract. Assumes nothing.
use Rattle.mom_c.proofs.Told.{buffers_are}
use Rattle.mom_c.proofs.combining.mom_product.Goals as goal

pub returns : goal.returns
returns c = buffers_are _ _ _ _ _ c.product.ensures c.number_word.ensures
