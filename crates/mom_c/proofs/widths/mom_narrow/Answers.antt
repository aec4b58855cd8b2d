-- `mom_narrow` meets its contract. Assumes nothing.
use Rattle.mom_c.proofs.Told.{moved_is}
use Rattle.mom_c.proofs.widths.mom_narrow.Goals as goal

pub returns : goal.returns
returns c = moved_is _ _ _ _ _ _ _ c.move_map-answer.ensures c.moved_word.ensures
