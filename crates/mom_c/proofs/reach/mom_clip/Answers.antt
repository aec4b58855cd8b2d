-- `mom_clip` meets its contract. Assumes nothing.
use Rattle.mom_c.proofs.Told.{buffers_are}
use Rattle.mom_c.proofs.reach.mom_clip.Goals as goal

pub returns : goal.returns
returns c = buffers_are _ _ _ _ _ c.clip.ensures c.number_word.ensures
