-- `mom32_add_counts` meets its contract. Assumes nothing.
use Rattle.mom_c.proofs.Told.{counts_are}
use Rattle.mom_c.proofs.domes.mom32_add_counts.Goals as goal

pub returns : goal.returns
returns c = counts_are _ _ _ _ _ _ _ c.add_counts-added.ensures c.counts_word.ensures
