-- `mom_commit` meets its contract. Assumes nothing.
use Rattle.mom_c.proofs.Told.{counts_are}
use Rattle.mom_c.proofs.combining.mom_commit.Goals as goal

pub returns : goal.returns
returns c = counts_are _ _ _ _ _ _ _ c.commit-committed.ensures c.counts_word.ensures
