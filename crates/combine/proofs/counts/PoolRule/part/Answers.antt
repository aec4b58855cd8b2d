-- `part` meets its contract. Assumes nothing.
use Rattle.combine.specs.Rules.{split_count}
use Rattle.combine.proofs.counts.PoolRule.part.Goals as goal

pub returns : goal.returns
unfolding split_count
returns c = c.part_of.ensures
