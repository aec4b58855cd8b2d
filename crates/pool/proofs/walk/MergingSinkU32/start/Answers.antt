-- `start` of the sink that merges meets its contract. Assumes nothing.
use Rattle.combine.proofs.Outcomes.{Laid-nothing}
use Rattle.pool.proofs.walk.MergingSinkU32.start.Goals as goal

pub returns : goal.returns
returns c = Laid-nothing
