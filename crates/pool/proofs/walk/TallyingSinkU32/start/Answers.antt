-- `start` of the sink that tallies meets its contract. Assumes nothing.
use mathlib.Core.Path.{refl}
use Rattle.tally.proofs.Tallies.{Tallies-nothing}
use Rattle.pool.proofs.walk.TallyingSinkU32.start.Goals as goal

pub returns : goal.returns
returns c = λ zs vs. Tallies-nothing _ refl
