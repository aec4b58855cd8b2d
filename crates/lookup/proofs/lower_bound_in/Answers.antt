-- `lower_bound_in` meets its contract. The invariant of its loop: the entry before `lo` is below the query and the
-- one at `hi` is not. The measure is `hi - lo`. Assumes nothing.
use Rattle.mom.proofs.Searching.{Bracket-all, bracket_met}
use Rattle.lookup.proofs.lower_bound_in.Goals as goal

pub loop-lo-init : goal.loop-lo-init
loop-lo-init g c = Bracket-all _ c.n_zuniqs-hi.ensures

pub returns : goal.returns
returns g c = bracket_met c.loop-lo.invariant c.loop-lo-test.false
