-- `take` of the sink that tallies meets its contract. Assumes nothing.
use Rattle.merger.proofs.Accept.{accepted_count_is_sum}
use Rattle.tally.proofs.Tallies.{Tallies-next, can_count_next}
use Rattle.combine.specs.Cells.{as_entry}
use Rattle.pool.proofs.walk.TallyingSinkU32.take.Goals as goal

pub count-requires : goal.count-requires
count-requires c =
    let s = c.args.self.merger.now in
    let k = c.requires in
    can_count_next (as_entry c.args.cell) k.after k.taken (accepted_count_is_sum 29 s.protected.zuniqs.now s.depth_threshold s.chi2_threshold) k.fit c.args.cell.zuniq k.good

pub returns : goal.returns
returns c = λ zs vs b w. Tallies-next (as_entry c.args.cell) b w c.count.ensures c.count.auto.zuniqs c.count.auto.counts
