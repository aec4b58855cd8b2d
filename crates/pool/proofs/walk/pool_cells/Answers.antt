-- `pool_cells` meets its contract. Assumes nothing.
use Rattle.combine.proofs.Given.{map_holds}
use Rattle.combine.proofs.CountCells.{pool_cell-fits}
use Rattle.pool.proofs.walk.pool_cells.Goals as goal

pub walk-requires-clause-seen : goal.walk-requires-clause-seen
walk-requires-clause-seen g c =
    let l = c.args.left.now in
    let r = c.args.right.now in
    pool_cell-fits (map_holds l.depth l.zuniqs.now l.values.now l.paired l.valid) (map_holds r.depth r.zuniqs.now r.values.now r.paired r.valid) c.requires.fits
