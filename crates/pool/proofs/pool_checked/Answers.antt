-- `pool_checked` meets its contract: the cells are counted, and then pooled. Assumes nothing.
use native.Mathlib.Omega.{arith}
use Rattle.zuniq.specs.Cells.{n_hash}
use Rattle.combine.proofs.CountCells.{pool_cells-few}
use Rattle.pool.proofs.pool_checked.Goals as goal

pub pool_cells-requires-clause-fit : goal.pool_cells-requires-clause-fit
unfolding n_hash
pool_cells-requires-clause-fit c =
    let l = c.args.left.now in
    let r = c.args.right.now in
    omega (arith, pool_cells-few l.zuniqs.now l.values.now r.zuniqs.now r.values.now)
