-- `pool_figures` meets its contract. Assumes nothing.
use native.Mathlib.Omega.{arith}
use Rattle.merger.specs.Merge.{accept_counts}
use Rattle.combine.proofs.Given.{map_holds}
use Rattle.combine.proofs.CountCells.{pool_cells-rise, pool_cells-few, pool_cells-total}
use Rattle.tally.proofs.Tallies.{tallied_all}
use Rattle.pool.proofs.pool_figures.Goals as goal

pub pool_cells-requires-clause-fit : goal.pool_cells-requires-clause-fit
pool_cells-requires-clause-fit c =
    let p = c.requires in
    let l = c.args.left.now in
    let r = c.args.right.now in
    record {
      zuniqs = omega arith;
      values = omega arith;
      rises = pool_cells-rise l.zuniqs.now l.values.now r.zuniqs.now r.values.now (let m = c.args.merger.now in accept_counts 29 m.protected.zuniqs.now m.depth_threshold m.chi2_threshold);
      few = pool_cells-few l.zuniqs.now l.values.now r.zuniqs.now r.values.now;
      fits = omega (arith, pool_cells-total (map_holds l.depth l.zuniqs.now l.values.now l.paired l.valid) (map_holds r.depth r.zuniqs.now r.values.now r.paired r.valid), p, c.ranges.total);
    }

pub overflow_add-entries : goal.overflow_add-entries
overflow_add-entries c =
    let l = c.args.left.now in
    let r = c.args.right.now in
    let w = rw c.in-Ok.is at c.pool_cells.ensures in
    record { fits = (tallied_all w (pool_cells-rise l.zuniqs.now l.values.now r.zuniqs.now r.values.now (let m = c.args.merger.now in accept_counts 29 m.protected.zuniqs.now m.depth_threshold m.chi2_threshold)) (pool_cells-few l.zuniqs.now l.values.now r.zuniqs.now r.values.now)).2 }

pub returns : goal.returns
returns c =
    let l = c.args.left.now in
    let r = c.args.right.now in
    let w = rw c.in-Ok.is at c.pool_cells.ensures in
    let e = tallied_all w (pool_cells-rise l.zuniqs.now l.values.now r.zuniqs.now r.values.now (let m = c.args.merger.now in accept_counts 29 m.protected.zuniqs.now m.depth_threshold m.chi2_threshold)) (pool_cells-few l.zuniqs.now l.values.now r.zuniqs.now r.values.now) in
    λ i. record { cells = e.0 i; entries = e.1 i; total = c.args.total }
