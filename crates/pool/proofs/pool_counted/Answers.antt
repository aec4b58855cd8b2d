-- `pool_counted` meets its contract: the cells are merged where there is space. Assumes nothing.
use native.Mathlib.Omega.{arith}
use Rattle.build.proofs.Accepted.{cleared}
use Rattle.combine.specs.Slices.{entries_of, Holds}
use Rattle.combine.proofs.Given.{map_holds}
use Rattle.combine.proofs.CountCells.{pool_cells-total}
use Rattle.combine.proofs.PoolCall.{pool_no_space, pool_made}
use Rattle.pool.proofs.pool_counted.Goals as goal
use Rattle.pool.proofs.pool_counted.Goals.{Start}

-- the two maps are valid
held_left : (s : Start) → Holds s.args.left.now.zuniqs.now s.args.left.now.values.now
held_left s = let m = s.args.left.now in map_holds m.depth m.zuniqs.now m.values.now m.paired m.valid

held_right : (s : Start) → Holds s.args.right.now.zuniqs.now s.args.right.now.values.now
held_right s = let m = s.args.right.now in map_holds m.depth m.zuniqs.now m.values.now m.paired m.valid

pub returns-then-zuniqs-cells : goal.returns-then-zuniqs-cells
returns-then-zuniqs-cells c =
    let a = c.args in
    let s = a.merger.now in
    pool_no_space s.protected.zuniqs.now (entries_of a.left.now.zuniqs.now a.left.now.values.now) (entries_of a.right.now.zuniqs.now a.right.now.values.now) s.depth_threshold s.chi2_threshold a.zuniqs.now a.counts.now _ c.requires.2 c.if-zuniqs-cells.true

pub pool_cells-requires-clause-fit : goal.pool_cells-requires-clause-fit
pool_cells-requires-clause-fit c =
    let p = c.requires in
    let h = held_left (goal.at.pool_cells-requires-clause-fit c).Start in
    let k = held_right (goal.at.pool_cells-requires-clause-fit c).Start in
    ((omega (arith, c.if-zuniqs-cells.false, p.2), omega (arith, c.if-zuniqs-cells.false, p.2, p.1)), omega (arith, pool_cells-total h k, p.0, c.ranges.total))

pub returns : goal.returns
returns c =
    let a = c.args in
    let s = a.merger.now in
    let p = c.requires in
    let w = rw c.in-Ok.is at c.pool_cells.ensures in
    pool_made s.protected.zuniqs.now (entries_of a.left.now.zuniqs.now a.left.now.values.now) (entries_of a.right.now.zuniqs.now a.right.now.values.now) s.depth_threshold s.chi2_threshold a.zuniqs.now a.counts.now _ p.2
    (held_left (goal.at.returns c).Start).rises (held_right (goal.at.returns c).Start).rises c.if-zuniqs-cells.false _ _ _ _ _ _ w.added w.zuniqs w.values
    (cleared c.in-Ok.entries c.pool_cells.new.zuniqs _ 0 w.added.stands.zuniqs c.clear.ensures)
    (cleared c.in-Ok.entries c.pool_cells.new.counts _ 0 w.added.stands.values c.clear-2.ensures) p.0
