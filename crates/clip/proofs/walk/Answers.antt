-- `walk` meets its contract. The invariant of its loop is `Walking`, and that the range at hand is the one at place j; the measure is what
-- is left of the map and of the coverage. Assumes nothing.
use mathlib.Core.Path.{refl}
use native.Mathlib.Omega.{arith}
use Rattle.clip.proofs.Walking.{walking_start, entries_done, ranges_done, range_within, can_cut, past_entry, past_range}
use Rattle.clip.proofs.walk.Goals as goal

pub returns-then-starts-eq0 : goal.returns-then-starts-eq0
returns-then-starts-eq0 g c = ranges_done _ _ _ _ c.requires.holds.0 c.requires.holds.1 c.requires.holds.2 g.T.Taker.aim c.args.zuniqs.now c.args.densities.now c.args.zuniqs.now c.args.densities.now 0 0 0 (walking_start _ _ _ _ c.requires.holds.0 c.requires.holds.1 c.requires.holds.2 g.T.Taker.aim c.args.zuniqs.now c.args.densities.now) (omega (arith, c.if-starts-eq0.true))

pub bounds-starts-0 : goal.bounds-starts-0
bounds-starts-0 g c = omega (arith, c.if-starts-eq0.false)

pub bounds-ends-0 : goal.bounds-ends-0
bounds-ends-0 g c = omega (arith, c.if-starts-eq0.false, c.requires.holds.1)

pub loop-i-init : goal.loop-i-init
loop-i-init g c = (walking_start _ _ _ _ c.requires.holds.0 c.requires.holds.1 c.requires.holds.2 _ _ _, omega (arith, c.if-starts-eq0.false), refl, refl)

pub entry_range-cell-requires : goal.entry_range-cell-requires
entry_range-cell-requires g c = c.requires.holds.0.valid _ c.loop-i-test.true

pub bounds-map_densities-i : goal.bounds-map_densities-i
bounds-map_densities-i g c = omega (arith, c.loop-i-test.true, c.requires.holds.0.paired)

pub clip_entry-n-requires : goal.clip_entry-n-requires
clip_entry-n-requires g c = rw (c.loop-i.invariant.2, c.loop-i.invariant.3) (c.entry_range-cell.ensures, range_within _ _ _ _ c.requires.holds.0 c.requires.holds.1 c.requires.holds.2 _ _ _ _ _ _ _ _ c.loop-i.invariant.0 c.loop-i-test.true c.loop-i.invariant.1 _ _ c.entry_range-cell.ensures _ _ refl refl, can_cut _ _ _ _ c.requires.holds.0 c.requires.holds.1 c.requires.holds.2 _ _ _ _ _ _ _ _ c.loop-i.invariant.0 c.loop-i-test.true c.loop-i.invariant.1 _ _ c.entry_range-cell.ensures _ _ refl refl c.requires.room)

pub loop-i-smaller-then-cell-range : goal.loop-i-smaller-then-cell-range
loop-i-smaller-then-cell-range g c = omega (arith, c.loop-i-test.true)

pub loop-i-preserved-then-cell-range : goal.loop-i-preserved-then-cell-range
loop-i-preserved-then-cell-range g c = (past_entry _ _ _ _ c.requires.holds.0 c.requires.holds.1 c.requires.holds.2 _ _ _ _ _ _ _ _ c.loop-i.invariant.0 c.loop-i-test.true c.loop-i.invariant.1 _ _ c.entry_range-cell.ensures _ _ refl refl _ _ _ (rw (c.loop-i.invariant.2, c.loop-i.invariant.3) at c.clip_entry-n.ensures) c.clip_entry-n.auto.zuniqs c.clip_entry-n.auto.densities (omega (arith, c.if-cell-range.true, c.loop-i.invariant.3)), c.loop-i.invariant.1, c.loop-i.invariant.2, c.loop-i.invariant.3)

pub returns-then-j-starts : goal.returns-then-j-starts
returns-then-j-starts g c = ranges_done _ _ _ _ c.requires.holds.0 c.requires.holds.1 c.requires.holds.2 _ _ _ _ _ _ _ _ (past_range _ _ _ _ c.requires.holds.0 c.requires.holds.1 c.requires.holds.2 _ _ _ _ _ _ _ _ c.loop-i.invariant.0 c.loop-i-test.true c.loop-i.invariant.1 _ _ c.entry_range-cell.ensures _ _ refl refl _ _ _ (rw (c.loop-i.invariant.2, c.loop-i.invariant.3) at c.clip_entry-n.ensures) c.clip_entry-n.auto.zuniqs c.clip_entry-n.auto.densities (omega (arith, c.if-cell-range.false, c.loop-i.invariant.3))) (omega (arith, c.if-j-starts.true))

pub bounds-starts-j : goal.bounds-starts-j
bounds-starts-j g c = omega (arith, c.if-j-starts.false)

pub bounds-ends-j : goal.bounds-ends-j
bounds-ends-j g c = omega (arith, c.if-j-starts.false, c.requires.holds.1)

pub loop-i-smaller : goal.loop-i-smaller
loop-i-smaller g c = omega (arith, c.loop-i.invariant.1)

pub loop-i-preserved : goal.loop-i-preserved
loop-i-preserved g c = (past_range _ _ _ _ c.requires.holds.0 c.requires.holds.1 c.requires.holds.2 _ _ _ _ _ _ _ _ c.loop-i.invariant.0 c.loop-i-test.true c.loop-i.invariant.1 _ _ c.entry_range-cell.ensures _ _ refl refl _ _ _ (rw (c.loop-i.invariant.2, c.loop-i.invariant.3) at c.clip_entry-n.ensures) c.clip_entry-n.auto.zuniqs c.clip_entry-n.auto.densities (omega (arith, c.if-cell-range.false, c.loop-i.invariant.3)), omega (arith, c.if-j-starts.false), refl, refl)

pub returns : goal.returns
returns g c = entries_done _ _ _ _ c.requires.holds.0 c.requires.holds.1 c.requires.holds.2 _ _ _ _ _ _ _ _ c.loop-i.invariant.0 (omega (arith, c.loop-i-test.false))
