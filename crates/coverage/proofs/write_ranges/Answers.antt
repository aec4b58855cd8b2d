-- `write_ranges` meets its contract. The invariant of its loop: the ranges of the entries so far are joined into `n` ranges, which
-- stand in the first places of the buffers. Assumes nothing.
use Prim.Native.Nat.{◌-◌, ◌≤◌, ◌<◌}
use native.Mathlib.Omega.{arith}
use lib.ListN.{length}
use Rattle.coverage.proofs.Writing.{as_written, writing_start, Writing-end, Writing-same, Writing-new, writing_place, writing_room}
use Rattle.coverage.proofs.write_ranges.Goals as goal
use Rattle.coverage.proofs.write_ranges.Goals.{then-range-end_before, else-range-end_before}
use Rattle.coverage.proofs.write_ranges.Goals.{Else-range-end_before, Then-range-end_before}

pub loop-zuniq-init : goal.loop-zuniq-init
loop-zuniq-init c = writing_start _ _ _

-- ---- a turn
pub loop-zuniq-preserved : goal.loop-zuniq-preserved
loop-zuniq-preserved c =
    let p = c.requires in
    let x = c.entry_range-range.ensures in
    elim c.if-range-end_before.branch [
      | then-range-end_before w ↦ as_written w.starts-is w.ends-is w.n-is (omega arith) (Writing-same _ _ _ _ _ _ _ _ c.loop-zuniq.invariant c.loop-zuniq-test.true _ _ x p.2 w.if-range-end_before.true)
      | else-range-end_before w ↦ as_written w.starts-is w.ends-is w.n-is (omega arith) (Writing-new _ _ _ _ _ _ _ _ c.loop-zuniq.invariant c.loop-zuniq-test.true _ _ x p.1 p.2 w.if-range-end_before.false)
    ]

-- Where a range starts at the end before, there is a last range; where not, there is a place for it.
place : (c : Then-range-end_before) → (1 ≤ c.loop-zuniq.n) × (c.loop-zuniq.n - 1 < length c.loop-zuniq.ends)
place c = writing_place _ _ _ _ _ _ _ _ c.loop-zuniq.invariant c.loop-zuniq-test.true _ _ c.entry_range-range.ensures c.requires.2 c.if-range-end_before.true

room : (c : Else-range-end_before) → (c.loop-zuniq.n < length c.loop-zuniq.starts) × (c.loop-zuniq.n < length c.loop-zuniq.ends)
room c =
    let p = c.requires in
    writing_room _ _ _ _ _ _ _ _ c.loop-zuniq.invariant c.loop-zuniq-test.true _ _ c.entry_range-range.ensures p.1 p.2 c.if-range-end_before.false

pub overflow_sub-ends : goal.overflow_sub-ends
overflow_sub-ends c = (place c).0

pub bounds-ends-n : goal.bounds-ends-n
bounds-ends-n c = (place c).1

pub bounds-starts-n : goal.bounds-starts-n
bounds-starts-n c = (room c).0

pub bounds-ends-n-else-range-end_before : goal.bounds-ends-n-else-range-end_before
bounds-ends-n-else-range-end_before c = (room c).1

pub returns : goal.returns
returns c = let p = c.requires in Writing-end _ _ _ _ _ _ _ _ c.loop-zuniq.invariant p.1 p.2 c.loop-zuniq-test.false
