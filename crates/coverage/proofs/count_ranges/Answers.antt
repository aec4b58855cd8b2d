-- `count_ranges` meets its contract. The invariant of its loop: the ranges of the entries so far are joined into `n` ranges.
-- Assumes nothing.
use mathlib.Core.Path.{ap, sym, ◌∙◌}
use mathlib.Core.List.{[]}
use native.Mathlib.Omega.{arith}
use lib.ListN.{length, length-reverse}
use Rattle.coverage.proofs.Joining.{renumber, Joining-start, Joining-end, Joining-same, Joining-new}
use Rattle.coverage.proofs.count_ranges.Goals as goal
use Rattle.coverage.proofs.count_ranges.Goals.{then-range-end_before, else-range-end_before}

pub loop-zuniq-init : goal.loop-zuniq-init
loop-zuniq-init c = ([], Joining-start c.args.zuniqs.now)

pub loop-zuniq-preserved : goal.loop-zuniq-preserved
loop-zuniq-preserved c =
    let j = c.loop-zuniq.invariant.1 in
    let l = c.loop-zuniq-test.true in
    let x = c.entry_range-range.ensures in
    elim c.if-range-end_before.branch [
      | then-range-end_before w ↦ (_, renumber w.n-is (omega arith) (Joining-new _ _ _ _ _ j l _ _ x w.if-range-end_before.true))
      | else-range-end_before w ↦ (_, renumber w.n-is (omega arith) (Joining-same _ _ _ _ _ j l _ _ x w.if-range-end_before.false).3)
    ]

pub returns : goal.returns
returns c =
    let s = c.loop-zuniq.invariant.0 in
    let j = c.loop-zuniq.invariant.1 in
    j.number ∙ sym (ap length (Joining-end _ _ _ _ s j c.loop-zuniq-test.false) ∙ length-reverse s)
