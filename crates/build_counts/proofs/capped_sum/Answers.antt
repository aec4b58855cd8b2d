-- `capped_sum` meets its contract. The loop's invariant: the sum of the places passed. Assumes nothing.
use mathlib.Core.Path.{refl, sym, ◌∙◌}
use native.Mathlib.Omega.{arith}
use Rattle.build.specs.Add.{sum_of, capped_sum}
use Rattle.build.proofs.Filling.{capped_next}
use Rattle.build_counts.proofs.capped_sum.Goals as goal

pub loop-count-init : goal.loop-count-init
unfolding capped_sum sum_of
loop-count-init c = (omega arith, refl)

pub loop-count-preserved : goal.loop-count-preserved
loop-count-preserved c =
    let l = c.loop-count in
    let e = c.capped-sum.ensures in
    (omega (arith, e), e ∙ rw (l.invariant.1, c.from.ensures) (sym (capped_next c.args.counts.now l.count-index c.loop-count-test.true)))
