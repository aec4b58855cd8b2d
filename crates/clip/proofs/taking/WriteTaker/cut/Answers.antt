-- `cut` meets its contract. The invariant of its loop is `Cutting`; the measure is what is left of the piece. Assumes nothing.
use native.Mathlib.Omega.{arith}
use Rattle.clip.proofs.Levels.{sky_is}
use Rattle.clip.proofs.Walking.{Cutting-start, cutting_end, width_within, CanKeep-here, Cutting-on}
use Rattle.clip.proofs.taking.WriteTaker.cut.Goals as goal

pub loop-at-init : goal.loop-at-init
loop-at-init c = Cutting-start _ _ _ _ _ _ _

pub largest_at-width-requires : goal.largest_at-width-requires
largest_at-width-requires c = (c.loop-at-test.true, omega (arith, c.requires.1, c.loop-at.invariant.past), c.requires.0)

pub overflow_mul-zuniq : goal.overflow_mul-zuniq
overflow_mul-zuniq c = omega (arith, sky_is, c.requires.0, c.loop-at-test.true)

pub overflow_add-zuniq : goal.overflow_add-zuniq
overflow_add-zuniq c = omega (arith, sky_is, c.requires.0, c.loop-at-test.true, width_within _ _ _ _ _ _ _ _ _ _ _ c.loop-at.invariant _ c.largest_at-width.ensures)

pub keep-n-requires : goal.keep-n-requires
keep-n-requires c = CanKeep-here _ _ _ _ _ _ _ _ _ _ _ c.loop-at.invariant _ c.largest_at-width.ensures c.requires.2

pub overflow_add-at : goal.overflow_add-at
overflow_add-at c = omega (arith, sky_is, c.requires.0, width_within _ _ _ _ _ _ _ _ _ _ _ c.loop-at.invariant _ c.largest_at-width.ensures)

pub loop-at-smaller : goal.loop-at-smaller
loop-at-smaller c = omega (arith, c.loop-at-test.true, width_within _ _ _ _ _ _ _ _ _ _ _ c.loop-at.invariant _ c.largest_at-width.ensures)

pub loop-at-preserved : goal.loop-at-preserved
loop-at-preserved c = Cutting-on _ _ _ _ _ _ _ _ _ _ _ c.loop-at.invariant _ c.largest_at-width.ensures c.requires.2 _ _ _ c.keep-n.ensures.0 c.keep-n.ensures.1 c.keep-n.auto.zuniqs c.keep-n.auto.densities

pub returns : goal.returns
returns c = cutting_end _ _ _ _ _ _ _ _ _ _ _ c.loop-at.invariant (omega (arith, c.loop-at-test.false))
