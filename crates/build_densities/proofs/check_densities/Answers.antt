-- `check_densities` meets its contract. The loop's invariant: the densities passed are not refused. Assumes nothing.
use mathlib.Core.Path.{refl, sym, ◌∙◌}
use Rattle.build.proofs.DensityCalls.{densities_at, densities_end}
use Rattle.build_densities.proofs.check_densities.Goals as goal

pub returns-then-invalid_density : goal.returns-then-invalid_density
returns-then-invalid_density c = rw (← c.loop-i.invariant, densities_at c.loop-i.i c.args.densities.now c.loop-i-test.true, sym c.invalid_density.ensures ∙ c.if-invalid_density.true) refl

pub loop-i-preserved : goal.loop-i-preserved
loop-i-preserved c = rw (densities_at c.loop-i.i c.args.densities.now c.loop-i-test.true, sym c.invalid_density.ensures ∙ c.if-invalid_density.false) at c.loop-i.invariant

pub returns : goal.returns
returns c = rw (← c.loop-i.invariant, densities_end c.loop-i.i c.args.densities.now c.loop-i-test.false) refl
