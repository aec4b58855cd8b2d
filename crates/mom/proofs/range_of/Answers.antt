-- `range_of` meets its contract: half the width is a power of four, and no range ends past the sky. Assumes nothing.
use mathlib.Core.Path.{refl, sym, ◌∙◌}
use native.Mathlib.Omega.{arith}
use Rattle.zuniq.proofs.Ranges.{sky-fits}
use Rattle.mom.specs.Range.{cell_range, range_of}
use Rattle.mom.proofs.Widths.{half_width}
use Rattle.mom.proofs.range_of.Goals as goal

pub overflow_sub-half : goal.overflow_sub-half
overflow_sub-half g c =
    let a = half_width g.met.Z.ZUniqHashT.max_depth (sym c.from_zuniq.ensures.answer ∙ c.in-Cell.is) in
    omega (arith, c.MAX_DEPTH.ensures, a.deep)

pub overflow_sub-result : goal.overflow_sub-result
overflow_sub-result g c =
    let a = half_width g.met.Z.ZUniqHashT.max_depth (sym c.from_zuniq.ensures.answer ∙ c.in-Cell.is) in
    rw (c.MAX_DEPTH.ensures, c.as_u64-middle.ensures) a.below

pub overflow_add-result : goal.overflow_add-result
overflow_add-result g c =
    let most = g.met.Z.ZUniqHashT.max_depth in
    let a = half_width most (sym c.from_zuniq.ensures.answer ∙ c.in-Cell.is) in
    rw (c.MAX_DEPTH.ensures, c.as_u64-middle.ensures) (omega (arith, a.ends, a.in_sky, sky-fits g.Z.ZUniqHashT.MAX_DEPTH most))

pub returns : goal.returns
unfolding range_of cell_range
returns g c =
    let cell = sym c.from_zuniq.ensures.answer ∙ c.in-Cell.is in
    let a = half_width g.met.Z.ZUniqHashT.max_depth cell in
    rw (cell, c.MAX_DEPTH.ensures, c.as_u64-middle.ensures, a.starts, a.ends) refl
