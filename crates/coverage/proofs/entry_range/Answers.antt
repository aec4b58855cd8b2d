-- `entry_range` meets its contract: the lowest set bit is the width of the range. Assumes nothing.
use native.Mathlib.Omega.{arith}
use Rattle.zuniq.specs.Cells.{n_hash}
use Rattle.coverage.proofs.Widths.{few_zeros, lowest_bit}
use Rattle.coverage.proofs.entry_range.Goals as goal

pub returns : goal.returns
returns c =
    let w = lowest_bit c.args.zuniq c.requires.0 c.requires.1 c.requires.2 in
    record { depth = c.requires.0; hash = c.requires.1; is = c.requires.2; starts = omega (arith, w.starts); ends = omega (arith, w.ends) }

pub overflow_cast-width : goal.overflow_cast-width
overflow_cast-width c = omega (arith, few_zeros c.args.zuniq c.requires.0 c.requires.1 c.requires.2)

pub overflow_shl-width : goal.overflow_shl-width
overflow_shl-width c = omega (arith, few_zeros c.args.zuniq c.requires.0 c.requires.1 c.requires.2)

pub overflow_sub-result : goal.overflow_sub-result
overflow_sub-result c = omega (arith, (lowest_bit c.args.zuniq c.requires.0 c.requires.1 c.requires.2).below)

pub overflow_add-result : goal.overflow_add-result
unfolding n_hash
overflow_add-result c = let w = lowest_bit c.args.zuniq c.requires.0 c.requires.1 c.requires.2 in omega (arith, w.ends, w.in_sky)
