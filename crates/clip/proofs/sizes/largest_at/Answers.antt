-- `largest_at` meets its contract. Assumes nothing.
use native.Mathlib.Omega.{arith}
use Rattle.clip.proofs.Levels.{zeros_le, largest_shifted}
use Rattle.clip.proofs.sizes.largest_at.Goals as goal

pub returns : goal.returns
returns c = (largest_shifted c.args.at c.args.to c.requires.0 c.requires.1 _ (omega arith)).1

pub overflow_sub-bits-2 : goal.overflow_sub-bits-2
overflow_sub-bits-2 c = omega (arith, zeros_le c.args.at c.args.to c.requires.0 c.requires.1)

pub overflow_shl-result : goal.overflow_shl-result
overflow_shl-result c = (largest_shifted c.args.at c.args.to c.requires.0 c.requires.1 _ (omega arith)).0
