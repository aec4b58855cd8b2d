-- `density_of_count` meets its contract: the same steps in the same order. Assumes nothing.
use Rattle.std.proofs.Common.{refl, arith, le-ltb}
use lib.Ieee.{of_bits, of_int}
use Rattle.density.specs.Densities.{density_at, density_of_count}
use Rattle.density.proofs.density_of_count.Goals as goal

pub returns : goal.returns
unfolding density_at density_of_count of_bits of_int
returns c =
    let d = c.args.depth in
    rw (le-ltb 29 d (omega arith), c.nearest_u64_to_f64-cells.ensures, c.n_hash_unchecked.ensures) refl
