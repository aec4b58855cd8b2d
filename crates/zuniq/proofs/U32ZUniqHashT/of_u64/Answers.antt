-- The u32 holds every number below twice N(13). Assumes nothing.
use native.Mathlib.Omega.{arith}
use Rattle.zuniq.specs.Cells.{n_hash}
use Rattle.zuniq.proofs.U32ZUniqHashT.of_u64.Goals as goal

pub overflow_cast-result : goal.overflow_cast-result
unfolding n_hash
overflow_cast-result c = omega arith
