-- `start` of the sink that tries meets its contract. Assumes nothing.
use mathlib.Core.Path.{refl}
use Rattle.combine.proofs.DensityCells.{no_cell_finite}
use Rattle.product.proofs.walk.TryingSinkF64.start.Goals as goal

pub returns : goal.returns
returns c = λ zs vs. (no_cell_finite, (refl, refl, refl))
