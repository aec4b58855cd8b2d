-- `part` meets its contract. Assumes nothing.
use mathlib.Core.Path.{refl}
use Rattle.combine.specs.Rules.{copy_density}
use Rattle.product.proofs.walk.ProductRule.part.Goals as goal

pub returns : goal.returns
unfolding copy_density
returns c = refl
