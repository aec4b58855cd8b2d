-- `take` of the sink that tries meets its contract. Assumes nothing.
use mathlib.Core.Path.{refl, sym, ◌∙◌}
use mathlib.Core.List.{[], ◌∷◌}
use native.Mathlib.Omega.{arith}
use lib.ListN.{length-append}
use Rattle.combine.specs.Cells.{as_entry}
use Rattle.combine.proofs.DensityCells.{one_not_finite, not_finite_append}
use Rattle.product.proofs.walk.TryingSinkF64.take.Goals as goal

pub returns-then-not_finite : goal.returns-then-not_finite
returns-then-not_finite c =
    let e = as_entry c.args.cell in
    λ zs vs b w. (rw (not_finite_append b (e ∷ []), w.0) (one_not_finite e _ (sym c.not_finite.ensures ∙ c.if-not_finite.true)), refl, w.1.1, w.1.2)

pub returns : goal.returns
returns c =
    let e = as_entry c.args.cell in
    λ zs vs b w. (
      rw (not_finite_append b (e ∷ []), w.0) (one_not_finite e _ (sym c.not_finite.ensures ∙ c.if-not_finite.false)),
      (omega (arith, w.1.0, length-append b (e ∷ [])), w.1.1, w.1.2),
    )
