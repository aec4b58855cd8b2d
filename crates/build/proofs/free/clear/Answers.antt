-- `clear` meets its contract. Assumes nothing.
use mathlib.Core.Path.{ap, ◌∙◌}
use lib.ListN.{set}
use Rattle.build.proofs.Filling.{fill_next}
use Rattle.build.proofs.free.clear.Goals as goal

pub loop-place-preserved : goal.loop-place-preserved
loop-place-preserved g c =
    let o = c.loop-place in
    ap (λ l. set l o.place-index c.args.zero) o.invariant ∙ fill_next o.place-index c.args.zero c.args.free.now c.loop-place-test.true
