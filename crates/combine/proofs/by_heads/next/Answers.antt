-- `next` meets its contract. Assumes nothing.
use mathlib.Core.Path.{refl, ap}
use Rattle.combine.specs.Heads.{fetches}
use Rattle.combine.specs.Cells.{as_entry, zuniq_in, head_of}
use Rattle.combine.proofs.Heads.{entry_known}
use Rattle.combine.proofs.by_heads.next.Goals as goal

pub returns-in-Some : goal.returns-in-Some
returns-in-Some g c =
    let k = entry_known as_entry zuniq_in c.args.map.now.zuniqs.now c.args.map.now.values.now _ _ _ (ap head_of c.in-Some.is) c.head_at.ensures in
    fetches c.if-not-side.false c.if-side-gt0.false _ k refl
