-- `append` meets its contract. Assumes nothing.
use mathlib.Core.Path.{ap, ◌∙◌}
use Rattle.zuniq.proofs.Numbers.{numbers-set}
use Rattle.build.proofs.Places.{put_front}
use Rattle.build.proofs.stack.append.Goals as goal

pub returns : goal.returns
returns g c =
    let a = c.args in
    let z = g.Z.ZUniqHashT in (
      ap z.numbers (put_front a.n a.zuniqs.now _ a.zuniq c.requires.0 c.put.ensures) ∙ numbers-set z.number z.numbers g.met.Z.ZUniqHashT.numbers_are a.zuniqs.now a.n a.zuniq,
      put_front a.n a.values.now _ a.value c.requires.1 c.put-2.ensures,
    )
