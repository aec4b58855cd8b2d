-- `take` of the sink that merges meets its contract. Assumes nothing.
use native.Mathlib.Omega.{arith}
use Rattle.build.specs.Buffers.{held}
use Rattle.build.proofs.DensityCalls.{no_total}
use Rattle.combine.specs.Cells.{as_entry}
use Rattle.combine.proofs.Outcomes.{Laid-next, Laid-room}
use Rattle.product.proofs.walk.MergingSinkF64.take.Goals as goal

pub push-requires : goal.push-requires
push-requires c =
    let k = c.requires in
    let r = Laid-room k.taken (as_entry c.args.cell) k.after k.fit in
    record {
      room = (k.taken.added.stands, r.0, r.1);
      cell = k.good;
      fits = omega (arith, no_total (held 29 c.args.n c.args.zuniqs.now c.args.densities.now));
    }

pub returns : goal.returns
returns c = λ zs vs b w. Laid-next w (as_entry c.args.cell) c.push.ensures c.push.auto.zuniqs c.push.auto.values
