-- `take` of the sink that merges meets its contract. Assumes nothing.
use native.Mathlib.Omega.{arith}
use mathlib.Core.List.{◌∷◌}
use Rattle.merger.proofs.Accept.{accepted_count_is_sum}
use Rattle.combine.specs.Cells.{as_entry}
use Rattle.combine.proofs.Outcomes.{total-append, Laid-next, Laid-room, Laid-total}
use Rattle.pool.proofs.walk.MergingSinkU32.take.Goals as goal

pub push-requires : goal.push-requires
push-requires c =
    let s = c.args.self.merger.now in
    let k = c.requires in
    let e = as_entry c.args.cell in
    let r = Laid-room k.taken e k.after k.fit.0 in
    record {
      room = (k.taken.added.stands, r.0, r.1);
      cell = k.good;
      fits = omega (arith, k.fit.1, total-append (λ n. n) k.before (e ∷ k.after), Laid-total k.taken (λ n. n) (accepted_count_is_sum 29 s.protected.zuniqs.now s.depth_threshold s.chi2_threshold));
    }

pub returns : goal.returns
returns c = λ zs vs b w. Laid-next w (as_entry c.args.cell) c.push.ensures c.push.auto.zuniqs c.push.auto.values
