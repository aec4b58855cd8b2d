use Prim.Native.Nat.{◌-◌}
use Rattle.clip.specs.Passes.{Aim}
use Rattle.clip.proofs.Walking.{Cutting}
use Rattle.clip.proofs.taking.WriteTaker.cut.Given as goal

abbrev pub invariant-loop-at : goal.invariant-loop-at
invariant-loop-at l = Cutting Aim.Write l.n-2 l.from l.to l.density l.initial.zuniqs l.initial.densities l.zuniqs l.densities l.n l.at

abbrev pub decreases-loop-at : goal.decreases-loop-at
decreases-loop-at l = l.to - l.at
