use mathlib.Core.Path.{◌≡◌}
use Prim.Native.Nat.{◌-◌}
use lib.ListN.{length}
use Rattle.build.proofs.Pushing.{Before}
use Rattle.build.proofs.stack.push_all.Given as goal

abbrev pub invariant-loop-i : goal.invariant-loop-i
invariant-loop-i g l =
    let z = g.M.Zuniq.ZUniqHashT in
    Before (g.M.Merger.accept l.merger) z.MAX_DEPTH l.depth l.fn.n (z.numbers l.hashes) l.batch (z.numbers l.initial.zuniqs) l.initial.values l.i l.n (z.numbers l.zuniqs) l.values
    × (length l.zuniqs ≡ length l.initial.zuniqs) × (length l.values ≡ length l.initial.values)

abbrev pub decreases-loop-i : goal.decreases-loop-i
decreases-loop-i g l = length l.hashes - l.i
