use mathlib.Core.Path.{◌≡◌}
use Prim.Native.Nat.{◌≤◌}
use lib.ListN.{length}
use Rattle.build.specs.Stack.{collapse}
use Rattle.build.specs.Buffers.{held}
use Rattle.build.specs.Promises.{total}
use Rattle.build.specs.Standing.{Behind}
use Rattle.build.proofs.Collapsing.{Turning}
use Rattle.build.proofs.stack.collapse.Given as goal

abbrev pub invariant-loop-depth : goal.invariant-loop-depth
invariant-loop-depth g l =
    let K = g.M.Zuniq.ZUniqHashT.MAX_DEPTH in
    let zs = g.M.Zuniq.ZUniqHashT.numbers l.zuniqs in
    let zs₀ = g.M.Zuniq.ZUniqHashT.numbers l.initial.zuniqs in
    let accept = g.M.Merger.accept l.merger in
    (l.n ≤ l.fn.n) × (length l.zuniqs ≡ length l.initial.zuniqs) × (length l.values ≡ length l.initial.values)
    × Turning accept K l.fn.value (collapse accept (held K l.fn.n zs₀ l.initial.values)) l.n l.depth l.hash l.value zs l.values
    × (total g.M.Merger.weight (held K l.n zs l.values) ≤ 4294967295) × Behind l.fn.n zs₀ l.initial.values zs l.values

abbrev pub decreases-loop-depth : goal.decreases-loop-depth
decreases-loop-depth g l = l.depth
