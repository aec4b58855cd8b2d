-- `run_start` meets its contract. The invariant of its loop: the entries from `first` on and before the place
-- overlap the query. Assumes nothing.
use mathlib.Core.Path.{◌≡◌, sym, ◌∙◌}
use Prim.Native.Nat.{◌+◌, ◌-◌}
use native.Mathlib.Omega.{arith}
use Rattle.mom.proofs.Searching.{found_none_before, found_before, starts_behind, starts_at_0}
use Rattle.lookup.proofs.run_start.Goals as goal

pub loop-first-init : goal.loop-first-init
loop-first-init g c = found_none_before

pub returns-then-not-is_overlapped : goal.returns-then-not-is_overlapped
returns-then-not-is_overlapped g c =
    let e : c.loop-first.first - 1 + 1 ≡ c.loop-first.first = omega (arith, c.loop-first-test.true) in
    rw e (starts_behind c.loop-first.invariant (rw c.zuniq_at.ensures at (sym c.is_overlapped.ensures ∙ c.if-not-is_overlapped.true)))

pub loop-first-preserved : goal.loop-first-preserved
loop-first-preserved g c = found_before c.loop-first.invariant c.loop-first-test.true (rw c.zuniq_at.ensures at (sym c.is_overlapped.ensures ∙ c.if-not-is_overlapped.false))

pub returns : goal.returns
returns g c =
    let e : c.loop-first.first ≡ 0 = omega (arith, c.loop-first-test.false) in
    rw e at (starts_at_0 c.loop-first.invariant c.loop-first-test.false)
