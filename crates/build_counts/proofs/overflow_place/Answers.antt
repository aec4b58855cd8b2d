-- `overflow_place` meets its contract. The loop's invariant: no cell passed has exceeded what a u32 holds, and before the first
-- the sum is that of the held counts. Assumes nothing.
use mathlib.Core.Path.{◌≡◌, refl, sym, ap, ◌∙◌}
use mathlib.Core.List.{List}
use mathlib.Core.Logic.{⊎_elim}
use mathlib.Core.Option.{some}
use Prim.Native.Nat.{ℕ, ◌≤◌, ◌<◌}
use native.Mathlib.Omega.{arith}
use borrow.Author.Tests.{lt-ltb, le-ltb}
use Rattle.zuniq.proofs.Basics.{le_or_lt}
use Rattle.refusal.specs.declared.Refusal.{Refusal}
use Rattle.build.specs.Add.{sum_refusal, total_refusal}
use Rattle.build.proofs.Filling.{sum_drop, sum_passes, sum_goes_on, sum_none_left}
use Rattle.build_counts.proofs.overflow_place.Goals as goal

-- The held counts alone are too many, or else those of the batch tell the place.
too_many : (held : ℕ) (ns : List ℕ) → 4294967295 < held → total_refusal held ns ≡ some (Refusal.CountOverflow 0)
unfolding total_refusal
too_many held ns p = rw (lt-ltb 4294967295 held p) refl

by_batch : (held : ℕ) (ns : List ℕ) → held ≤ 4294967295 → total_refusal held ns ≡ sum_refusal held 0 ns
unfolding total_refusal
by_batch held ns p = rw (le-ltb 4294967295 held p) refl

pub returns-then-sum-gt-MAX_COUNT : goal.returns-then-sum-gt-MAX_COUNT
returns-then-sum-gt-MAX_COUNT c =
    let o = c.loop-i in
    let held = c.args.held in
    let b = c.args.batch.now in
    let passes = rw c.from-sum.ensures at c.if-sum-gt-MAX_COUNT.true in
    ⊎_elim
    (λ p. by_batch held b p ∙ sym o.invariant.4 ∙ sum_passes b o.i o.sum c.loop-i-test.true passes)
    (λ p. let first : 0 ≡ o.i = ⊎_elim (λ z. omega (arith, z)) (λ q. absurd (omega (arith, o.invariant.1, o.invariant.3 q))) (le_or_lt o.i 0) in too_many held b p ∙ ap (λ (i : ℕ). some (Refusal.CountOverflow i)) first)
    (le_or_lt held 4294967295)

pub loop-i-preserved : goal.loop-i-preserved
loop-i-preserved c =
    let o = c.loop-i in
    let b = c.args.batch.now in
    let p = c.loop-i-test.true in
    let fits = rw c.from-sum.ensures at c.if-sum-gt-MAX_COUNT.false in
    rw c.from-sum.ensures (omega arith, omega (arith, o.invariant.1), λ first. absurd (omega arith), λ some_passed. fits, sym (sum_goes_on b o.i o.sum p fits) ∙ o.invariant.4, omega (arith, sum_drop b o.i p, o.invariant.5))

pub returns : goal.returns
returns c =
    let o = c.loop-i in
    let left = sum_none_left c.args.batch.now o.i c.loop-i-test.false in
    let above : 4294967295 < c.args.held = ⊎_elim (λ z. omega (arith, o.invariant.2 (omega (arith, z)), o.invariant.5, left, c.requires.1)) (λ q. absurd (omega (arith, o.invariant.3 q, o.invariant.5, left, c.requires.1))) (le_or_lt o.i 0) in
    too_many c.args.held c.args.batch.now above
