-- `check_total` meets its contract. Assumes nothing.
use mathlib.Core.Path.{◌≡◌, refl, sym, ap, ◌∙◌}
use mathlib.Core.Bool.{Bool, true, false}
use Prim.Native.Nat.{ℕ, ◌+◌, ◌≤◌}
use native.Mathlib.Omega.{arith}
use lib.Dec.{ltb}
use borrow.Author.Tests.{lt-ltb, ltb-true, ltb-false}
use Rattle.std.specs.Prelude.{cond, Ok}
use Rattle.build.specs.Add.{sum_of, total_refusal}
use Rattle.build.proofs.Checking.{total_passes}
use Rattle.build_counts.specs.declared.BatchCheck.{BatchCheck}
use Rattle.build_counts.proofs.check_total.Goals as goal

-- What the total tells.
total_is : (n x : ℕ) (b : Bool) → cond b BatchCheck.TooLarge (BatchCheck.Total n) ≡ BatchCheck.Total x → (b ≡ false) × (n ≡ x)
total_is n x true e = let z : ◌≡◌ {A = ℕ} 0 1 = cc in absurd (omega arith)
total_is n x false e = (refl, cc)

too_large : (n : ℕ) (b : Bool) → cond b BatchCheck.TooLarge (BatchCheck.Total n) ≡ BatchCheck.TooLarge → b ≡ true
too_large n true e = refl
too_large n false e = let z : ◌≡◌ {A = ℕ} 0 1 = cc in absurd (omega arith)

pub returns-then-held-gt-MAX_COUNT : goal.returns-then-held-gt-MAX_COUNT
unfolding total_refusal
returns-then-held-gt-MAX_COUNT c = rw (lt-ltb 4294967295 c.args.held c.if-held-gt-MAX_COUNT.true) refl

pub overflow_place-requires : goal.overflow_place-requires
overflow_place-requires c =
    let n = c.args.held + sum_of c.args.batch.now in
    (omega (arith, c.if-held-gt-MAX_COUNT.false), ltb-true 4294967295 n (too_large n (ltb 4294967295 n) (sym c.in_default.ensures)))

pub returns-in_default : goal.returns-in_default
returns-in_default c = rw c.overflow_place.ensures refl

pub returns : goal.returns
returns c =
    let n = c.args.held + sum_of c.args.batch.now in
    let t = total_is n c.in-Total.total (ltb 4294967295 n) (sym c.in-Total.ensures) in
    rw (total_passes c.args.held c.args.batch.now (ltb-false 4294967295 n t.0)) (ap Ok (sym t.1))
