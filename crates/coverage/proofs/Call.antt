-- The call: what it answers and leaves in the buffers is what the definition says. Assumes nothing.
use mathlib.Core.Path.{◌≡◌, refl}
use mathlib.Core.Bool.{not}
use mathlib.Core.List.{List, ◌++◌}
use mathlib.Core.Option.{none, some}
use Prim.Native.Nat.{ℕ, ◌-◌, ◌≤◌, ◌<◌}
use lib.Dec.{eqb, ltb}
use lib.ListN.{length, take, replicate, length-map}
use borrow.Author.Tests.{lt-ltb, le-ltb, eqb-true, not-false}
use Rattle.refusal.specs.declared.Refusal.{Refusal}
use Rattle.mom.specs.Map.{ValidMap, first_fault}
use Rattle.refusal.specs.Checks.{or_else, refused_if}
use Rattle.refusal.proofs.Checks.{or_else_none, refused_if-none}
use Rattle.build.specs.Add.{map_refusal}
use Rattle.build.proofs.Checking.{map_passes}
use Rattle.coverage.specs.Ranges.{padded, from_of, to_of}
use Rattle.coverage.specs.Coverage.{coverage_of, coverage_input_refusal, coverage_refusal, coverage_call}
use Rattle.coverage.specs.Promises.{Stand}
use Rattle.std.specs.Prelude.{Ok, Err}

-- What a call that passes the checks may rely on.
pub record Passed (D : ℕ) (zs : List ℕ) (starts ends : ℕ) : Type 0 where
  pub refusal : coverage_input_refusal D zs starts ends ≡ none
  pub paired : starts ≡ ends
  pub valid : ValidMap 29 D zs

pub passes_all : (D : ℕ) (zs : List ℕ) (starts ends : ℕ) → coverage_input_refusal D zs starts ends ≡ none → Passed D zs starts ends
unfolding coverage_input_refusal
passes_all D zs starts ends o =
    let a = or_else_none (refused_if (ltb 29 D) Refusal.DepthOutOfRange) (or_else (refused_if (not (eqb starts ends)) Refusal.LengthMismatch) (map_refusal (first_fault 29 D zs))) o in
    let b = or_else_none (refused_if (not (eqb starts ends)) Refusal.LengthMismatch) (map_refusal (first_fault 29 D zs)) a.1 in
    record { refusal = o; paired = eqb-true starts ends (not-false _ (refused_if-none (not (eqb starts ends)) Refusal.LengthMismatch b.0)); valid = map_passes 29 D zs b.1 }

module _ (D : ℕ) (zs ss es : List ℕ) where
  pub call_refused : (r : Refusal) → coverage_input_refusal D zs (length ss) (length es) ≡ some r → (Err r, ss, es) ≡ coverage_call D zs ss es
  unfolding coverage_call coverage_refusal
  call_refused r e = rw e refl

  module _ (p : Passed D zs (length ss) (length es)) where
    pub call_no_space : (n : ℕ) → n ≡ length (coverage_of 29 zs) → length ss < n → (Err Refusal.NoSpace, ss, es) ≡ coverage_call D zs ss es
    unfolding coverage_call coverage_refusal
    call_no_space n k l = rw (p.refusal, ← k, lt-ltb (length ss) n l) refl

    pub call_written : (n : ℕ) (ss₁ es₁ ss₂ es₂ : List ℕ) → n ≡ length (coverage_of 29 zs) → n ≤ length ss → Stand (coverage_of 29 zs) ss₁ es₁ → length ss₁ ≡ length ss → length es₁ ≡ length es
        → ss₂ ≡ take n ss₁ ++ replicate (length ss₁ - n) 0 → es₂ ≡ take n es₁ ++ replicate (length es₁ - n) 0
        → (Ok n, ss₂, es₂) ≡ coverage_call D zs ss es
    unfolding coverage_call coverage_refusal padded
    call_written n ss₁ es₁ ss₂ es₂ k u s ls le cs ce =
        rw (p.refusal, le-ltb (length ss) (length (coverage_of 29 zs)) (rw (← k) u), length-map (coverage_of 29 zs) from_of, length-map (coverage_of 29 zs) to_of, cs, ce, k, s.starts, s.ends, ls, le) refl
