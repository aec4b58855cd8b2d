-- What the check of the sums of two maps answers. Assumes nothing.
use Rattle.refusal.specs.declared.Refusal.{Refusal}
use Rattle.std.specs.Prelude.{Result, Ok, Err}
use mathlib.Core.Path.{◌≡◌, refl, ◌∙◌}
use mathlib.Core.List.{List}
use mathlib.Core.Logic.{⊎_elim}
use Prim.Native.Nat.{ℕ, ◌+◌, ◌≤◌, ◌<◌, min}
use native.Mathlib.Omega.{arith}
use borrow.Author.Tests.{lt-ltb}
use Rattle.zuniq.proofs.Basics.{le_or_lt}
use Rattle.build.specs.Add.{sum_of, capped_sum}
use Rattle.refusal.specs.Checks.{ok_unless}
use Rattle.combine.specs.Pool.{sums_refusal}

-- Capped sums tell as much as the sums.
pub sums_uncapped : (vs ws : List ℕ) (r : Result ℕ Refusal) → r ≡ ok_unless (sums_refusal (capped_sum vs) (capped_sum ws)) (capped_sum vs + capped_sum ws) → r ≡ ok_unless (sums_refusal (sum_of vs) (sum_of ws)) (sum_of vs + sum_of ws)
unfolding sums_refusal capped_sum
sums_uncapped vs ws r e = e ∙ ⊎_elim small large (le_or_lt (sum_of vs + sum_of ws) 4294967295)
  where
    small : sum_of vs + sum_of ws ≤ 4294967295 → ok_unless (sums_refusal (capped_sum vs) (capped_sum ws)) (capped_sum vs + capped_sum ws) ≡ ok_unless (sums_refusal (sum_of vs) (sum_of ws)) (sum_of vs + sum_of ws)
    small l = let v : min (sum_of vs) 4294967296 ≡ sum_of vs = omega arith in let w : min (sum_of ws) 4294967296 ≡ sum_of ws = omega arith in rw (v, w) refl

    large : 4294967295 < sum_of vs + sum_of ws → ok_unless (sums_refusal (capped_sum vs) (capped_sum ws)) (capped_sum vs + capped_sum ws) ≡ ok_unless (sums_refusal (sum_of vs) (sum_of ws)) (sum_of vs + sum_of ws)
    large l = rw (lt-ltb 4294967295 (min (sum_of vs) 4294967296 + min (sum_of ws) 4294967296) (omega arith), lt-ltb 4294967295 (sum_of vs + sum_of ws) l) refl
