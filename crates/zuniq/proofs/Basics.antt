-- Tests, comparisons and powers of four, as the laws of cells need them. Assumes nothing.
use mathlib.Core.Path.{◌≡◌, refl, sym}
use mathlib.Core.Bool.{Bool, true, false, ◌&&◌, ◌||◌, false≢true}
use mathlib.Core.Logic.{◌⊎◌, inl, inr}
use Prim.Native.Nat.{ℕ, zero, suc, ◌+◌, ◌*◌, ◌≤◌, ◌<◌, ◌^◌}
use native.Mathlib.Decide.{dec_le}
use native.Mathlib.Nat.{one-le-pow, pow-suc}
use native.Mathlib.Omega.{arith}
use lib.Dec.{eqb}
use lib.Pow.{pow-add}
use borrow.Author.Tests.{eq-eqb, ne_eqb, eqb-true, eqb-false}

-- Of a conjunction that is true both parts are.
pub and_is_true : (a b : Bool) → (a && b) ≡ true → (a ≡ true) × (b ≡ true)
and_is_true true b e = (refl, e)
and_is_true false b e = absurd (false≢true e)

-- Of a disjunction that is true one part is.
pub or_is_true : (a b : Bool) → (a || b) ≡ true → (a ≡ true) ⊎ (b ≡ true)
or_is_true true b e = inl refl
or_is_true false b e = inr e

-- A test that cannot be true is false.
pub is_false : (b : Bool) → (b ≡ true → ⊥) → b ≡ false
is_false true n = absurd (n refl)
is_false false n = refl

-- Two numbers are in order or the other way round.
pub le_or_lt : (a b : ℕ) → (a ≤ b) ⊎ (b < a)
le_or_lt a b = elim (dec_le a b) as (λ _. (a ≤ b) ⊎ (b < a)) [ yes l ↦ inl l | no n ↦ inr (omega arith) ]

-- A power of four is positive.
pub four_pow_pos : (k : ℕ) → 0 < 4 ^ k
four_pow_pos k = one-le-pow k 4 (omega arith)

-- A power of four splits as its exponent does.
pub four_pow_split : (k a b : ℕ) → k ≡ a + b → 4 ^ k ≡ 4 ^ a * 4 ^ b
four_pow_split k a b q = rw q (pow-add 4 a b)

-- A power of four as one of two: a shift.
pub four_pow_two : (k : ℕ) → 4 ^ k ≡ 2 ^ (2 * k)
four_pow_two zero = refl
four_pow_two (suc k) =
    let e : 2 * suc k ≡ 2 * k + 2 = omega arith in
    rw (pow-suc 4 k, e, pow-add 2 (2 * k) 2, four_pow_two k) refl

-- A test of equality goes either way.
pub eqb-sym : (a b : ℕ) → eqb a b ≡ eqb b a
eqb-sym a b = go (eqb a b) refl
  where
    go : (t : Bool) → eqb a b ≡ t → t ≡ eqb b a
    go true e = sym (eq-eqb b a (sym (eqb-true a b e)))
    go false e = sym (ne_eqb b a (λ q. eqb-false a b e (sym q)))
