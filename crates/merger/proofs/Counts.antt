-- The chi-square of counts in f64. Whole numbers up to 2^53 and their sums are exact, which four u32s are far below; chi is no
-- NaN, and it is exactly the sum where a count is 0. Assumes nothing.
use Rattle.std.proofs.Common.{◌≡◌, ℕ, ◌+◌, ◌^◌, ◌≤◌, Bool, false, T, ◌⊎◌, pos, sym, refl, ap, ◌∙◌, zero-le, zero-lt-suc, arith, le-ltb}
use mathlib.Core.Logic.{⊎_map}
use native.Mathlib.Nat.{sub-zero}
use lib.Ieee as Ieee
use lib.Ieee.{Float, nan, inf, fin, binary64, is_nan, round}
use lib.Ieee.Exact.{HasValue}
use lib.Ieee.Scale.{finite}
use lib.Ieee.Back.{round_whole}
use Rattle.merger.specs.Floats.{◌⊕◌, ◌⊖◌, ◌⊗◌, ◌⊘◌, float, 0·0, 1·0, 4·0}
use Rattle.merger.specs.Merge.{sum_of, w_of, excess, chi_of_counts}
use Rattle.merger.specs.ChiError.{SomeZero}
use Rattle.merger.proofs.Values.{add_at, sub_at}
use Rattle.merger.proofs.Floats.{HasSign, round-sign, sign_not_nan, add_plus, over_plus, times_plus, less_not_nan, add_infinite}

-- ---- whole numbers and their sums are exact
-- The f64 of a whole number is rounded once.
float_is : (n : ℕ) → float n ≡ round binary64 false n 1
unfolding Ieee.of_int
float_is n = refl

-- The f64 of a whole number up to 2^53 is that number.
pub float_value : (n : ℕ) → n ≤ 2 ^ 53 → HasValue (float n) false n 1
float_value n h = rw (float_is n) (round_whole binary64 false n h)

-- A sum of two whole numbers up to 2^53 is exact.
pub add_exact : (a b : ℕ) → a + b ≤ 2 ^ 53 → float a ⊕ float b ≡ float (a + b)
add_exact a b h = add_at (float a) (float b) a b 1 (zero-lt-suc 0) (float_value a (omega arith)) (float_value b (omega arith)) ∙ sym (float_is (a + b))

-- ---- "A zero makes w infinite and chi = sum"
-- The inverse of a count has the sign +, and that of 0 is infinite.
inverse_plus : (n : ℕ) → HasSign false (1·0 ⊘ float n)
inverse_plus n = over_plus 1 (pos 0) (float n) refl (rw (float_is n) (round-sign binary64 false n 1))

inverse_of_zero : (n : ℕ) → n ≡ 0 → 1·0 ⊘ float n ≡ inf false
unfolding Ieee.div Ieee.of_int
inverse_of_zero n e = rw e

-- A sum of four values with the sign + has it, and is infinite where one of them is.
module _ (x0 x1 x2 x3 : Float) (h0 : HasSign false x0) (h1 : HasSign false x1) (h2 : HasSign false x2) (h3 : HasSign false x3) where
  two_plus : HasSign false (x0 ⊕ x1)
  two_plus = add_plus x0 x1 h0 h1

  three_plus : HasSign false ((x0 ⊕ x1) ⊕ x2)
  three_plus = add_plus (x0 ⊕ x1) x2 two_plus h2

  sum_plus : HasSign false (sum_of x0 x1 x2 x3)
  sum_plus = add_plus ((x0 ⊕ x1) ⊕ x2) x3 three_plus h3

  sum_infinite : (((x0 ≡ inf false) ⊎ (x1 ≡ inf false)) ⊎ (x2 ≡ inf false)) ⊎ (x3 ≡ inf false) → sum_of x0 x1 x2 x3 ≡ inf false
  sum_infinite z =
      let two : (x0 ≡ inf false) ⊎ (x1 ≡ inf false) → x0 ⊕ x1 ≡ inf false = add_infinite x0 x1 h0 h1 in
      let three : ((x0 ≡ inf false) ⊎ (x1 ≡ inf false)) ⊎ (x2 ≡ inf false) → (x0 ⊕ x1) ⊕ x2 ≡ inf false = λ z. add_infinite (x0 ⊕ x1) x2 two_plus h2 (⊎_map two (λ e. e) z) in
      add_infinite ((x0 ⊕ x1) ⊕ x2) x3 three_plus h3 (⊎_map three (λ e. e) z)

-- Where w is infinite nothing is taken from the sum.
excess-infinite : (n : ℕ) → n ≤ 2 ^ 53 → excess (float n) (inf false) ≡ float n
excess-infinite n h = ap (λ (x : Float). float n ⊖ x) nothing_off ∙ less_zero ∙ sym (float_is n)
  where
    less_zero : float n ⊖ 0·0 ≡ round binary64 false n 1
    less_zero = rw (sub_at (float n) 0·0 n 0 1 (zero-lt-suc 0) (float_value n h) (refl, refl)) (rw (le-ltb n 0 zero-le, sub-zero n))

    nothing_off : 4·0 ⊗ (4·0 ⊘ inf false) ≡ 0·0
    nothing_off = unfold Ieee.mul Ieee.div in refl

-- What has a value is finite.
value_finite : (x : Float) (s : Bool) (a c : ℕ) → HasValue x s a c → T (finite x)
value_finite nan s a c h = absurd h
value_finite (inf t) s a c h = absurd h
value_finite (fin t m e) s a c h = tt

module _ (n0 n1 n2 n3 : ℕ) where
  -- A zero makes w infinite.
  pub w_infinite : SomeZero n0 n1 n2 n3 → w_of (float n0) (float n1) (float n2) (float n3) ≡ inf false
  w_infinite z =
      sum_infinite (1·0 ⊘ float n0) (1·0 ⊘ float n1) (1·0 ⊘ float n2) (1·0 ⊘ float n3) (inverse_plus n0) (inverse_plus n1) (inverse_plus n2) (inverse_plus n3)
      (⊎_map (⊎_map (⊎_map (inverse_of_zero n0) (inverse_of_zero n1)) (inverse_of_zero n2)) (inverse_of_zero n3) z)

  module _ (h : n0 + n1 + n2 + n3 ≤ 2 ^ 53) where
    -- A sum of four counts is exact.
    pub sum_exact : sum_of (float n0) (float n1) (float n2) (float n3) ≡ float (n0 + n1 + n2 + n3)
    sum_exact = rw (add_exact n0 n1 (omega arith), add_exact (n0 + n1) n2 (omega arith)) (add_exact (n0 + n1 + n2) n3 h)

    -- A zero makes chi the sum.
    pub chi_of_zero : SomeZero n0 n1 n2 n3 → chi_of_counts n0 n1 n2 n3 ≡ float (n0 + n1 + n2 + n3)
    unfolding chi_of_counts
    chi_of_zero z = rw (sum_exact, w_infinite z) (excess-infinite (n0 + n1 + n2 + n3) h)

    -- Chi is no NaN.
    pub chi_not_nan : is_nan (chi_of_counts n0 n1 n2 n3) ≡ false
    unfolding chi_of_counts
    chi_not_nan =
        let n = n0 + n1 + n2 + n3 in
        let w = w_of (float n0) (float n1) (float n2) (float n3) in
        let w_plus : HasSign false w = sum_plus (1·0 ⊘ float n0) (1·0 ⊘ float n1) (1·0 ⊘ float n2) (1·0 ⊘ float n3) (inverse_plus n0) (inverse_plus n1) (inverse_plus n2) (inverse_plus n3) in
        let off_plus : HasSign false (4·0 ⊗ (4·0 ⊘ w)) = times_plus 1 (pos 2) (4·0 ⊘ w) refl (over_plus 1 (pos 2) w refl w_plus) in
        rw sum_exact (less_not_nan (float n) (4·0 ⊗ (4·0 ⊘ w)) (value_finite (float n) false n 1 (float_value n h)) (sign_not_nan false (4·0 ⊗ (4·0 ⊘ w)) off_plus))
