-- The exact number that an f64 stands for, and its distance from another one. Assumes nothing.
use Rattle.std.proofs.Common.{◌≡◌, ℕ, zero, suc, ◌+◌, ◌-◌, ◌*◌, ◌^◌, ◌<◌, ◌≤◌, Bool, true, false, cond, not, T, ltb, pos, negsuc, ◌-ℤ◌, ◌*ℤ◌, neg_ℤ, nat_abs, sym, refl, ap, ◌∙◌, true≢false, mul-le-mul_right, mul_assoc, zero-mul, mul-one, mul_right_comm, le_of_mul-le-mul_right, arith, ltb→lt, nltb→le, le-ltb, eq-eqb, le-leb}
use mathlib.Core.Bool.{false≢true}
use lib.Ieee.{Float, nan, inf, fin, up, down}
use lib.Ieee.Fits.{down_pos}
use lib.Ieee.Exact.{HasValue}
use Rattle.merger.specs.ChiError.{exact_value, distance, is_within, is_exactly}
use Rattle.merger.proofs.Values.{sums_same, differences_same}

-- ---- whole numbers that may be below 0, in the terms of those that are not
-- a − b, where that is not below 0
less : (a b : ℕ) → b ≤ a → pos a -ℤ pos b ≡ pos (a - b)
less a zero h = ap pos (none a)
  where
    none : (a : ℕ) → a + 0 ≡ a - 0
    none a = omega arith
less a (suc b) h = rw (le-ltb a (suc b) h)

-- between a and b
distance-of : (a b : ℕ) → distance (pos a) (pos b) ≡ (a - b) + (b - a)
distance-of a zero = none a
  where
    none : (a : ℕ) → a + 0 ≡ (a - 0) + (0 - a)
    none a = omega arith
distance-of a (suc b) = go (ltb a (suc b)) (ltb→lt a (suc b)) (nltb→le a (suc b))
  where
    go : (t : Bool) → (T t → a < suc b) → (T (not t) → suc b ≤ a) → nat_abs (cond t (negsuc (suc b - suc a)) (pos (a - suc b))) ≡ (a - suc b) + (suc b - a)
    go true less not_less = let l = less tt in omega arith
    go false less not_less = let l = not_less tt in omega arith

-- between −a and b
from_0 : (n : ℕ) → distance (pos 0) (pos n) ≡ n
from_0 n = distance-of 0 n ∙ alone n
  where
    alone : (n : ℕ) → (0 - n) + (n - 0) ≡ n
    alone n = omega arith

distance-below : (a b : ℕ) → distance (neg_ℤ (pos a)) (pos b) ≡ a + b
distance-below zero b = from_0 b ∙ omega arith
distance-below (suc a) zero = from_0 (suc a) ∙ omega arith
distance-below (suc a) (suc b) = omega arith

-- (−n) × m
minus_times : (n m : ℕ) → neg_ℤ (pos n) *ℤ pos m ≡ neg_ℤ (pos (n * m))
minus_times zero m = rw (zero-mul m)
minus_times (suc n) m = refl

-- ---- an f64 that is ±G / L is that near, where ±G / L is
-- Its own fraction is n / u, so that all that is known times L is known times u.
rescaled : (k f z f' z' L u : ℕ) → 0 < L → f' * L ≡ f * u → z' * L ≡ z * u → k * f ≤ z → k * f' ≤ z'
rescaled k f z f' z' L u p e g h = le_of_mul-le-mul_right (rw (mul_assoc k f' L, e, g, sym (mul_assoc k f u)) (mul-le-mul_right u h)) p

module _ (G S P E L : ℕ) (l : 0 < L) (h : 16 * P ≤ S * E) where
  pub above_within : (x : Float) → HasValue x false G L → 2 ^ 50 * ((G * E - (S * E - 16 * P) * L) + ((S * E - 16 * P) * L - G * E)) ≤ S * E * L → is_within 50 S P E (exact_value x) ≡ true
  above_within nan v e = absurd v
  above_within (inf s) v e = absurd v
  above_within (fin true m d) v e = absurd (true≢false v.0)
  above_within (fin false m d) v e =
      let n = m * up d in
      let u = down d in
      let own : n * E * L ≡ G * E * u = mul_right_comm n E L ∙ ap (λ (z : ℕ). z * E) v.1 ∙ mul_right_comm G u E in
      let R = S * E - 16 * P in
      rw (less (S * E) (16 * P) h, distance-of (n * E) (R * u))
      (le-leb _ _
      (rescaled (2 ^ 50) ((G * E - R * L) + (R * L - G * E)) (S * E * L) ((n * E - R * u) + (R * u - n * E)) (S * E * u) L u l
      (sums_same (n * E - R * u) (R * u - n * E) (G * E - R * L) (R * L - G * E) u L (down_pos d) l
      (differences_same (n * E) (R * u) (G * E) (R * L) u L (down_pos d) l own (mul_right_comm R u L))
      (differences_same (R * u) (n * E) (R * L) (G * E) u L (down_pos d) l (mul_right_comm R u L) own))
      (mul_right_comm (S * E) u L) e))

  pub below_within : (x : Float) → HasValue x true G L → 2 ^ 50 * (G * E + (S * E - 16 * P) * L) ≤ S * E * L → is_within 50 S P E (exact_value x) ≡ true
  below_within nan v e = absurd v
  below_within (inf s) v e = absurd v
  below_within (fin false m d) v e = absurd (false≢true v.0)
  below_within (fin true m d) v e =
      let n = m * up d in
      let u = down d in
      let own : n * E * L ≡ G * E * u = mul_right_comm n E L ∙ ap (λ (z : ℕ). z * E) v.1 ∙ mul_right_comm G u E in
      let R = S * E - 16 * P in
      rw (minus_times n E, less (S * E) (16 * P) h, distance-below (n * E) (R * u))
      (le-leb _ _
      (rescaled (2 ^ 50) (G * E + R * L) (S * E * L) (n * E + R * u) (S * E * u) L u l
      (sums_same (n * E) (R * u) (G * E) (R * L) u L (down_pos d) l own (mul_right_comm R u L))
      (mul_right_comm (S * E) u L) e))

-- ---- an f64 that is a whole number is exactly that
pub value_exact : (x : Float) (n : ℕ) → HasValue x false n 1 → is_exactly n (exact_value x) ≡ true
value_exact nan n v = absurd v
value_exact (inf s) n v = absurd v
value_exact (fin true m e) n v = absurd (true≢false v.0)
value_exact (fin false m e) n v = rw (sym (mul-one (m * up e)) ∙ v.1, distance-of (n * down e) (n * down e)) (eq-eqb _ 0 (itself (n * down e)))
  where
    itself : (n : ℕ) → (n - n) + (n - n) ≡ 0
    itself n = omega arith
