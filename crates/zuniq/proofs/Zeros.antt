-- The trailing zeros of a zuniq tell its depth: they are even, two for each depth between the cell's and the largest.
-- Over any largest depth K and any width w of the type. Assumes nothing.
use mathlib.Core.Path.{◌≡◌, refl, ap, sym, ◌∙◌}
use Prim.Native.Nat.{ℕ, zero, suc, ◌+◌, ◌*◌, ◌≤◌, ◌<◌, ◌/◌, ◌%◌, ◌-◌, ◌^◌}
use native.Mathlib.Omega.{arith}
use native.Mathlib.Nat.{pow-suc, mul_assoc, mul-one}
use lib.Pow.{shr-shr, shl-shr}
use lib.Count.{count_trailing_zeros, under}
use Rattle.zuniq.specs.Cells.{n_hash}
use Rattle.zuniq.specs.Codec.{zuniq, IsZuniqOf}
use Rattle.zuniq.proofs.Basics.{four_pow_two}
use Rattle.zuniq.proofs.Ranges.{valid_iff_zuniq_lt}

double : (m i : ℕ) → m * 2 ^ suc i ≡ m * 2 ^ i * 2
double m i = ap (λ (n : ℕ). m * n) (pow-suc 2 i) ∙ sym (mul_assoc m (2 ^ i) 2)

-- an odd number times 2^i has i trailing zeros
zeros_of_odd : (w m i : ℕ) → m % 2 ≡ 1 → i < w → count_trailing_zeros w (m * 2 ^ i) ≡ i
unfolding count_trailing_zeros
zeros_of_odd zero m i o h = absurd (omega arith)
zeros_of_odd (suc w) m zero o h = rw (mul-one m, o) refl
zeros_of_odd (suc w) m (suc i) o h =
    let x = m * 2 ^ i in
    let z : x * 2 % 2 ≡ 0 = omega arith in
    let y : x * 2 / 2 ≡ x = omega arith in
    rw (double m i, z, y) (ap suc (zeros_of_odd w m i o (omega arith)))

-- a number whose lowest set bit is among w is an odd number times that power of 2
odd_part : (w n : ℕ) → count_trailing_zeros w n < w → (m : ℕ) × (m % 2 ≡ 1) × (n ≡ m * 2 ^ count_trailing_zeros w n)
unfolding count_trailing_zeros
odd_part zero n p = absurd (omega arith)
odd_part (suc w) n p = go (n % 2) refl p (odd_part w (n / 2))
  where
    go : (r : ℕ) → n % 2 ≡ r → under r (count_trailing_zeros w (n / 2)) < suc w
        → (count_trailing_zeros w (n / 2) < w → (m : ℕ) × (m % 2 ≡ 1) × (n / 2 ≡ m * 2 ^ count_trailing_zeros w (n / 2)))
        → (m : ℕ) × (m % 2 ≡ 1) × (n ≡ m * 2 ^ under r (count_trailing_zeros w (n / 2)))
    go zero e l half =
        let o = half (omega arith) in
        (o.0, o.1, rw (double o.0 (count_trailing_zeros w (n / 2))) (omega (arith, o.2)))
    go (suc r) e l half = (n, omega arith, sym (mul-one n))

-- the trailing zeros of a zuniq
pub zuniq_zeros : (w K z d h : ℕ) → 2 * (K - d) < w → IsZuniqOf K z d h → count_trailing_zeros w z ≡ 2 * (K - d)
unfolding zuniq
zuniq_zeros w K z d h p v =
    rw (v.is, four_pow_two (K - d)) (zeros_of_odd w (2 * h + 1) (2 * (K - d)) (omega arith) p)

-- and a number with such trailing zeros is a zuniq, whose cell they tell
pub zeros_zuniq : (w K z : ℕ) → count_trailing_zeros w z < w → count_trailing_zeros w z ≤ 2 * K → count_trailing_zeros w z % 2 ≡ 0 → z < 2 * n_hash K
    → IsZuniqOf K z (K - count_trailing_zeros w z / 2) (z / 2 ^ (count_trailing_zeros w z + 1))
unfolding zuniq
zeros_zuniq w K z p q r l =
    let t = count_trailing_zeros w z in
    let o = odd_part w z p in
    let h : z / 2 ^ (t + 1) ≡ o.0 / 2 = sym (shr-shr z t 1) ∙ ap (λ (n : ℕ). n / 2 ^ t / 2) o.2 ∙ ap (λ (n : ℕ). n / 2) (shl-shr o.0 t) in
    let k : 2 * (K - (K - t / 2)) ≡ t = omega arith in
    let m : 2 * (o.0 / 2) + 1 ≡ o.0 = omega (arith, o.1) in
    let is : z ≡ zuniq K (K - t / 2) (z / 2 ^ (t + 1)) = rw (h, four_pow_two (K - (K - t / 2)), k, m) o.2 in
    record { deep = omega arith; hash = (valid_iff_zuniq_lt K (K - t / 2) (z / 2 ^ (t + 1)) (omega arith)).1 (rw (← is) l); is = is }
