-- The largest cell that starts at a place and ends within a piece: how often the place can be halved and how long the piece is each
-- allow so many levels above the largest depth. Assumes nothing.
use mathlib.Core.Path.{◌≡◌, refl, ap, sym, ◌∙◌}
use Prim.Native.Nat.{ℕ, zero, suc, ◌+◌, ◌*◌, ◌/◌, ◌%◌, ◌-◌, ◌^◌, ◌≤◌, ◌<◌, min}
use native.Mathlib.Nat.{pow-suc, pow-le-pow_right, mul_assoc, mul-one, div-one}
use native.Mathlib.Omega.{arith, by_contra}
use lib.Count.{count_trailing_zeros, count_leading_zeros, under, leading_top}
use lib.Pow.{pow_mono, shr-shr}
use Rattle.zuniq.specs.Cells.{n_hash, start, end}
use Rattle.zuniq.proofs.Basics.{four_pow_two}
use Rattle.coverage.proofs.Inside.{end-is_start_plus_width}
use Rattle.clip.specs.Passes.{LargestWidth}

pub sky_is : n_hash 29 ≡ 3458764513820540928
unfolding n_hash
sky_is = refl

-- A cell has at most as many depth-K cells as a base cell.
pub width_le : (K d h : ℕ) → end K d h ≤ start K d h + 4 ^ K
width_le K d h = let p : 4 ^ (K - d) ≤ 4 ^ K = pow-le-pow_right (omega arith) (omega arith) in omega (arith, end-is_start_plus_width K d h)

double : (m i : ℕ) → m * 2 ^ suc i ≡ m * 2 ^ i * 2
double m i = ap (λ (n : ℕ). m * n) (pow-suc 2 i) ∙ sym (mul_assoc m (2 ^ i) 2)

-- A number can be halved as often as it has trailing zeros,
zeros_divide : (w j n : ℕ) → j ≤ count_trailing_zeros w n → n / 2 ^ j * 2 ^ j ≡ n
unfolding count_trailing_zeros
zeros_divide w zero n u = rw (div-one n) (mul-one n)
zeros_divide zero (suc i) n u = absurd (omega arith)
zeros_divide (suc w) (suc i) n u = go (n % 2) refl u (zeros_divide w i (n / 2))
  where
    go : (r : ℕ) → n % 2 ≡ r → suc i ≤ under r (count_trailing_zeros w (n / 2)) → (i ≤ count_trailing_zeros w (n / 2) → n / 2 / 2 ^ i * 2 ^ i ≡ n / 2) → n / 2 ^ suc i * 2 ^ suc i ≡ n
    go (suc r) e l half = absurd (omega arith)
    go zero e l half =
        let s : suc i ≡ 1 + i = omega arith in
        let q : n / 2 ^ suc i ≡ n / 2 / 2 ^ i = rw s (sym (shr-shr n 1 i)) in
        let h = half (omega arith) in
        rw (double (n / 2 ^ suc i) i, q) (omega arith)

-- and not more often.
divides_zeros : (w j g n : ℕ) → j ≤ w → n ≡ g * 2 ^ j → j ≤ count_trailing_zeros w n
unfolding count_trailing_zeros
divides_zeros w zero g n u e = omega arith
divides_zeros zero (suc i) g n u e = absurd (omega arith)
divides_zeros (suc w) (suc i) g n u e =
    let x = g * 2 ^ i in
    let d : n ≡ x * 2 = e ∙ double g i in
    let z : n % 2 ≡ 0 = omega arith in
    let y : n / 2 ≡ x = omega arith in
    rw z (omega (arith, divides_zeros w i g (n / 2) (omega arith) y))

twice_le : (e : ℕ) → 2 * (29 - e) ≤ 64
twice_le e = omega arith

not_both : (x g a b y : ℕ) → g * x ≡ a → (g + 1) * x ≤ b → y ≤ x → b - a < y → ⊥
not_both x g a b y e u v w = omega arith

-- What is no more than each of two numbers is no more than the smaller.
levels_least : (e k t j : ℕ) → k ≡ min t j / 2 → 2 * (29 - e) ≤ t → 2 * (29 - e) ≤ j → 29 - k ≤ e
levels_least e k t j is u v = omega arith

-- A piece of at most 4^29 cells has a largest cell of at most 29 levels.
levels_le : (k t j : ℕ) → k ≡ min t j / 2 → j ≤ 58 → (k ≤ 29) × (2 * k ≤ j) × (2 * k ≤ t)
levels_le k t j is u = (omega arith, omega arith, omega arith)

pub top_le : (j x : ℕ) → 2 ^ j ≤ x → x ≤ 2 ^ 58 → j ≤ 58
top_le j x u v = by_contra j 58 (λ l. let o : 2 ^ 59 ≤ 2 ^ j = pow_mono l in omega arith)

module _ (a b : ℕ) (some : a < b) (base : b ≤ a + 4 ^ 29) where
  -- The highest set bit of the piece's length.
  pub top : (j : ℕ) × (count_leading_zeros 64 (b - a) + suc j ≡ 64) × (2 ^ j ≤ b - a) × (b - a < 2 ^ suc j)
  top = leading_top 64 (b - a) (omega arith) (omega arith)

  -- There is a set bit.
  pub zeros_le : count_leading_zeros 64 (b - a) ≤ 63
  zeros_le = omega (arith, top.1)

  pub bits_is : 63 - count_leading_zeros 64 (b - a) ≡ top.0
  bits_is = omega (arith, top.1)

  pub levels_within : (k : ℕ) → k ≡ min (count_trailing_zeros 64 a) (63 - count_leading_zeros 64 (b - a)) / 2 → k ≤ 29
  levels_within k is = (levels_le k (count_trailing_zeros 64 a) top.0 (rw bits_is at is) (top_le top.0 (b - a) top.2 (omega arith))).0

  pub largest_at : (k : ℕ) → k ≡ min (count_trailing_zeros 64 a) (63 - count_leading_zeros 64 (b - a)) / 2 → LargestWidth 29 a b (2 ^ (2 * k))
  unfolding start end
  largest_at k is =
      let t = count_trailing_zeros 64 a in
      let j = top.0 in
      let is' : k ≡ min t j / 2 = rw bits_is at is in
      let n = levels_le k t j is' (top_le j (b - a) top.2 (omega arith)) in
      let s : 29 - (29 - k) ≡ k = omega (arith, n.0) in
      let p : 4 ^ (29 - (29 - k)) ≡ 2 ^ (2 * k) = rw s (four_pow_two k) in
      let f : 2 ^ (2 * k) ≤ 2 ^ j = pow_mono n.1 in
      let h : a / 2 ^ (2 * k) * 2 ^ (2 * k) ≡ a = zeros_divide 64 (2 * k) a n.2 in (
        29 - k,
        a / 2 ^ (2 * k),
        record {
          deep = omega arith;
          starts = rw p h;
          ends = rw p (omega (arith, top.2));
          greatest = λ e g w x y.
              let q = four_pow_two (29 - e) in
              let x' : g * 2 ^ (2 * (29 - e)) ≡ a = rw q at x in
              let y' : (g + 1) * 2 ^ (2 * (29 - e)) ≤ b = rw q at y in
              let c : 2 * (29 - e) ≤ t = divides_zeros 64 (2 * (29 - e)) g a (twice_le e) (sym x') in
              let i : 2 * (29 - e) ≤ j = by_contra (2 * (29 - e)) j (λ l. let o : 2 ^ suc j ≤ 2 ^ (2 * (29 - e)) = pow_mono l in not_both (2 ^ (2 * (29 - e))) g a b (2 ^ suc j) x' y' o top.3) in
              levels_least e k t j is' c i;
        },
        sym p,
      )

  -- The same as a shift gives it.
  pub largest_shifted : (x : ℕ) → x ≡ min (count_trailing_zeros 64 a) (63 - count_leading_zeros 64 (b - a)) → (2 * (x / 2) < 64) × LargestWidth 29 a b (1 * 2 ^ (2 * (x / 2)) % 2 ^ 64)
  largest_shifted x is =
      let half : x / 2 ≡ min (count_trailing_zeros 64 a) (63 - count_leading_zeros 64 (b - a)) / 2 = ap (λ (n : ℕ). n / 2) is in
      let k = levels_within (x / 2) half in
      let p : 2 ^ (2 * (x / 2)) ≤ 2 ^ 58 = pow_mono {j = 58} (omega arith) in
      let w : 1 * 2 ^ (2 * (x / 2)) % 2 ^ 64 ≡ 2 ^ (2 * (x / 2)) = omega arith in
      (omega arith, rw w (largest_at (x / 2) half))
