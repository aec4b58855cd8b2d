-- f64s that stand for a fraction, with the error that their steps have made so far: a rounding makes 9 parts of 2^56, the 8 of `rounded` and 1 on
-- top of the earlier ones, and dividing by such an f64 makes 1 more. Assumes nothing.
use Rattle.std.proofs.Common.{◌≡◌, ℕ, ◌+◌, ◌*◌, ◌^◌, ◌<◌, ◌≤◌, false, sym, refl, ap, ◌∙◌, subst, le_trans, mul-le-mul_right, mul_assoc, mul_comm, add-mul, mul-pos, one-mul, mul-one, mul_right_comm, le_of_mul-le-mul_right, arith, lit<, lit≤, pow_pos}
use lib.Ieee.{Float, binary64, round}
use lib.Ieee.Exact.{HasValue}
use lib.Ieee.Positive.{positive_of_value, mul_at, first_pos}
use Rattle.merger.specs.Floats.{◌⊕◌, ◌⊗◌, ◌⊘◌, 1·0, 4·0}
use Rattle.merger.proofs.Parts.{Near, Near-self, Near-more, Near-twice, Near-sum, Near-scaled, Near-unscaled, Near-turned, near_on}
use Rattle.merger.proofs.Rounding.{rounded}
use Rattle.merger.proofs.Values.{add_at, div_at}

-- x, so many of the smallest f64s, is N / D to k parts
pub record Approx (k : ℕ) (x : Float) (N D : ℕ) : Type 0 where
  pub units : ℕ
  pub value : HasValue x false units (2 ^ 1074)
  pub near : Near k (units * D) (N * 2 ^ 1074)

-- neither large nor small: far from both ends of the normal range
abbrev pub Fair : (N D : ℕ) → Type 0
Fair N D = (N ≤ 2 ^ 40 * D) × (D ≤ 2 ^ 40 * N) × (0 < N) × (0 < D)

-- What is near a fair fraction is in the normal range.
not_far : (a c N D : ℕ) → 0 < D → N ≤ 2 ^ 40 * D → a * D ≤ 2 * (N * c) → a ≤ 2 ^ 41 * c
not_far a c N D p f h =
    let fair : N * c ≤ 2 ^ 40 * (D * c) = simp mul_assoc at (mul-le-mul_right c f) in
    let turned = mul_comm c D in
    le_of_mul-le-mul_right (simp mul_assoc (omega arith)) p

normal : (a c L : ℕ) → c ≤ 2 ^ 41 * a → 2 ^ 93 ≤ L → 2 ^ 52 * c ≤ a * L
normal a c L h l = let more : 2 ^ 93 * a ≤ L * a = mul-le-mul_right a l in let turned = mul_comm L a in omega arith

finite : (a c L B : ℕ) → a ≤ 2 ^ 41 * c → 2 ^ 41 * L ≤ B → a * L ≤ B * c
finite a c L B h b = le_trans (mul-le-mul_right L h) (subst (λ (z : ℕ). z ≤ B * c) (mul_right_comm (2 ^ 41) L c) (mul-le-mul_right c b))

-- An f64 that is rounded from a / c, which is N / D to k parts, is N / D to 9 parts more.
round-approx : (k : ℕ) (x : Float) (a c N D : ℕ) → x ≡ round binary64 false a c → k ≤ 64 → 0 < c → Fair N D → Near k (a * D) (N * c) → Approx (k + 8 + 1) x N D
round-approx k x a c N D is h p (few, many, n, d) e =
    let L = 2 ^ 1074 in
    let twice = Near-twice k (a * D) (N * c) h e in
    let low : c ≤ 2 ^ 41 * a = not_far c a D N n many (simp (mul_comm c N, mul_comm D a) twice.1) in
    let high : a ≤ 2 ^ 41 * c = not_far a c N D d few twice.0 in
    let r = rounded false a c p (normal a c L low (lit≤ tt)) (finite a c L (2 ^ 2000) high (lit≤ tt)) in
    let before : Near k (a * L * D) (N * L * c) = simp (mul_right_comm a D L, mul_right_comm N c L) at (Near-scaled k (a * D) (N * c) L e) in
    let here : Near 8 (r.units * D * c) (a * L * D) = simp (mul_right_comm r.units c D) at (Near-scaled 8 (r.units * c) (a * L) D r.near) in
    record {
      units = r.units;
      value = rw is r.value;
      near = Near-unscaled (k + 8 + 1) (r.units * D) (N * L) c p (near_on k 8 (r.units * D * c) (a * L * D) (N * L * c) h (lit≤ tt) before here);
    }

-- ---- the steps of a chi-square
pub Approx-more : (j k : ℕ) (x : Float) (N D : ℕ) → j ≤ k → Approx j x N D → Approx k x N D
Approx-more j k x N D h a = record { units = a.units; value = a.value; near = Near-more j k (a.units * D) (N * 2 ^ 1074) h a.near }

-- 1 / n, which is A / P where P is n × A
pub inverse_approx : (x : Float) (n A P : ℕ) → HasValue x false n 1 → 0 < n → n * A ≡ P → Fair A P → Approx 9 (1·0 ⊘ x) A P
inverse_approx x n A P v p e f =
    round-approx 0 (1·0 ⊘ x) 1 n A P
    (div_at 1·0 x 1 n 1 1 p (lit< tt) (refl, refl) v ∙ ap (λ (z : ℕ). round binary64 false 1 z) (mul-one n)) (lit≤ tt) p f
    (rw (sym e, one-mul, mul_comm A n) (Near-self (n * A)))

-- x + y over one denominator
pub add_approx : (k : ℕ) (x y : Float) (N M D : ℕ) → k ≤ 64 → Fair (N + M) D → Approx k x N D → Approx k y M D → Approx (k + 8 + 1) (x ⊕ y) (N + M) D
add_approx k x y N M D h f a b =
    let L = 2 ^ 1074 in
    round-approx k (x ⊕ y) (a.units + b.units) L (N + M) D
    (add_at x y a.units b.units L (pow_pos 1074) a.value b.value) h (pow_pos 1074) f
    (rw (add-mul a.units b.units D, add-mul N M L) (Near-sum k (a.units * D) (N * L) (b.units * D) (M * L) a.near b.near))

-- No such f64 is 0.
positive : (k : ℕ) (x : Float) (N D : ℕ) → k ≤ 64 → 0 < N → (a : Approx k x N D) → 0 < a.units
positive k x N D h n a =
    first_pos a.units D (half (N * 2 ^ 1074) (a.units * D) (mul-pos n (pow_pos 1074)) (Near-twice k (a.units * D) (N * 2 ^ 1074) h a.near).1)
  where
    half : (z y : ℕ) → 0 < z → z ≤ 2 * y → 0 < y
    half z y p q = omega arith

-- 4 × x and 4 / x
fourfold : (k y x m n : ℕ) → y ≡ 4 * m → x ≡ 4 * n → Near k m n → Near k y x
fourfold k y x m n p q e = rw (p, q, mul_comm 4 m, mul_comm 4 n) (Near-scaled k m n 4 e)

pub four_times_approx : (k : ℕ) (x : Float) (N D : ℕ) → k ≤ 64 → Fair (4 * N) D → Approx k x N D → Approx (k + 8 + 1) (4·0 ⊗ x) (4 * N) D
four_times_approx k x N D h f a =
    let L = 2 ^ 1074 in
    let n : 0 < N = first_pos N 4 (subst (λ (z : ℕ). 0 < z) (mul_comm 4 N) f.2) in
    let p : 0 < a.units = positive k x N D h n a in
    round-approx k (4·0 ⊗ x) (4 * a.units) L (4 * N) D
    (mul_at binary64 4·0 x 4 1 a.units L tt (positive_of_value x a.units L a.value p) (lit< tt) (pow_pos 1074) (refl, refl) a.value) h (pow_pos 1074) f
    (fourfold k (4 * a.units * D) (4 * N * L) (a.units * D) (N * L) (mul_assoc 4 a.units D) (mul_assoc 4 N L) a.near)

pub four_over_approx : (k : ℕ) (x : Float) (N D : ℕ) → k + 1 ≤ 64 → Fair (4 * D) N → Approx k x N D → Approx (k + 1 + 8 + 1) (4·0 ⊘ x) (4 * D) N
four_over_approx k x N D h f a =
    let L = 2 ^ 1074 in
    let k_few : k ≤ 64 = omega arith in
    let p : 0 < a.units = positive k x N D k_few f.3 a in
    round-approx (k + 1) (4·0 ⊘ x) (4 * L) a.units (4 * D) N
    (div_at 4·0 x 4 a.units 1 L p (lit< tt) (refl, refl) a.value ∙ ap (λ (z : ℕ). round binary64 false (4 * L) z) (mul-one a.units)) h p f
    (fourfold (k + 1) (4 * L * N) (4 * D * a.units) (N * L) (a.units * D) (mul_assoc 4 L N ∙ ap (λ (z : ℕ). 4 * z) (mul_comm L N)) (mul_assoc 4 D a.units ∙ ap (λ (z : ℕ). 4 * z) (mul_comm D a.units))
    (Near-turned k (a.units * D) (N * L) k_few a.near))
