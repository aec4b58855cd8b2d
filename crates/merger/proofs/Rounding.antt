-- How far rounding to an f64 moves a number: by no more than 8 parts of 2^56, 1 part in 2^53, in the normal range, and where it is a whole
-- number of the smallest f64s. Values are counted in these, of which 2^1074 are 1. Assumes nothing.
use Rattle.std.proofs.Common.{◌≡◌, ℕ, zero, suc, ◌+◌, ◌-◌, ◌*◌, ◌/◌, ◌%◌, ◌^◌, ◌<◌, ◌≤◌, Bool, true, false, not, T, eqb, ltb, sym, ap, ◌∙◌, subst, le_trans, lt_of_lt_of_le, lt_of_le_of_lt, mul-le-mul_right, mod-lt, mul_assoc, suc-mul, mul_comm, add-mul, mul-le-mul_left, mul-pos, one-mul, div-add-mod', le-div_iff_mul-le, zero-mul, mul-one, le_of_mul-le-mul_right, arith, lit<, lit≤, eqb→eq, ltb→lt, leb→le, nltb→le, pow_pos, pow-add}
use Prim.Native.Nat.{compare, Ordering}
use lib.Dec.{is_le, compare_is_eq, nleb→lt, eqb_refl}
use lib.Arith.{lt_of_le-ne}
use lib.Ieee.{Float, binary64, nearest, round, size}
use lib.Ieee.Digits.{size_reaches}
use lib.Ieee.Fits.{round_is}
use lib.Ieee.Exact.{HasValue, units_val, round_exact}
use lib.Ieee.Nearest.{closest}
use lib.Ieee.Order.{drop, kept}
use lib.Ieee.Scale.{grid, overflow, normal_of_fraction}
use Rattle.merger.proofs.Parts.{Near, Near-self, Near-more, Near-twice, Near-unscaled}

-- ---- the nearest whole number is within a half
-- 2 × |y − x| ≤ b
abbrev Within : (b y x : ℕ) → Type 0
Within b y x = (2 * y ≤ 2 * x + b) × (2 * x ≤ 2 * y + b)

-- what `compare` says
abbrev Compared : Ordering → ℕ → ℕ → Type 0
Compared Ordering.lt a b = a < b
Compared Ordering.eq a b = a ≡ b
Compared Ordering.gt a b = b < a

compared : (a b : ℕ) → Compared (compare a b) a b
compared a b = go (compare a b) (leb→le a b) (nleb→lt a b) (eqb→eq a b) (λ (e : a ≡ b). subst (λ (x : ℕ). T (eqb a x)) e (eqb_refl a))
  where
    go : (o : Ordering) → (T (is_le o) → a ≤ b) → (T (not (is_le o)) → b < a) → (T (compare_is_eq o) → a ≡ b) → (a ≡ b → T (compare_is_eq o)) → Compared o a b
    go Ordering.lt le gt eq ne = lt_of_le-ne (le tt) ne
    go Ordering.eq le gt eq ne = eq tt
    go Ordering.gt le gt eq ne = gt tt

-- At a tie the even one is taken: q, or the next number up.
even : (q r b : ℕ) → r * 2 ≡ b → Within b ((q + q % 2) * b) (q * b + r)
even q r b e = go (q % 2) (mod-lt q (lit< tt))
  where
    go : (z : ℕ) → z < 2 → Within b ((q + z) * b) (q * b + r)
    go zero h = let next = add-mul q 0 b in let none = zero-mul b in omega arith
    go (suc zero) h = let next = add-mul q 1 b in let once = one-mul b in omega arith
    go (suc (suc z)) h = absurd (too_large z h)
      where
        too_large : (z : ℕ) → suc (suc z) < 2 → ⊥
        too_large z h = omega arith

nearest-within : (q r b : ℕ) (o : Ordering) → r < b → Compared o (r * 2) b → Within b (nearest q o * b) (q * b + r)
nearest-within q r b Ordering.lt l h = omega arith
nearest-within q r b Ordering.eq l h = even q r b h
nearest-within q r b Ordering.gt l h = let next = suc-mul q b in omega arith

closest-within : (a b : ℕ) → 0 < b → Within b (closest a b * b) a
closest-within a b p =
    subst (λ (z : ℕ). Within b (closest a b * b) z) (div-add-mod' a b)
    (nearest-within (a / b) (a % b) b (compare (a % b * 2) b) (mod-lt a p) (compared (a % b * 2) b))

-- Half a step is 8 parts where the number has 2^52 steps or more.
Near-of_within : (b y x : ℕ) → Within b y x → 2 ^ 52 * b ≤ x → Near 8 y x
Near-of_within b y x w l = omega arith

-- ---- in the normal range a number has 2^52 steps or more
digits_left : (z : ℕ) → 53 ≤ z → 52 + (z - 53) < z
digits_left z h = omega arith

many_steps : (n c : ℕ) → 0 < c → 53 ≤ size (n / c) → 2 ^ 52 * (c * 2 ^ drop 53 n c) ≤ n
many_steps n c p h =
    let k = drop 53 n c in
    let reached : 2 ^ (52 + k) * c ≤ n = (le-div_iff_mul-le p).0 (size_reaches (n / c) (52 + k) (digits_left (size (n / c)) h)) in
    let steps : 2 ^ 52 * (c * 2 ^ k) ≡ 2 ^ (52 + k) * c = ap (λ (x : ℕ). 2 ^ 52 * x) (mul_comm c (2 ^ k)) ∙ sym (mul_assoc (2 ^ 52) (2 ^ k) c) ∙ ap (λ (x : ℕ). x * c) (sym (pow-add 2 52 k)) in
    subst (λ (x : ℕ). x ≤ n) (sym steps) reached

grid-near : (a c : ℕ) → 0 < c → 2 ^ 52 * c ≤ a * 2 ^ 1074 → Near 8 (grid binary64 a c * c) (a * 2 ^ 1074)
grid-near a c p h =
    let n = a * 2 ^ 1074 in
    let k = drop 53 n c in
    let regrouped : kept 53 n c * (c * 2 ^ k) ≡ grid binary64 a c * c = ap (λ (x : ℕ). kept 53 n c * x) (mul_comm c (2 ^ k)) ∙ sym (mul_assoc (kept 53 n c) (2 ^ k) c) in
    Near-of_within (c * 2 ^ k) (grid binary64 a c * c) n
    (subst (λ (z : ℕ). Within (c * 2 ^ k) z n) regrouped (closest-within n (c * 2 ^ k) (mul-pos p (pow_pos k))))
    (many_steps n c p (normal_of_fraction binary64 a c p h))

-- ---- what a fraction a / c is rounded to
-- x has the sign s, is so many of the smallest f64s, and is near a / c, which is n / c of them
pub record Rounded (x : Float) (s : Bool) (n c : ℕ) : Type 0 where
  pub units : ℕ
  pub value : HasValue x s units (2 ^ 1074)
  pub near : Near 8 (units * c) n

round-value : (s : Bool) (a c : ℕ) → grid binary64 a c < overflow binary64 → HasValue (round binary64 s a c) s (grid binary64 a c) (2 ^ 1074)
round-value s a c h = subst (λ (z : Float). HasValue z s (grid binary64 a c) (2 ^ 1074)) (sym (round_is binary64 s a c)) (units_val binary64 s (kept 53 (a * 2 ^ 1074) c) (drop 53 (a * 2 ^ 1074) c) h)

-- No number up to 2^926 is rounded to infinity.
finite_grid : (g n c B : ℕ) → 0 < c → Near 8 (g * c) n → n ≤ B * c → g ≤ 2 * B
finite_grid g n c B p e h =
    le_of_mul-le-mul_right (le_trans (Near-twice 8 (g * c) n (lit≤ tt) e).0 (subst (λ (z : ℕ). 2 * n ≤ z) (sym (mul_assoc 2 B c)) (mul-le-mul_left 2 h))) p

pub rounded : (s : Bool) (a c : ℕ) → 0 < c → 2 ^ 52 * c ≤ a * 2 ^ 1074 → a * 2 ^ 1074 ≤ 2 ^ 2000 * c → Rounded (round binary64 s a c) s (a * 2 ^ 1074) c
rounded s a c p l h =
    let g = grid binary64 a c in
    let e : Near 8 (g * c) (a * 2 ^ 1074) = grid-near a c p l in
    record { units = g; value = round-value s a c (lt_of_le_of_lt (finite_grid g (a * 2 ^ 1074) c (2 ^ 2000) p e h) (lit< tt)); near = e }

-- A whole number of the smallest f64s, however small: below 2^52 of them it is an f64 itself.
pub Rounded-units : (s : Bool) (n : ℕ) → n ≤ 2 ^ 2000 → Rounded (round binary64 s n (2 ^ 1074)) s n 1
Rounded-units s n h = go (ltb n (2 ^ 52)) (ltb→lt n (2 ^ 52)) (nltb→le n (2 ^ 52))
  where
    go : (b : Bool) → (T b → n < 2 ^ 52) → (T (not b) → 2 ^ 52 ≤ n) → Rounded (round binary64 s n (2 ^ 1074)) s n 1
    go true small large = record {
      units = n;
      value = round_exact binary64 s n (2 ^ 1074) n 0 (pow_pos 1074) (lt_of_lt_of_le (small tt) (lit≤ tt)) (rw (mul-one n) (lt_of_le_of_lt h (lit< tt))) (rw (mul-one n));
      near = rw (mul-one n) (Near-more 0 8 n n (lit≤ tt) (Near-self n));
    }
    go false small large =
        let r = rounded s n (2 ^ 1074) (pow_pos 1074) (mul-le-mul_right (2 ^ 1074) (large tt)) (mul-le-mul_right (2 ^ 1074) h) in
        record { units = r.units; value = r.value; near = rw (mul-one r.units) (Near-unscaled 8 r.units n (2 ^ 1074) (pow_pos 1074) r.near) }
