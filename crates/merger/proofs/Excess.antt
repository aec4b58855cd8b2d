-- The steps of sum − 4×(4/w) on four counts above 0, with the errors that they make. Assumes nothing.
use Rattle.std.proofs.Common.{◌≡◌, ℕ, ◌+◌, ◌-◌, ◌*◌, ◌^◌, ◌<◌, ◌≤◌, Bool, true, false, cond, not, T, ltb, sym, ap, ◌∙◌, le_trans, le_of_lt, mul-le-mul_right, mul_assoc, add-mul, mul-le-mul_left, mul-one, mul_right_comm, le_of_mul-le-mul_right, arith, lit≤, ltb→lt, nltb→le, pow_pos}
use lib.Ieee.{Float, nan, inf, fin, binary64, up, down, round}
use lib.Ieee.Exact.{HasValue}
use Rattle.merger.specs.Floats.{◌⊕◌, ◌⊖◌, ◌⊗◌, ◌⊘◌, float, 1·0, 4·0}
use Rattle.merger.specs.Merge.{sum_of}
use Rattle.merger.specs.ChiError.{exact_value, is_within}
use Rattle.merger.proofs.Approx.{Approx, Fair, Approx-more, inverse_approx, add_approx, four_times_approx, four_over_approx}
use Rattle.merger.proofs.Counts.{float_value}
use Rattle.merger.proofs.Exact.{above_within, below_within}
use Rattle.merger.proofs.Parts.{Near, Near-twice, Near-scaled}
use Rattle.merger.proofs.Rounding.{Rounded, Rounded-units}
use Rattle.merger.proofs.Values.{sub_at}

-- ---- the inverses of the counts, and their sum
-- A is no more than P, and not so much less
pub record Share (A P : ℕ) : Type 0 where
  pub some : 0 < A
  pub most : A ≤ P
  pub least : P ≤ 2 ^ 32 * A

-- P / n is such a share, n being a count: 1 / n is A / P.
pub share : (n A P : ℕ) → 0 < P → 0 < n → n ≤ 2 ^ 32 → n * A ≡ P → Share A P
share n A P q p h e =
    let once : 1 * A ≤ n * A = mul-le-mul_right A p in
    let often : n * A ≤ 2 ^ 32 * A = mul-le-mul_right A h in
    record { some = omega arith; most = omega arith; least = omega arith }

-- A share, and a sum of up to four of them, is a fair fraction of P; so is four or sixteen times its inverse.
fair : (A N P : ℕ) → Share A P → A ≤ N → N ≤ 4 * P → Fair N P
fair A N P s l u = let some = s.some in let least = s.least in omega arith

Fair-inverse : (A N P : ℕ) → Share A P → A ≤ N → N ≤ 4 * P → Fair (4 * P) N × Fair (4 * (4 * P)) N
Fair-inverse A N P s l u = let some = s.some in let least = s.least in omega arith

pub inverse : (n A P : ℕ) → 0 < n → n ≤ 2 ^ 32 → n * A ≡ P → Share A P → Approx 9 (1·0 ⊘ float n) A P
inverse n A P p h e s = inverse_approx (float n) n A P (float_value n (le_trans h (lit≤ tt))) p e (fair A A P s (omega arith) (let most = s.most in omega arith))

module _ (A0 A1 A2 A3 P : ℕ) (s0 : Share A0 P) (s1 : Share A1 P) (s2 : Share A2 P) (s3 : Share A3 P) where
  few : (A0 + A1 ≤ 4 * P) × (A0 + A1 + A2 ≤ 4 * P) × (A0 + A1 + A2 + A3 ≤ 4 * P)
  few = let m0 = s0.most in let m1 = s1.most in let m2 = s2.most in let m3 = s3.most in omega arith

  -- w is E / P.
  w_approx : (x0 x1 x2 x3 : Float) → Approx 9 x0 A0 P → Approx 9 x1 A1 P → Approx 9 x2 A2 P → Approx 9 x3 A3 P → Approx 36 (sum_of x0 x1 x2 x3) (A0 + A1 + A2 + A3) P
  w_approx x0 x1 x2 x3 a0 a1 a2 a3 =
      let two : Approx 18 (x0 ⊕ x1) (A0 + A1) P = add_approx 9 x0 x1 A0 A1 P (lit≤ tt) (fair A0 (A0 + A1) P s0 (omega arith) few.0) a0 a1 in
      let three : Approx 27 ((x0 ⊕ x1) ⊕ x2) (A0 + A1 + A2) P =
      add_approx 18 (x0 ⊕ x1) x2 (A0 + A1) A2 P (lit≤ tt) (fair A0 (A0 + A1 + A2) P s0 (omega arith) few.1) two (Approx-more 9 18 x2 A2 P (lit≤ tt) a2) in
      add_approx 27 ((x0 ⊕ x1) ⊕ x2) x3 (A0 + A1 + A2) A3 P (lit≤ tt) (fair A0 (A0 + A1 + A2 + A3) P s0 (omega arith) few.2) three (Approx-more 9 27 x3 A3 P (lit≤ tt) a3)

  -- What is taken off the sum is 16 × P / E.
  pub off_approx : (x0 x1 x2 x3 : Float) → Approx 9 x0 A0 P → Approx 9 x1 A1 P → Approx 9 x2 A2 P → Approx 9 x3 A3 P → Approx 55 (4·0 ⊗ (4·0 ⊘ sum_of x0 x1 x2 x3)) (16 * P) (A0 + A1 + A2 + A3)
  off_approx x0 x1 x2 x3 a0 a1 a2 a3 =
      let w = sum_of x0 x1 x2 x3 in
      let E = A0 + A1 + A2 + A3 in
      let fairs = Fair-inverse A0 E P s0 (omega arith) few.2 in
      rw (mul_assoc 4 4 P) (four_times_approx 46 (4·0 ⊘ w) (4 * P) E (lit≤ tt) fairs.1 (four_over_approx 36 w E P (lit≤ tt) fairs.0 (w_approx x0 x1 x2 x3 a0 a1 a2 a3)))

-- ---- the difference of the sum and of what is taken off it
-- In the smallest f64s, and times E: Z stands for the sum, t for what is taken off it and H for what that should be, v for the number that chi
-- rounds, d for the difference and g for what it is rounded to. First where nothing is below 0, then where t is above Z.
difference_above : (d t Z H v g : ℕ) → d + t ≡ Z → v + H ≡ Z → Near 8 g d → Near 55 t H → 2 ^ 50 * ((g - v) + (v - g)) ≤ Z
difference_above d t Z H v g p q e f =
    let c = fused d (2 ^ 56 * d) (2 ^ 56 * t) Z (2 ^ 56 * Z) H (2 ^ 56 * H) (2 ^ 56 * v) (2 ^ 56 * g) (omega arith) (omega arith) (omega arith) (omega arith) e f in
    parts g v Z c.0 c.1
  where
    fused : (d d' t' Z Z' H H' v' g' : ℕ) → d ≤ Z → H ≤ Z → d' + t' ≡ Z' → v' + H' ≡ Z' → (g' ≤ d' + 8 * d) × (d' ≤ g' + 8 * d) → (t' ≤ H' + 55 * H) × (H' ≤ t' + 55 * H)
        → (g' ≤ v' + 63 * Z) × (v' ≤ g' + 63 * Z)
    fused d d' t' Z Z' H H' v' g' a b p q e f = omega arith

    parts : (g v Z : ℕ) → 2 ^ 56 * g ≤ 2 ^ 56 * v + 63 * Z → 2 ^ 56 * v ≤ 2 ^ 56 * g + 63 * Z → 2 ^ 50 * ((g - v) + (v - g)) ≤ Z
    parts g v Z a b = omega arith

difference_below : (d t Z H v g : ℕ) → d + Z ≡ t → v + H ≡ Z → Near 8 g d → Near 55 t H → 2 ^ 50 * (g + v) ≤ Z
difference_below d t Z H v g p q e f =
    let twice : t ≤ 2 * H = (Near-twice 55 t H (lit≤ tt) f).0 in
    parts g v Z (fused d (2 ^ 56 * d) (2 ^ 56 * t) Z (2 ^ 56 * Z) H (2 ^ 56 * H) (2 ^ 56 * v) (2 ^ 56 * g) (omega arith) (omega arith) (omega arith) (omega arith) e.0 f.0)
  where
    fused : (d d' t' Z Z' H H' v' g' : ℕ) → d ≤ Z → H ≤ Z → d' + Z' ≡ t' → v' + H' ≡ Z' → g' ≤ d' + 8 * d → t' ≤ H' + 55 * H → g' + v' ≤ 63 * Z
    fused d d' t' Z Z' H H' v' g' a b p q e f = omega arith

    parts : (g v Z : ℕ) → 2 ^ 56 * g + 2 ^ 56 * v ≤ 63 * Z → 2 ^ 50 * (g + v) ≤ Z
    parts g v Z a = omega arith

-- a whole number, in the smallest f64s
in_units : (x : Float) (n L : ℕ) → HasValue x false n 1 → HasValue x false (n * L) L
in_units nan n L v = v
in_units (inf s) n L v = v
in_units (fin s m e) n L v = (v.0, ap (λ (z : ℕ). z * L) (sym (mul-one (m * up e)) ∙ v.1) ∙ mul_right_comm n (down e) L)

-- What is taken off, put back.
refilled : (X Y E : ℕ) → Y ≤ X → (X - Y) * E + Y * E ≡ X * E
refilled X Y E h = sym (add-mul (X - Y) Y E) ∙ ap (λ (z : ℕ). z * E) (back X Y h)
  where
    back : (X Y : ℕ) → Y ≤ X → X - Y + Y ≡ X
    back X Y h = omega arith

module _ (x y : Float) (S P E : ℕ) (few : S ≤ 2 ^ 32) (some : 0 < E) (h : 16 * P ≤ S * E) (v : HasValue x false S 1) (a : Approx 55 y (16 * P) E) where
  abbrev L : ℕ
  L = 2 ^ 1074

  abbrev X : ℕ
  X = S * L

  abbrev Y : ℕ
  Y = a.units

  X-finite : 2 * X ≤ 2 ^ 2000
  X-finite = le_trans (mul-le-mul_left 2 (mul-le-mul_right L few)) (lit≤ tt)

  rest : (S * E - 16 * P) * L + 16 * P * L ≡ X * E
  rest = refilled (S * E) (16 * P) L h ∙ mul_right_comm S E L

  -- What is taken off is little more than the sum, if at all.
  Y-small : Y ≤ 2 * X
  Y-small =
      let twice : Y * E ≤ 2 * (16 * P * L) = (Near-twice 55 (Y * E) (16 * P * L) (lit≤ tt) a.near).0 in
      le_of_mul-le-mul_right (rw (mul_assoc 2 X E) (le_trans twice (mul-le-mul_left 2 (rw (mul_right_comm S L E) (mul-le-mul_right L h))))) some

  times_E : (z : Float) (s : Bool) (n : ℕ) → (r : Rounded z s n 1) → Near 8 (r.units * E) (n * E)
  times_E z s n r = Near-scaled 8 r.units n E (simp (mul-one r.units) at r.near)

  not_below : (z : Float) → Y ≤ X → Rounded z false (X - Y) 1 → is_within 50 S P E (exact_value z) ≡ true
  not_below z le r =
      above_within r.units S P E L (pow_pos 1074) h z r.value
      (rw (mul_right_comm S E L) (difference_above ((X - Y) * E) (Y * E) (X * E) (16 * P * L) ((S * E - 16 * P) * L) (r.units * E) (refilled X Y E le) rest (times_E z false (X - Y) r) a.near))

  below : (z : Float) → X ≤ Y → Rounded z true (Y - X) 1 → is_within 50 S P E (exact_value z) ≡ true
  below z le r =
      below_within r.units S P E L (pow_pos 1074) h z r.value
      (rw (mul_right_comm S E L) (difference_below ((Y - X) * E) (Y * E) (X * E) (16 * P * L) ((S * E - 16 * P) * L) (r.units * E) (refilled Y X E le) rest (times_E z true (Y - X) r) a.near))

  pub difference_within : is_within 50 S P E (exact_value (x ⊖ y)) ≡ true
  difference_within = rw (sub_at x y X Y L (pow_pos 1074) (in_units x S L v) a.value) (go (ltb X Y) (ltb→lt X Y) (nltb→le X Y))
    where
      smaller : (m n d : ℕ) → m ≤ 2 * n → m - d ≤ 2 * n
      smaller m n d h = omega arith

      doubled : (n : ℕ) → n ≤ 2 * n
      doubled n = omega arith

      go : (t : Bool) → (T t → X < Y) → (T (not t) → Y ≤ X) → is_within 50 S P E (exact_value (cond t (round binary64 true (Y - X) L) (round binary64 false (X - Y) L))) ≡ true
      go true lt le = below (round binary64 true (Y - X) L) (le_of_lt (lt tt)) (Rounded-units true (Y - X) (le_trans (smaller Y X X Y-small) X-finite))
      go false lt le = not_below (round binary64 false (X - Y) L) (le tt) (Rounded-units false (X - Y) (le_trans (smaller X X Y (doubled X)) X-finite))
