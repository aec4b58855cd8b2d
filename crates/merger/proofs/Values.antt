-- f64 steps on values that are known as fractions: each is rounded from the fraction that it would be exactly. Assumes nothing.
use Rattle.std.proofs.Common.{◌≡◌, ℕ, ◌+◌, ◌-◌, ◌*◌, ◌<◌, ◌≤◌, Bool, true, false, cond, not, ◌&&◌, T, eqb, ltb, sym, refl, ap, ◌∙◌, true≢false, mul-le-mul_right, mul_assoc, mul_comm, add-mul, lt_of_mul-lt-mul_right, mul-lt-mul_of_pos_right, mul-pos, mul_right_comm, le_of_mul-le-mul_right, mul_left_comm, arith, ltb→lt, nltb→le, le-ltb, lt-ltb, ne_eqb}
use native.Mathlib.Nat.{mul-sub}
use lib.Ieee as Ieee
use lib.Ieee.{Float, nan, inf, fin, binary64, up, down, round, sum}
use lib.Ieee.Fits.{up_pos, down_pos}
use lib.Ieee.Exact.{HasValue}
use lib.Ieee.Scale.{round_same}
use lib.Ieee.Positive.{positive_of_value}
use Rattle.merger.specs.Floats.{◌⊕◌, ◌⊖◌, ◌⊘◌}

-- ---- a / c = X / L and b / c = Y / L
module _ (a b X Y c L : ℕ) (p : 0 < c) (q : 0 < L) (e : a * L ≡ X * c) (g : b * L ≡ Y * c) where
  pub sums_same : (a + b) * L ≡ (X + Y) * c
  sums_same = simp (add-mul, e, g)

  pub differences_same : (a - b) * L ≡ (X - Y) * c
  differences_same =
      mul_comm (a - b) L ∙ mul-sub L a b ∙ ap (λ (z : ℕ). z - L * b) (mul_comm L a ∙ e ∙ mul_comm X c) ∙ ap (λ (z : ℕ). c * X - z) (mul_comm L b ∙ g ∙ mul_comm Y c)
      ∙ sym (mul-sub c X Y) ∙ mul_comm c (X - Y)

  order_same : ltb a b ≡ ltb X Y
  order_same = go (ltb X Y) (ltb→lt X Y) (nltb→le X Y)
    where
      go : (t : Bool) → (T t → X < Y) → (T (not t) → Y ≤ X) → ltb a b ≡ t
      go true less not_less = lt-ltb a b (lt_of_mul-lt-mul_right L (rw (e, g) (mul-lt-mul_of_pos_right (less tt) p)))
      go false less not_less = le-ltb a b (le_of_mul-le-mul_right (rw (e, g) (mul-le-mul_right c (not_less tt))) q)

-- So their sums with signs are rounded alike.
sum_same : (s t : Bool) (a b X Y c L : ℕ) → 0 < c → 0 < L → a * L ≡ X * c → b * L ≡ Y * c → sum binary64 s a t b c ≡ sum binary64 s X t Y L
unfolding sum
sum_same s t a b X Y c L p q e g =
    rw (
      order_same a b X Y c L p q e g,
      order_same b a Y X c L p q g e,
      round_same binary64 s (a + b) c (X + Y) L p q (sums_same a b X Y c L p q e g),
      round_same binary64 t (b - a) c (Y - X) L p q (differences_same b a Y X c L p q g e),
      round_same binary64 (s && ltb Y X) (a - b) c (X - Y) L p q (differences_same a b X Y c L p q e g),
    )

-- ---- the steps
-- x + y, where x is ±X / L and y is ±Y / L
sum-at : (x y : Float) (s t : Bool) (X Y L : ℕ) → 0 < L → HasValue x s X L → HasValue y t Y L → x ⊕ y ≡ sum binary64 s X t Y L
unfolding Ieee.add
sum-at nan y s t X Y L q h k = absurd h
sum-at (inf r) y s t X Y L q h k = absurd h
sum-at (fin r m e) nan s t X Y L q h k = absurd k
sum-at (fin r m e) (inf r') s t X Y L q h k = absurd k
sum-at (fin r m e) (fin r' n d) s t X Y L q h k =
    let left : m * up e * down d * L ≡ X * (down e * down d) = mul_right_comm (m * up e) (down d) L ∙ ap (λ (z : ℕ). z * down d) h.1 ∙ mul_assoc X (down e) (down d) in
    let right : n * up d * down e * L ≡ Y * (down e * down d) = mul_right_comm (n * up d) (down e) L ∙ ap (λ (z : ℕ). z * down e) k.1 ∙ mul_right_comm Y (down d) (down e) ∙ mul_assoc Y (down e) (down d) in
    rw (h.0, k.0) (sum_same s t (m * up e * down d) (n * up d * down e) X Y (down e * down d) L (mul-pos (down_pos e) (down_pos d)) q left right)

pub add_at : (x y : Float) (X Y L : ℕ) → 0 < L → HasValue x false X L → HasValue y false Y L → x ⊕ y ≡ round binary64 false (X + Y) L
unfolding sum
add_at x y X Y L q h k = sum-at x y false false X Y L q h k

-- x − y, by which of the two is the larger
negated : (y : Float) (Y L : ℕ) → HasValue y false Y L → HasValue (Ieee.neg y) true Y L
unfolding Ieee.neg
negated nan Y L k = absurd k
negated (inf t) Y L k = absurd k
negated (fin true n d) Y L k = absurd (true≢false k.0)
negated (fin false n d) Y L k = (refl, k.1)

pub sub_at : (x y : Float) (X Y L : ℕ) → 0 < L → HasValue x false X L → HasValue y false Y L
    → x ⊖ y ≡ cond (ltb X Y) (round binary64 true (Y - X) L) (round binary64 false (X - Y) L)
unfolding Ieee.sub sum
sub_at x y X Y L q h k = sum-at x (Ieee.neg y) false true X Y L q h (negated y Y L k)

-- x / y, where x is A / C and y is B / D, above 0
above_0 : (n : ℕ) → 0 < n → eqb n 0 ≡ false
above_0 n p = ne_eqb n 0 (λ (e : n ≡ 0). not_0 n p e)
  where
    not_0 : (n : ℕ) → 0 < n → n ≡ 0 → ⊥
    not_0 n p e = omega arith

quotients_same : (u g v e A B C D : ℕ) → u * C ≡ A * e → v * D ≡ B * g → u * g * (B * C) ≡ A * D * (v * e)
quotients_same u g v e A B C D p q =
    let left : u * g * (B * C) ≡ u * C * (B * g) = simp (mul_assoc, mul_comm, mul_left_comm) in
    let right : A * e * (v * D) ≡ A * D * (v * e) = simp (mul_assoc, mul_comm, mul_left_comm) in
    left ∙ ap (λ (z : ℕ). z * (B * g)) p ∙ ap (λ (z : ℕ). A * e * z) (sym q) ∙ right

pub div_at : (x y : Float) (A B C D : ℕ) → 0 < B → 0 < C → HasValue x false A C → HasValue y false B D → x ⊘ y ≡ round binary64 false (A * D) (B * C)
unfolding Ieee.div
div_at nan y A B C D b c h k = absurd h
div_at (inf s) y A B C D b c h k = absurd h
div_at (fin s m e) nan A B C D b c h k = absurd k
div_at (fin s m e) (inf t) A B C D b c h k = absurd k
div_at (fin true m e) (fin t n d) A B C D b c h k = absurd (true≢false h.0)
div_at (fin false m e) (fin true n d) A B C D b c h k = absurd (true≢false k.0)
div_at (fin false m e) (fin false n d) A B C D b c h k =
    let p : 0 < n = ltb→lt 0 n (positive_of_value (fin false n d) B D k b) in
    rw (above_0 n p)
    (round_same binary64 false (m * up e * down d) (n * up d * down e) (A * D) (B * C) (mul-pos (mul-pos p (up_pos d)) (down_pos e)) (mul-pos b c)
    (quotients_same (m * up e) (down d) (n * up d) (down e) A B C D h.1 k.1))
