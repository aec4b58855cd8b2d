-- How many cells a piece of the sky is cut into. Between its ends lies a place that divides by the width of its largest cell. Up to there
-- the cells grow and from there on they shrink: before and behind it there are as many as the digits of the distance to it, in base 4,
-- add up to. Assumes nothing.
use mathlib.Core.Path.{◌≡◌, refl, ap, sym, ◌∙◌}
use mathlib.Core.List.{[], ◌∷◌}
use mathlib.Core.Logic.{⊎_elim}
use Prim.Native.Nat.{ℕ, zero, suc, ◌+◌, ◌*◌, ◌/◌, ◌%◌, ◌-◌, ◌^◌, ◌≤◌, ◌<◌}
use native.Mathlib.Nat.{pow-suc, pow-le-pow_right, mul_assoc, mul_comm, mul-le-mul_right, mul-div_cancel, div-one, div-div-eq-div-mul, le-div_iff_mul-le, div-lt_iff_lt-mul, mod-lt, eq-zero-or-pos}
use native.Mathlib.Omega.{arith, by_contra}
use lib.Bits.{bit_and, and_step}
use lib.Count.{count_leading_zeros, ones, ones_step}
use lib.Pow.{pow_pos, pow_mono, split}
use Rattle.zuniq.specs.Cells.{start, end}
use Rattle.zuniq.proofs.Basics.{le_or_lt, four_pow_pos, four_pow_split, four_pow_two}
use Rattle.build.specs.Map.{entry}
use Rattle.coverage.proofs.Inside.{end-is_start_plus_width}
use Rattle.clip.specs.Passes.{LargestAt, CutInto, digit_sum}
use Rattle.clip.proofs.Levels.{top_le, top, bits_is, largest_at}

-- ---- digits
pub digits_none : (w : ℕ) → digit_sum w 0 ≡ 0
unfolding digit_sum
digits_none zero = refl
digits_none (suc w) = omega (arith, digits_none w)

pub digits_le : (w n : ℕ) → digit_sum w n ≤ 3 * w
unfolding digit_sum
digits_le zero n = omega arith
digits_le (suc w) n = omega (arith, digits_le w (n / 4))

pub two_sums_le : {x y : ℕ} (m n : ℕ) → x ≡ digit_sum 32 m → y ≡ digit_sum 32 n → x + y ≤ 192
two_sums_le m n e f = omega (arith, digits_le 32 m, digits_le 32 n)

-- Without 4^j a digit at the place j that is not 0 is one less, and no other changes.
digits_less : (w j x : ℕ) → j < w → 0 < x / 4 ^ j % 4 → digit_sum w x ≡ suc (digit_sum w (x - 4 ^ j))
unfolding digit_sum
digits_less zero j x l u = absurd (omega arith)
digits_less (suc w) zero x l u =
    let d : 0 < x % 4 = rw (div-one x) at u in
    let e : (x - 1) / 4 ≡ x / 4 = omega arith in
    rw e (omega arith)
digits_less (suc w) (suc j) x l u =
    let p = 4 ^ j in
    let q : x / 4 ^ suc j ≡ x / 4 / p = rw (pow-suc 4 j, mul_comm p 4) (sym (div-div-eq-div-mul x 4 p)) in
    let v : 0 < x / 4 / p % 4 = rw q at u in
    let big : 1 * p ≤ x / 4 = (le-div_iff_mul-le (four_pow_pos j)).0 (omega (arith, v)) in
    let i = digits_less w j (x / 4) (omega arith) v in
    let e : (x - p * 4) / 4 ≡ x / 4 - p = omega (arith, big) in
    let m : (x - p * 4) % 4 ≡ x % 4 = omega (arith, big) in
    rw (pow-suc 4 j, e, m) (omega (arith, i))

-- ---- by counting bits
-- the higher bit of each of w digits
unfoldable higher_bits : ℕ → ℕ
higher_bits zero = zero
higher_bits (suc w) = higher_bits w * 4 + 2

-- All bits, and once more the higher one of each digit, add up to the digits.
bits_of_digits : (w n : ℕ) → n < 4 ^ w → ones n + ones (bit_and n (higher_bits w)) ≡ digit_sum w n
unfolding digit_sum higher_bits ones
bits_of_digits zero n u = let z : n ≡ 0 = omega arith in rw z refl
bits_of_digits (suc w) n u =
    let m = higher_bits w in
    let rest = bit_and (n / 4) m in
    let q : n / 2 / 2 ≡ n / 4 = omega arith in
    let m₁ : (m * 4 + 2) / 2 ≡ m * 2 + 1 = omega arith in
    let m₂ : (m * 2 + 1) / 2 ≡ m = omega arith in
    let a₁ : bit_and (n / 2) (m * 2 + 1) ≡ rest * 2 + n / 2 % 2 = and_step (n / 2) (m * 2 + 1) ∙ rw (q, m₂) (omega arith) in
    let a₂ : bit_and n (m * 4 + 2) ≡ (rest * 2 + n / 2 % 2) * 2 = and_step n (m * 4 + 2) ∙ rw (m₁, a₁) (omega arith) in
    let h₁ : (rest * 2 + n / 2 % 2) * 2 / 2 ≡ rest * 2 + n / 2 % 2 = omega arith in
    let h₂ : (rest * 2 + n / 2 % 2) / 2 ≡ rest = omega arith in
    let s₁ = ones_step ((rest * 2 + n / 2 % 2) * 2) in
    let s₂ = ones_step (rest * 2 + n / 2 % 2) in
    let i = bits_of_digits w (n / 4) (omega (arith, pow-suc 4 w)) in
    rw a₂ (omega (arith, rw h₁ at s₁, rw h₂ at s₂, ones_step n, rw q at (ones_step (n / 2)), i))

pub digits_by_bits : (n : ℕ) → n < 2 ^ 64 → ones n + ones (bit_and n 12297829382473034410) ≡ digit_sum 32 n
unfolding higher_bits
digits_by_bits n u = bits_of_digits 32 n u

-- ---- the largest cell at a place
-- No cell that is four times as wide starts there and fits.
no_wider : (a b d h : ℕ) → LargestAt 29 a b d h → 29 - d < 29 → h % 4 ≡ 0 → a + 4 ^ (29 - d) * 4 ≤ b → ⊥
unfolding start end
no_wider a b zero h g l z u = omega arith
no_wider a b (suc p) h g l z u =
    let w = 4 ^ (29 - suc p) in
    let s : 29 - p ≡ suc (29 - suc p) = omega (arith, g.deep) in
    let f : 4 ^ (29 - p) ≡ w * 4 = rw s (pow-suc 4 (29 - suc p)) in
    let n : h / 4 * 4 ≡ h = omega arith in
    let q : h / 4 * (w * 4) ≡ h * w = ap (λ (x : ℕ). h / 4 * x) (mul_comm w 4) ∙ sym (mul_assoc (h / 4) 4 w) ∙ ap (λ (x : ℕ). x * w) n in
    let e : (h / 4 + 1) * (w * 4) ≡ h / 4 * (w * 4) + w * 4 = omega arith in
    let c = g.greatest p (h / 4) (omega (arith, g.deep)) (rw f (q ∙ g.starts)) (rw f (omega (arith, e, q, g.starts))) in
    omega (arith, c)

sum_times : (h y w : ℕ) → (h + y) * w ≡ h * w + y * w
sum_times h y w = omega arith

times_four : (n c : ℕ) → n * 4 ^ suc c % 4 ≡ 0
times_four n c = let e : n * 4 ^ suc c ≡ n * 4 ^ c * 4 = ap (λ (x : ℕ). n * x) (pow-suc 4 c) ∙ sym (mul_assoc n (4 ^ c) 4) in rw e (omega arith)

-- The distance to a place ahead that divides by no less has a digit above 0 there.
digit_above_0 : (a b j d h n y : ℕ) → LargestAt 29 a b d h → j ≤ 29 → n * 4 ^ (j - (29 - d)) ≡ h + y → a + y * 4 ^ (29 - d) ≤ b → b < a + 4 ^ suc j → 0 < y → y % 4 ≡ 0 → ⊥
digit_above_0 a b j d h n y g top e u short some z =
    let w = 4 ^ (29 - d) in
    let four : 4 * w ≤ y * w = mul-le-mul_right w (omega arith) in
    let wide : a + w * 4 ≤ b = omega (arith, four) in
    let lower : suc (29 - d) ≤ j = by_contra (suc (29 - d)) j (λ o.
    let p : 4 ^ suc j ≤ 4 ^ suc (29 - d) = pow-le-pow_right (omega arith) o in
    omega (arith, p, pow-suc 4 (29 - d), wide)) in
    let s : j - (29 - d) ≡ suc (j - suc (29 - d)) = omega (arith, lower) in
    let k : n * 4 ^ (j - (29 - d)) % 4 ≡ 0 = rw s (times_four n (j - suc (29 - d))) in
    no_wider a b d h g (omega (arith, lower)) (omega (arith, k, e)) wide

-- Where a place ahead divides by no less, the cell ends there or before, and its width counts in a digit of the distance.
up_step : (a b m j d h n : ℕ) → LargestAt 29 a b d h → j ≤ 29 → m ≡ n * 4 ^ j → b < a + 4 ^ suc j → a < m → m ≤ b → (a + 4 ^ (29 - d) ≤ m) × (0 < (m - a) / 4 ^ (29 - d) % 4)
unfolding start
up_step a b m j d h n g top e short l u =
    let w = 4 ^ (29 - d) in
    let fits : a + w ≤ b = omega (arith, end-is_start_plus_width 29 d h, g.starts, g.ends) in
    let low : 29 - d ≤ j = by_contra (29 - d) j (λ o. let p : 4 ^ suc j ≤ w = pow-le-pow_right (omega arith) o in omega (arith, p, fits)) in
    let m_is : m ≡ n * 4 ^ (j - (29 - d)) * w = e ∙ ap (λ (x : ℕ). n * x) (four_pow_split j (j - (29 - d)) (29 - d) (omega arith)) ∙ sym (mul_assoc n (4 ^ (j - (29 - d))) w) in
    let more : suc h ≤ n * 4 ^ (j - (29 - d)) = by_contra (suc h) (n * 4 ^ (j - (29 - d))) (λ o. let p : n * 4 ^ (j - (29 - d)) * w ≤ h * w = mul-le-mul_right w (omega (arith, o)) in omega (arith, p, m_is, g.starts)) in
    go (n * 4 ^ (j - (29 - d)) - h) (omega (arith, more)) (omega (arith, more)) m_is
  where
    go : (y : ℕ) → n * 4 ^ (j - (29 - d)) ≡ h + y → 0 < y → m ≡ n * 4 ^ (j - (29 - d)) * 4 ^ (29 - d) → (a + 4 ^ (29 - d) ≤ m) × (0 < (m - a) / 4 ^ (29 - d) % 4)
    go y k some m_is =
        let w = 4 ^ (29 - d) in
        let far : m - a ≡ y * w = let q : m ≡ h * w + y * w = m_is ∙ rw k (sum_times h y w) in omega (arith, q, g.starts) in
        let one : 1 * w ≤ y * w = mul-le-mul_right w some in
        (omega (arith, far, one), rw (far, mul-div_cancel y (four_pow_pos (29 - d))) (⊎_elim (λ z. absurd (digit_above_0 a b j d h n y g top k (omega (arith, far)) short some z)) (λ p. p) (eq-zero-or-pos (y % 4))))

-- A place divides by no less than a quarter of what is left: then the cell is as wide as the highest digit of that says.
down_step : (a b t d h n : ℕ) → LargestAt 29 a b d h → t ≤ 29 → a ≡ n * 4 ^ t → b < a + 4 ^ suc t → (b < a + 4 ^ (29 - d) * 4) × (0 < (b - a) / 4 ^ (29 - d) % 4)
unfolding start
down_step a b t d h n g top e short =
    let w = 4 ^ (29 - d) in
    let fits : a + w ≤ b = omega (arith, end-is_start_plus_width 29 d h, g.starts, g.ends) in
    let near : suc b ≤ a + w * 4 = by_contra (suc b) (a + w * 4) (λ o. wide (omega (arith, o))) in
    let least : 1 ≤ (b - a) / w = (le-div_iff_mul-le (four_pow_pos (29 - d))).1 (omega (arith, fits)) in
    let most : (b - a) / w < 4 = (div-lt_iff_lt-mul (four_pow_pos (29 - d))).1 (omega (arith, near)) in
    (near, omega (arith, least, most))
  where
    wide : a + 4 ^ (29 - d) * 4 ≤ b → ⊥
    wide u =
        let w = 4 ^ (29 - d) in
        let lower : suc (29 - d) ≤ t = by_contra (suc (29 - d)) t (λ o.
        let p : 4 ^ suc t ≤ 4 ^ suc (29 - d) = pow-le-pow_right (omega arith) o in
        omega (arith, p, pow-suc 4 (29 - d))) in
        let s : t - (29 - d) ≡ suc (t - suc (29 - d)) = omega (arith, lower) in
        let same : h * w ≡ n * 4 ^ (t - (29 - d)) * w = g.starts ∙ e ∙ ap (λ (x : ℕ). n * x) (four_pow_split t (t - (29 - d)) (29 - d) (omega (arith, lower))) ∙ sym (mul_assoc n (4 ^ (t - (29 - d))) w) in
        let h_is : h ≡ n * 4 ^ (t - (29 - d)) = sym (mul-div_cancel h (four_pow_pos (29 - d))) ∙ ap (λ (x : ℕ). x / w) same ∙ mul-div_cancel (n * 4 ^ (t - (29 - d))) (four_pow_pos (29 - d)) in
        no_wider a b d h g (omega (arith, lower)) (rw (h_is, s) (times_four n (t - suc (29 - d)))) u

end_is : (d h : ℕ) → end 29 d h ≡ (h + 1) * 4 ^ (29 - d)
unfolding end
end_is d h = refl

-- ---- a piece
module _ {A : Type 0} (b : ℕ) (v : A) where
  -- What is cut off from the left, in front of the rest.
  cut_on : (a d h n : ℕ) → LargestAt 29 a b d h → CutInto 29 (end 29 d h) b v n → CutInto 29 a b v (suc n)
  cut_on a d h n g c = (c.0, entry d h v ∷ c.1, (g, refl, c.2), c.3, ap suc c.4)

  -- Nothing is left.
  cut_none : (a : ℕ) → b ≤ a → CutInto 29 a b v (digit_sum 32 (b - a))
  cut_none a u = let z : b - a ≡ 0 = omega arith in (a, [], refl, u, rw z (digits_none 32))

  -- From a place on that divides by no less than a quarter of what is left.
  cut_down : (fuel a t n : ℕ) → b ≤ a + fuel → t ≤ 29 → a ≡ n * 4 ^ t → b < a + 4 ^ suc t → b ≤ a + 4 ^ 29 → CutInto 29 a b v (digit_sum 32 (b - a))
  cut_down zero a t n f top e short base = cut_none a (omega arith)
  cut_down (suc fuel) a t n f top e short base = ⊎_elim (cut_none a) (next (λ a t n. cut_down fuel a t n)) (le_or_lt b a)
    where
      next : ((a t n : ℕ) → b ≤ a + fuel → t ≤ 29 → a ≡ n * 4 ^ t → b < a + 4 ^ suc t → b ≤ a + 4 ^ 29 → CutInto 29 a b v (digit_sum 32 (b - a))) → a < b → CutInto 29 a b v (digit_sum 32 (b - a))
      next rest l =
          let g = largest_at a b l base _ refl in
          let d = g.0 in
          let h = g.1 in
          let s = down_step a b t d h n g.2 top e short in
          let w = four_pow_pos (29 - d) in
          let on : end 29 d h ≡ a + 4 ^ (29 - d) = end-is_start_plus_width 29 d h ∙ ap (λ (x : ℕ). x + 4 ^ (29 - d)) g.2.starts in
          let c = rest (end 29 d h) (29 - d) (h + 1) (omega (arith, on, w)) (omega arith) (end_is d h) (omega (arith, on, s.0, pow-suc 4 (29 - d))) (omega (arith, on)) in
          let k : digit_sum 32 (b - a) ≡ suc (digit_sum 32 (b - a - 4 ^ (29 - d))) = digits_less 32 (29 - d) (b - a) (omega arith) s.1 in
          let r : b - a - 4 ^ (29 - d) ≡ b - end 29 d h = omega (arith, on) in
          rw (k, r) (cut_on a d h _ g.2 c)

  renumber : (a n k : ℕ) → n ≡ k → CutInto 29 a b v n → CutInto 29 a b v k
  renumber a n k e c = rw e at c

  -- At a place that divides by the width of the largest cell.
  cut_there : (fuel a m j n : ℕ) → b ≤ a + fuel → j ≤ 29 → m ≡ n * 4 ^ j → b < a + 4 ^ suc j → b ≤ a + 4 ^ 29 → m ≡ a → CutInto 29 a b v (digit_sum 32 (m - a) + digit_sum 32 (b - m))
  cut_there fuel a m j n f top e short base z =
      let y : m - a ≡ 0 = omega arith in
      let r : b - m ≡ b - a = omega arith in
      let k : digit_sum 32 (b - a) ≡ digit_sum 32 (m - a) + digit_sum 32 (b - m) = rw (y, r) (omega (arith, digits_none 32)) in
      renumber a _ _ k (cut_down fuel a j n f top (sym z ∙ e) short base)

  -- Up to there, and on.
  cut_up : (fuel a m j n : ℕ) → b ≤ a + fuel → j ≤ 29 → m ≡ n * 4 ^ j → b < a + 4 ^ suc j → b ≤ a + 4 ^ 29 → a ≤ m → m ≤ b → CutInto 29 a b v (digit_sum 32 (m - a) + digit_sum 32 (b - m))
  cut_up zero a m j n f top e short base u x = cut_there zero a m j n f top e short base (omega arith)
  cut_up (suc fuel) a m j n f top e short base u x = ⊎_elim (λ l. cut_there (suc fuel) a m j n f top e short base (omega arith)) (next (λ a. cut_up fuel a m j n)) (le_or_lt m a)
    where
      next : ((a : ℕ) → b ≤ a + fuel → j ≤ 29 → m ≡ n * 4 ^ j → b < a + 4 ^ suc j → b ≤ a + 4 ^ 29 → a ≤ m → m ≤ b → CutInto 29 a b v (digit_sum 32 (m - a) + digit_sum 32 (b - m))) → a < m → CutInto 29 a b v (digit_sum 32 (m - a) + digit_sum 32 (b - m))
      next rest l =
          let g = largest_at a b (omega arith) base _ refl in
          let d = g.0 in
          let h = g.1 in
          let s = up_step a b m j d h n g.2 top e short l x in
          let w = four_pow_pos (29 - d) in
          let on : end 29 d h ≡ a + 4 ^ (29 - d) = end-is_start_plus_width 29 d h ∙ ap (λ (y : ℕ). y + 4 ^ (29 - d)) g.2.starts in
          let c = rest (end 29 d h) (omega (arith, on, w)) top e (omega (arith, on)) (omega (arith, on)) (omega (arith, on, s.0)) x in
          let k : digit_sum 32 (m - a) ≡ suc (digit_sum 32 (m - a - 4 ^ (29 - d))) = digits_less 32 (29 - d) (m - a) (omega arith) s.1 in
          let r : m - a - 4 ^ (29 - d) ≡ m - end 29 d h = omega (arith, on) in
          let t : suc (digit_sum 32 (m - end 29 d h) + digit_sum 32 (b - m)) ≡ digit_sum 32 (m - a) + digit_sum 32 (b - m) = rw (k, r) (omega arith) in
          renumber a _ _ t (cut_on a d h _ g.2 c)

-- The place is the end, down to a multiple of the width that the distance between both ends leaves room for.
module _ (a b : ℕ) (some : a < b) (base : b ≤ a + 4 ^ 29) (shift : ℕ) (is : shift ≡ (63 - count_leading_zeros 64 (b - a)) / 2 * 2) where
  -- its level, and its width
  abbrev level : ℕ
  level = (top a b some base).0 / 2

  shift_is : shift ≡ 2 * level
  shift_is = omega (arith, bits_is a b some base)

  level-le : level ≤ 29
  level-le = omega (arith, top_le (top a b some base).0 (b - a) (top a b some base).2 (omega arith))

  width_is : 2 ^ shift ≡ 4 ^ level
  width_is = ap (λ (x : ℕ). 2 ^ x) shift_is ∙ sym (four_pow_two level)

  width_le_piece : 2 ^ shift ≤ b - a
  width_le_piece = let p : 2 ^ shift ≤ 2 ^ (top a b some base).0 = pow_mono (omega (arith, shift_is)) in omega (arith, p, (top a b some base).2)

  piece_lt_four : b < a + 4 ^ suc level
  piece_lt_four =
      let p : 2 ^ suc (top a b some base).0 ≤ 2 ^ (2 * suc level) = pow_mono (omega arith) in
      omega (arith, p, (top a b some base).3, four_pow_two (suc level))

  within : (a < b / 2 ^ shift * 2 ^ shift) × (b / 2 ^ shift * 2 ^ shift ≤ b)
  within =
      let s = split b shift in
      let m : b % 2 ^ shift < 2 ^ shift = mod-lt b (pow_pos shift) in
      (omega (arith, s, m, width_le_piece), omega (arith, s))

  into : {A : Type 0} (v : A) → CutInto 29 a b v (digit_sum 32 (b / 2 ^ shift * 2 ^ shift - a) + digit_sum 32 (b - b / 2 ^ shift * 2 ^ shift))
  into v =
      cut_up b v b a (b / 2 ^ shift * 2 ^ shift) level (b / 2 ^ shift) (omega arith) level-le (ap (λ (w : ℕ). b / 2 ^ shift * w) width_is) piece_lt_four base
      (omega (arith, within.0)) within.1

-- As two shifts give it.
abbrev pub middle : ℕ → ℕ → ℕ
middle a b = b / 2 ^ ((63 - count_leading_zeros 64 (b - a)) / 2 * 2) * 2 ^ ((63 - count_leading_zeros 64 (b - a)) / 2 * 2) % 2 ^ 64

module _ (a b : ℕ) (some : a < b) (base : b ≤ a + 4 ^ 29) (small : b < 2 ^ 64) where
  middle-is : middle a b ≡ b / 2 ^ ((63 - count_leading_zeros 64 (b - a)) / 2 * 2) * 2 ^ ((63 - count_leading_zeros 64 (b - a)) / 2 * 2)
  middle-is = let w = within a b some base _ refl in omega (arith, w.1)

  -- It lies behind the start, and not behind the end.
  pub middle-within : (a ≤ middle a b) × (middle a b ≤ b)
  middle-within = let w = within a b some base _ refl in (omega (arith, middle-is, w.0), omega (arith, middle-is, w.1))

  -- The cells before it, and those behind it.
  pub piece_cells : {A : Type 0} (v : A) → CutInto 29 a b v (digit_sum 32 (middle a b - a) + digit_sum 32 (b - middle a b))
  piece_cells v = rw middle-is (into a b some base _ refl v)
