-- A merged density is finite and not below 0 where the four are. Their sum may overflow to infinity, but then chi is infinite
-- or a NaN, which is below no T, and the four are kept. Assumes nothing.
use Rattle.std.proofs.Common.{◌≡◌, ℕ, zero, suc, ◌+◌, ◌-◌, ◌*◌, ◌%◌, ◌^◌, ◌<◌, ◌≤◌, Bool, true, false, cond, not, ◌&&◌, T, eqb, ltb, leb, List, ℤ, sym, refl, ◌∙◌, true≢false, zero-le, le_of_lt, zero-lt-suc, mul_assoc, mul-pos, zero-mul, mul-one, arith, ltb→lt, ltb-false, le-ltb}
use mathlib.Core.Bool.{false≢true}
use mathlib.Core.Option.{some}
use lib.Ieee as Ieee
use lib.Ieee.{Float, nan, inf, fin, binary64, is_nan, up, down, round, sum, fits, lt, le}
use lib.Ieee.Fits.{up_pos, down_pos, and_r, add-fits}
use lib.Ieee.Order.{round_mono}
use lib.Ieee.Scale.{finite}
use Rattle.zuniq.specs.Cells.{n_hash}
use Rattle.zuniq.proofs.Basics.{and_is_true}
use Rattle.protection.specs.Protected.{is_protected}
use Rattle.merger.specs.Floats.{◌⊕◌, ◌⊖◌, ◌⊘◌, float, 4·0, invalid_density}
use Rattle.merger.specs.Merge.{sum_of, unit_density, chi_of_densities_with, chi_of_densities, accept_densities}
use Rattle.merger.proofs.Floats.{HasSign, round-sign, round-zero, plus_over}
use Rattle.merger.proofs.Accept.{accept_densities-iff}

-- ---- not below 0
-- x is no NaN and not below 0, perhaps infinite
abbrev NotBelow0 : Float → Type 0
NotBelow0 nan = ⊥
NotBelow0 (inf s) = s ≡ false
NotBelow0 (fin false m e) = Unit {0}
NotBelow0 (fin true m e) = m ≡ 0

-- What has the sign + is not below 0; so is what is rounded with it, and a choice of two such.
plus_not_below_0 : (x : Float) → HasSign false x → NotBelow0 x
plus_not_below_0 nan h = absurd h
plus_not_below_0 (inf s) h = h
plus_not_below_0 (fin false m e) h = tt
plus_not_below_0 (fin true m e) h = absurd (true≢false h)

rounded_not_below_0 : (num den : ℕ) → NotBelow0 (round binary64 false num den)
rounded_not_below_0 num den = plus_not_below_0 (round binary64 false num den) (round-sign binary64 false num den)

either_not_below_0 : (b : Bool) (x y : Float) → NotBelow0 x → NotBelow0 y → NotBelow0 (cond b x y)
either_not_below_0 true x y h k = h
either_not_below_0 false x y h k = k

-- A valid density is not below 0.
valid_not_below_0 : (x : Float) → invalid_density x ≡ false → NotBelow0 x
unfolding invalid_density is_nan lt
valid_not_below_0 nan v = absurd (true≢false v)
valid_not_below_0 (inf s) v = absurd (true≢false v)
valid_not_below_0 (fin false m e) v = tt
valid_not_below_0 (fin true zero e) v = refl
valid_not_below_0 (fin true (suc m) e) v =
    let above : 0 < suc m * up e = mul-pos (zero-lt-suc m) (up_pos e) in
    absurd (omega (arith, ltb-false 0 (suc m * up e * 1 + 0 * 1 * down e) v))

-- A sum of values that are not below 0 is not.
add_not_below_0 : (x y : Float) → NotBelow0 x → NotBelow0 y → NotBelow0 (x ⊕ y)
unfolding Ieee.add sum
add_not_below_0 nan y h k = absurd h
add_not_below_0 (inf true) y h k = absurd (true≢false h)
add_not_below_0 (inf false) nan h k = absurd k
add_not_below_0 (inf false) (inf true) h k = absurd (true≢false k)
add_not_below_0 (inf false) (inf false) h k = refl
add_not_below_0 (inf false) (fin t n d) h k = refl
add_not_below_0 (fin s m e) nan h k = absurd k
add_not_below_0 (fin s m e) (inf t) h k = k
add_not_below_0 (fin false m e) (fin false n d) h k = rounded_not_below_0 (m * up e * down d + n * up d * down e) (down e * down d)
add_not_below_0 (fin false m e) (fin true n d) h k =
    rw (k, zero-mul, zero-mul, le-ltb (m * up e * down d) 0 zero-le) (rounded_not_below_0 (m * up e * down d - 0) (down e * down d))
add_not_below_0 (fin true m e) (fin false n d) h k =
    rw (h, zero-mul, zero-mul, le-ltb (n * up d * down e) 0 zero-le)
    (either_not_below_0 (ltb 0 (n * up d * down e)) _ _ (rounded_not_below_0 (n * up d * down e - 0) (down e * down d)) (rounded_not_below_0 (0 - n * up d * down e) (down e * down d)))
add_not_below_0 (fin true m e) (fin true n d) h k = simp (h, k, zero-mul, round-zero true (down e * down d) (mul-pos (down_pos e) (down_pos d)))

sum_not_below_0 : (x0 x1 x2 x3 : Float) → NotBelow0 x0 → NotBelow0 x1 → NotBelow0 x2 → NotBelow0 x3 → NotBelow0 (sum_of x0 x1 x2 x3)
sum_not_below_0 x0 x1 x2 x3 h0 h1 h2 h3 =
    add_not_below_0 ((x0 ⊕ x1) ⊕ x2) x3 (add_not_below_0 (x0 ⊕ x1) x2 (add_not_below_0 x0 x1 h0 h1) h2) h3

-- ---- a quarter of a finite value
-- What is at most a finite value is finite.
finite-of_le : (x y : Float) → HasSign false x → T (finite y) → T (le x y) → T (finite x)
unfolding le
finite-of_le nan y h k l = absurd h
finite-of_le (inf true) y h k l = absurd (true≢false h)
finite-of_le (inf false) nan h k l = absurd k
finite-of_le (inf false) (inf t) h k l = absurd k
finite-of_le (inf false) (fin t n d) h k l = l
finite-of_le (fin s m e) y h k l = tt

-- A fraction up to 2^1022 is rounded to a finite value.
round-finite : (num den : ℕ) → 0 < den → num ≤ 2 ^ 1022 * den → T (finite (round binary64 false num den))
round-finite num den p h =
    finite-of_le (round binary64 false num den) (round binary64 false (2 ^ 1022) 1) (round-sign binary64 false num den) (unfold round in tt)
    (round_mono binary64 num den (2 ^ 1022) 1 p (zero-lt-suc 0) (rw mul-one h))

-- Every finite f64 is at most 2^1024.
fits_bound : (s : Bool) (m : ℕ) (e : ℤ) → T (fits binary64 (fin s m e)) → m * up e ≤ 2 ^ 1024 * down e
unfolding fits
fits_bound s zero e t = rw zero-mul zero-le
fits_bound s (suc m) e t = le_of_lt (ltb→lt (suc m * up e) (2 ^ 1024 * down e) (and_r (eqb (suc m % 2) 1 && ltb (suc m) (2 ^ 53) && leb (down e) (2 ^ 1074)) (ltb (suc m * up e) (2 ^ 1024 * down e)) t))

-- A finite value with the sign + is a valid density.
plus_valid : (x : Float) → HasSign false x → T (finite x) → invalid_density x ≡ false
unfolding invalid_density is_nan lt
plus_valid nan h k = absurd h
plus_valid (inf s) h k = absurd k
plus_valid (fin true m e) h k = absurd (true≢false h)
plus_valid (fin false m e) h k = le-ltb (m * up e * 1) (0 * 1 * down e) (omega arith)

-- A quarter of a finite f64 that is not below 0 is one.
quarter_valid : (x : Float) → T (fits binary64 x) → NotBelow0 x → T (finite x) → invalid_density (x ⊘ 4·0) ≡ false
unfolding Ieee.div invalid_density is_nan lt
quarter_valid nan f h k = absurd h
quarter_valid (inf s) f h k = absurd k
quarter_valid (fin true m e) f h k = rw (h, zero-mul, zero-mul, round-zero true (4 * down e) (mul-pos (zero-lt-suc 3) (down_pos e)))
quarter_valid (fin false m e) f h k =
    plus_valid (round binary64 false (m * up e * 1) (4 * down e)) (round-sign binary64 false (m * up e * 1) (4 * down e))
    (round-finite (m * up e * 1) (4 * down e) (mul-pos (zero-lt-suc 3) (down_pos e)) (rw (mul-one, ← mul_assoc (2 ^ 1022) 4 (down e)) (fits_bound false m e f)))

-- ---- an infinite sum
-- x is a NaN or +∞
abbrev TooHigh : Float → Type 0
TooHigh nan = Unit {0}
TooHigh (inf s) = s ≡ false
TooHigh (fin s m e) = ⊥

-- Such a value is below no T.
TooHigh-not_below : (x T : Float) → TooHigh x → lt x T ≡ false
unfolding lt
TooHigh-not_below nan T h = refl
TooHigh-not_below (inf true) T h = absurd (true≢false h)
TooHigh-not_below (inf false) nan h = refl
TooHigh-not_below (inf false) (inf t) h = refl
TooHigh-not_below (inf false) (fin t n d) h = refl
TooHigh-not_below (fin s m e) T h = absurd h

-- What is taken from +∞ leaves such a value, and dividing one by a value with the sign + does.
infinite_less : (y : Float) → TooHigh (inf false ⊖ y)
unfolding Ieee.sub Ieee.add Ieee.neg
infinite_less nan = tt
infinite_less (inf true) = refl
infinite_less (inf false) = tt
infinite_less (fin t n d) = refl

TooHigh-over : (x y : Float) → TooHigh x → HasSign false y → TooHigh (x ⊘ y)
unfolding Ieee.div
TooHigh-over nan y h k = tt
TooHigh-over (inf true) y h k = absurd (true≢false h)
TooHigh-over (inf false) nan h k = tt
TooHigh-over (inf false) (inf t) h k = tt
TooHigh-over (inf false) (fin true n d) h k = absurd (true≢false k)
TooHigh-over (inf false) (fin false n d) h k = refl
TooHigh-over (fin s m e) y h k = absurd h

-- c has the sign +.
unit_density-plus : (p : ℕ) → HasSign false (unit_density p)
unfolding unit_density Ieee.of_int Ieee.of_bits
unit_density-plus p = plus_over (float (n_hash p)) _ _ refl (round-sign binary64 false (n_hash p) 1)

-- So chi is below no T where the sum is infinite.
infinite_sum_kept : (p : ℕ) (T m0 m1 m2 m3 : Float) → sum_of m0 m1 m2 m3 ≡ inf false → lt (chi_of_densities p m0 m1 m2 m3) T ≡ false
unfolding chi_of_densities_with
infinite_sum_kept p T m0 m1 m2 m3 e =
    rw e (TooHigh-not_below _ T (TooHigh-over _ (unit_density p) (infinite_less _) (unit_density-plus p)))

-- ---- the laws
-- A valid density is no NaN.
pub valid_not_nan : (x : Float) → invalid_density x ≡ false → is_nan x ≡ false
unfolding invalid_density is_nan
valid_not_nan nan v = v
valid_not_nan (inf s) v = refl
valid_not_nan (fin s m e) v = refl

-- What is not below 0 is finite or +∞.
finite_or_infinite : (x : Float) → NotBelow0 x → (x ≡ inf false → ⊥) → T (finite x)
finite_or_infinite nan h n = absurd h
finite_or_infinite (inf true) h n = absurd (true≢false h)
finite_or_infinite (inf false) h n = n refl
finite_or_infinite (fin s m e) h n = tt

-- A merged density is valid where the four are.
pub accepted_density_valid : (P : List ℕ) (M : ℕ) (T : Float) (p h : ℕ) (m0 m1 m2 m3 m : Float) → invalid_density m0 ≡ false → invalid_density m1 ≡ false → invalid_density m2 ≡ false → invalid_density m3 ≡ false
    → accept_densities P M T p h m0 m1 m2 m3 ≡ some m → invalid_density m ≡ false
accepted_density_valid P M T p h m0 m1 m2 m3 m v0 v1 v2 v3 a =
    let e = (accept_densities-iff P M T p h m0 m1 m2 m3 m).0 a in
    let s = sum_of m0 m1 m2 m3 in
    let not_below : NotBelow0 s = sum_not_below_0 m0 m1 m2 m3 (valid_not_below_0 m0 v0) (valid_not_below_0 m1 v1) (valid_not_below_0 m2 v2) (valid_not_below_0 m3 v3) in
    rw (← e.2) (quarter_valid s (add-fits binary64 ((m0 ⊕ m1) ⊕ m2) m3) not_below (finite_or_infinite s not_below (λ i. false≢true (sym (infinite_sum_kept p T m0 m1 m2 m3 i) ∙ (and_is_true (not (is_protected 29 P p h)) _ e.1).1))))
