-- Facts on f64s, at every float: the comparisons that the code makes, and which results are no NaN and which sign they
-- have. Assumes nothing.
use Rattle.std.proofs.Common.{◌≡◌, ℕ, zero, suc, ◌+◌, ◌-◌, ◌*◌, ◌^◌, ◌<◌, Bool, true, false, cond, not, ◌&&◌, ◌||◌, T, eqb, ltb, ◌⊎◌, ℤ, pos, sym, refl, subst, inl, inr, true≢false, suc-le-suc, zero-le, add-zero, zero-lt-suc, mul-zero, zero-mul, mul-one, arith, le-ltb, lt-ltb}
use mathlib.Core.Bool.{beq}
use lib.Dec.{eqb-zero-suc}
use lib.Ieee as Ieee
use lib.Ieee.{Float, nan, inf, fin, Format, binary64, prec, emax, low, up, down, odd, units, round, sum, is_nan}
use lib.Ieee.Fits.{round_is, down_pos}
use lib.Ieee.Scale.{round_same, finite}
use Rattle.merger.specs.Floats.{◌⊕◌, ◌⊖◌, ◌⊗◌, ◌⊘◌, 0·0, 1·0, 4·0, invalid_density}

-- ---- comparisons
-- No float is below itself.
pub lt_self : (x : Float) → Ieee.lt x x ≡ false
unfolding Ieee.lt
lt_self nan = refl
lt_self (inf true) = refl
lt_self (inf false) = refl
lt_self (fin true m e) = le-ltb (m * up e * down e) (m * up e * down e) (omega arith)
lt_self (fin false m e) = le-ltb (m * up e * down e) (m * up e * down e) (omega arith)

-- ---- the literals of the code
pub zero_is : Ieee.of_bits binary64 0 ≡ 0·0
unfolding Ieee.of_bits
zero_is = refl

pub one_is : Ieee.of_bits binary64 0x3FF0_0000_0000_0000 ≡ 1·0
unfolding Ieee.of_bits
one_is = refl

pub four_is : Ieee.of_bits binary64 0x4010_0000_0000_0000 ≡ 4·0
unfolding Ieee.of_bits
four_is = refl

pub ruleset literals = (zero_is, one_is, four_is)

-- ---- zeros
-- Zero is rounded to a zero.
pub round-zero : (s : Bool) (den : ℕ) → 0 < den → round binary64 s 0 den ≡ fin s 0 (pos 0)
unfolding round
round-zero s den p = rw (round_same binary64 s 0 den 0 1 p (zero-lt-suc 0) (sym (zero-mul den)))

-- What is finite is a zero when times 0.
times_zero : (s : Bool) (m : ℕ) (e : ℤ) → fin s m e ⊗ 0·0 ≡ fin s 0 (pos 0)
unfolding Ieee.mul
times_zero true m e = simp (mul-zero, mul-one) (round-zero true (down e) (down_pos e))
times_zero false m e = simp (mul-zero, mul-one) (round-zero false (down e) (down_pos e))

-- A value with the sign + is not below 0, and one with the sign − is at least 0 exactly if it is −0.
plus_at_least_0 : (x : ℕ) → ltb x 0 ≡ cond (ltb 0 x || (eqb 0 x && true)) false true
plus_at_least_0 zero = refl
plus_at_least_0 (suc x) = simp (le-ltb (suc x) 0 zero-le, lt-ltb 0 (suc x) (suc-le-suc zero-le))

minus_at_least_0 : (x : ℕ) → ltb 0 (x + 0) ≡ cond (eqb 0 x && true) false true
minus_at_least_0 zero = refl
minus_at_least_0 (suc x) = simp (add-zero, eqb-zero-suc) (lt-ltb 0 (suc x) (suc-le-suc zero-le))

-- A density is invalid exactly if it is not at least 0, or is no zero when times 0.
pub invalid_density-is : (x : Float) → invalid_density x ≡ cond (Ieee.le 0·0 x) (Ieee.ne (x ⊗ 0·0) 0·0) true
unfolding invalid_density Ieee.le Ieee.lt Ieee.mul Ieee.ne is_nan
invalid_density-is nan = refl
invalid_density-is (inf true) = refl
invalid_density-is (inf false) = refl
invalid_density-is (fin true m e) = rw (times_zero true m e) (simp zero-mul (minus_at_least_0 (m * up e * 1)))
invalid_density-is (fin false m e) = rw (times_zero false m e) (simp zero-mul (plus_at_least_0 (m * up e * 1)))

pub ruleset density_tests = (invalid_density-is, zero_is)

-- ---- signs
-- x is no NaN and has the sign s
abbrev pub HasSign : Bool → Float → Type 0
HasSign s nan = ⊥
HasSign s (inf t) = t ≡ s
HasSign s (fin t m e) = t ≡ s

pub sign_not_nan : (s : Bool) (x : Float) → HasSign s x → is_nan x ≡ false
unfolding is_nan
sign_not_nan s nan h = absurd h
sign_not_nan s (inf t) h = refl
sign_not_nan s (fin t m e) h = refl

either_sign : (s b : Bool) (x y : Float) → HasSign s x → HasSign s y → HasSign s (cond b x y)
either_sign s true x y h k = h
either_sign s false x y h k = k

-- What is rounded is no NaN and keeps its sign.
odd_sign : (d : ℕ) (s : Bool) (q k l : ℕ) → HasSign s (odd d s q k l)
unfolding odd
odd_sign d s zero k l = refl
odd_sign d s (suc q) k l = refl

units-sign : (f : Format) (s : Bool) (q k : ℕ) → HasSign s (units f s q k)
unfolding units
units-sign f s q k = either_sign s (ltb (q * 2 ^ k) (2 ^ (low f + suc (emax f)))) _ (inf s) (odd_sign (suc (prec f)) s q k (low f)) refl

pub round-sign : (f : Format) (s : Bool) (num den : ℕ) → HasSign s (round f s num den)
round-sign f s num den = subst (HasSign s) (sym (round_is f s num den)) (units-sign f s _ _)

-- A sum of two values with the sign + has it.
pub add_plus : (x y : Float) → HasSign false x → HasSign false y → HasSign false (x ⊕ y)
unfolding Ieee.add sum
add_plus nan y h k = absurd h
add_plus (inf true) y h k = absurd (true≢false h)
add_plus (inf false) nan h k = absurd k
add_plus (inf false) (inf true) h k = absurd (true≢false k)
add_plus (inf false) (inf false) h k = refl
add_plus (inf false) (fin t n d) h k = refl
add_plus (fin true m e) y h k = absurd (true≢false h)
add_plus (fin false m e) nan h k = absurd k
add_plus (fin false m e) (inf t) h k = k
add_plus (fin false m e) (fin true n d) h k = absurd (true≢false k)
add_plus (fin false m e) (fin false n d) h k = round-sign binary64 false (m * up e * down d + n * up d * down e) (down e * down d)

-- So does a finite value above 0 that is divided by one with the sign +, or multiplied by it.
pub over_plus : (m : ℕ) (e : ℤ) (y : Float) → eqb m 0 ≡ false → HasSign false y → HasSign false (fin false m e ⊘ y)
unfolding Ieee.div
over_plus m e nan z k = absurd k
over_plus m e (inf true) z k = absurd (true≢false k)
over_plus m e (inf false) z k = refl
over_plus m e (fin true n d) z k = absurd (true≢false k)
over_plus m e (fin false n d) z k =
    rw z (either_sign false (eqb n 0) (inf false) _ refl (round-sign binary64 false (m * up e * down d) (n * up d * down e)))

-- So does one with the sign + that is divided by a finite value above 0.
pub plus_over : (x : Float) (n : ℕ) (d : ℤ) → eqb n 0 ≡ false → HasSign false x → HasSign false (x ⊘ fin false n d)
unfolding Ieee.div
plus_over nan n d z h = absurd h
plus_over (inf true) n d z h = absurd (true≢false h)
plus_over (inf false) n d z h = refl
plus_over (fin true m e) n d z h = absurd (true≢false h)
plus_over (fin false m e) n d z h = rw z (round-sign binary64 false (m * up e * down d) (n * up d * down e))

pub times_plus : (m : ℕ) (e : ℤ) (y : Float) → eqb m 0 ≡ false → HasSign false y → HasSign false (fin false m e ⊗ y)
unfolding Ieee.mul
times_plus m e nan z k = absurd k
times_plus m e (inf true) z k = absurd (true≢false k)
times_plus m e (inf false) z k = rw z
times_plus m e (fin true n d) z k = absurd (true≢false k)
times_plus m e (fin false n d) z k = round-sign binary64 false (m * up e * (n * up d)) (down e * down d)

-- A finite value less one that is no NaN is no NaN.
round-not_nan : (s : Bool) (num den : ℕ) → is_nan (round binary64 s num den) ≡ false
round-not_nan s num den = sign_not_nan s (round binary64 s num den) (round-sign binary64 s num den)

either_not_nan : (b : Bool) (x y : Float) → is_nan x ≡ false → is_nan y ≡ false → is_nan (cond b x y) ≡ false
either_not_nan true x y h k = h
either_not_nan false x y h k = k

sum-not_nan : (s : Bool) (a : ℕ) (t : Bool) (b c : ℕ) → is_nan (sum binary64 s a t b c) ≡ false
unfolding sum
sum-not_nan s a t b c =
    either_not_nan (beq s t) (round binary64 s (a + b) c) _ (round-not_nan s (a + b) c)
    (either_not_nan (ltb a b) (round binary64 t (b - a) c) (round binary64 (s && ltb b a) (a - b) c) (round-not_nan t (b - a) c) (round-not_nan (s && ltb b a) (a - b) c))

pub less_not_nan : (x y : Float) → T (finite x) → is_nan y ≡ false → is_nan (x ⊖ y) ≡ false
unfolding Ieee.sub Ieee.add Ieee.neg is_nan
less_not_nan nan y h k = absurd h
less_not_nan (inf s) y h k = absurd h
less_not_nan (fin s m e) nan h k = k
less_not_nan (fin s m e) (inf t) h k = refl
less_not_nan (fin s m e) (fin t n d) h k = sum-not_nan s (m * up e * down d) (not t) (n * up d * down e) (down e * down d)

-- ---- infinity
-- A sum of two values with the sign + is infinite where one is.
pub add_infinite : (x y : Float) → HasSign false x → HasSign false y → (x ≡ inf false) ⊎ (y ≡ inf false) → x ⊕ y ≡ inf false
add_infinite x y h k (inl e) = rw e (infinite_left y k)
  where
    infinite_left : (y : Float) → HasSign false y → inf false ⊕ y ≡ inf false
    infinite_left nan k = absurd k
    infinite_left (inf true) k = absurd (true≢false k)
    infinite_left (inf false) k = unfold Ieee.add in refl
    infinite_left (fin t n d) k = unfold Ieee.add in refl
add_infinite x y h k (inr e) = rw e (infinite_right x h)
  where
    infinite_right : (x : Float) → HasSign false x → x ⊕ inf false ≡ inf false
    infinite_right nan k = absurd k
    infinite_right (inf true) k = absurd (true≢false k)
    infinite_right (inf false) k = unfold Ieee.add in refl
    infinite_right (fin t n d) k = unfold Ieee.add in refl
