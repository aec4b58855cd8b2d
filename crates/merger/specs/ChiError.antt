-- Note 9 of 02: how near the chi-square of four counts is. "Statisticians quote our chi and need its error." The number that chi rounds is
-- S − 16 × P / E, of which `is_within` says, without a division, how far a given f64 is from it.
use Rattle.std.specs.Prelude.{◌≡◌, ℕ, ◌+◌, ◌*◌, ◌^◌, Bool, true, false, ◌⊎◌, ℤ, pos, Result, Ok, Err, ◌-ℤ◌, ◌*ℤ◌, neg_ℤ, ◌==◌, nat_le, unsigned_abs, Float}
use Rattle.std.proofs.Math.Option.{Option, none, some}
use Rattle.std.specs.Float.{nan, inf, fin}
use Rattle.std.specs.Float.Ieee.{up, down}
use Rattle.refusal.specs.declared.Refusal.{Refusal}
use Rattle.merger.specs.declared.Merge.{Merge}

-- ---- "the exact number that the f64 stands for"
-- a whole number over a power of two
pub record Fraction : Type 0 where
  pub numerator : ℤ
  pub denominator : ℕ

abbrev pub signed : (below0 : Bool) (n : ℕ) → ℤ
signed false n = pos n
signed true n = neg_ℤ (pos n)

-- A finite f64 is m × 2^e, with its sign; up e / down e is 2^e. A NaN and an infinity stand for no number.
abbrev pub exact_value : Float → Option Fraction
exact_value nan = none
exact_value (inf s) = none
exact_value (fin s m e) = some (record { numerator = signed s (m * up e); denominator = down e })

-- ---- the error
-- "let P be their product"
abbrev pub product_of : (n0 n1 n2 n3 : ℕ) → ℕ
product_of n0 n1 n2 n3 = n0 * n1 * n2 * n3

-- "and E the sum of the four products of three of them"
abbrev pub triples_of : (n0 n1 n2 n3 : ℕ) → ℕ
triples_of n0 n1 n2 n3 = n1 * n2 * n3 + n0 * n2 * n3 + n0 * n1 * n3 + n0 * n1 * n2

abbrev pub distance : (x y : ℤ) → ℕ
distance x y = unsigned_abs (x -ℤ y)

-- "2^50 times the distance of chi × E from S × E − 16 × P is at most S × E", with k for 50: both sides times the denominator of chi
abbrev pub is_within : (k S P E : ℕ) (chi : Option Fraction) → Bool
is_within k S P E none = false
is_within k S P E (some chi) =
    nat_le (2 ^ k * distance (chi.numerator *ℤ pos E) ((pos (S * E) -ℤ pos (16 * P)) *ℤ pos chi.denominator)) (S * E * chi.denominator)

-- the same of a chi of four counts, S being their total
unfoldable pub chi_within : (k : ℕ) (chi : Float) (n0 n1 n2 n3 : ℕ) → Bool
chi_within k chi n0 n1 n2 n3 = is_within k (n0 + n1 + n2 + n3) (product_of n0 n1 n2 n3) (triples_of n0 n1 n2 n3) (exact_value chi)

-- "With a zero among them"
abbrev pub SomeZero : (n0 n1 n2 n3 : ℕ) → Type 0
SomeZero n0 n1 n2 n3 = (((n0 ≡ 0) ⊎ (n1 ≡ 0)) ⊎ (n2 ≡ 0)) ⊎ (n3 ≡ 0)

-- "chi is exactly S"
abbrev pub is_exactly : (S : ℕ) (chi : Option Fraction) → Bool
is_exactly S none = false
is_exactly S (some chi) = distance chi.numerator (pos S *ℤ pos chi.denominator) == 0

-- the same of a chi of four counts, S being their total
unfoldable pub chi_exact : (chi : Float) (n0 n1 n2 n3 : ℕ) → Bool
chi_exact chi n0 n1 n2 n3 = is_exactly (n0 + n1 + n2 + n3) (exact_value chi)

-- ---- the chi that a statistician is handed: what the count merger answers where the four are kept
unfoldable pub kept_chi : {V : Type 0} → Merge V → Option Float
kept_chi (Merge.Merged v) = none
kept_chi (Merge.Kept chi) = some chi

unfoldable pub answered_chi : {V : Type 0} → Result (Merge V) Refusal → Option Float
unfolding kept_chi
answered_chi (Ok m) = kept_chi m
answered_chi (Err r) = none
