-- The laws of numbers in a text: reading digit by digit, and printing. Assumes nothing.
use mathlib.Core.Path.{◌≡◌, refl}
use mathlib.Core.Bool.{Bool, true, false, ◌&&◌, cond}
use mathlib.Core.List.{List, [], ◌∷◌, ◌++◌}
use Prim.Native.Nat.{ℕ, zero, suc, ◌+◌, ◌*◌, ◌-◌, ◌/◌, ◌%◌, ◌^◌, ◌≤◌, ◌<◌}
use native.Mathlib.Omega.{arith}
use native.Mathlib.Numerals.{add-one}
use native.Mathlib.Nat.{pow-suc, one-le-pow, pow-le-pow_right}
use lib.Dec.{leb, ltb}
use lib.ListN.{length, drop, get_or, length-append, drop_of_length-le}
use lib.Seq.{drop-cons}
use borrow.Author.Tests.{lt-ltb, le-ltb, le-leb, lt-leb, leb-true, leb-false}
use Rattle.io.specs.Digits.{last_digits, IsDigitCount}
use Rattle.text.specs.Text.{is_digit, are_digits, value_from, is_number, number, digits_up_to, decimal}
use Rattle.text.specs.Text.{longer}
use Rattle.std.specs.Prelude.{Option, Some, None}

-- ---- reading
-- the number that the digits of l make behind those of n, if they are digits and it is not too large
unfoldable pub number_from : ℕ → ℕ → List ℕ → Option ℕ
number_from most n l = cond (are_digits l && leb (value_from n l) most) (Some (value_from n l)) None

-- A field of 1 to 20 bytes is read digit by digit.
pub number_from-0 : (most : ℕ) (l : List ℕ) → 1 ≤ length l → length l ≤ 20 → number most l ≡ number_from most 0 l
unfolding number is_number number_from
number_from-0 most l p q = rw (le-leb 1 (length l) p, le-leb (length l) 20 q) refl

pub number-of_none : (most : ℕ) (l : List ℕ) → length l ≡ 0 → number most l ≡ None
unfolding number is_number
number-of_none most l p = rw (lt-leb 1 (length l) (omega arith)) refl

pub number-of_many : (most : ℕ) (l : List ℕ) → 20 < length l → number most l ≡ None
unfolding number is_number
number-of_many most l p = rw (le-leb 1 (length l) (omega arith), lt-leb (length l) 20 p) refl

-- More digits make no smaller number.
pub value_grows : (n : ℕ) (l : List ℕ) → n ≤ value_from n l
unfolding value_from
value_grows n [] = omega arith
value_grows n (x ∷ l) = omega (arith, value_grows (10 * n + (x - 48)) l)

and-false : (a : Bool) → (a && false) ≡ false
and-false true = refl
and-false false = refl

-- What the next digit makes of it.
pub from_next : (most n x : ℕ) (l : List ℕ) (m : ℕ) → longer most n x ≡ Some m → number_from most n (x ∷ l) ≡ number_from most m l
unfolding number_from longer are_digits value_from
from_next most n x l m e = by (is_digit x) refl (leb (10 * n + (x - 48)) most) refl e
  where
    by : (d : Bool) → is_digit x ≡ d → (b : Bool) → leb (10 * n + (x - 48)) most ≡ b
        → cond (d && b) (Some (10 * n + (x - 48))) None ≡ Some m
        → cond ((d && are_digits l) && leb (value_from (10 * n + (x - 48)) l) most) (Some (value_from (10 * n + (x - 48)) l)) None
        ≡ cond (are_digits l && leb (value_from m l) most) (Some (value_from m l)) None
    by true p true q e = let s : 10 * n + (x - 48) ≡ m = cc in rw s refl
    by true p false q e = let z : ◌≡◌ {A = ℕ} 0 1 = cc in absurd (omega arith)
    by false p b q e = let z : ◌≡◌ {A = ℕ} 0 1 = cc in absurd (omega arith)

-- Behind what is no digit or makes the number too large nothing is read.
pub from_stops : (most n x : ℕ) (l : List ℕ) → longer most n x ≡ None → number_from most n (x ∷ l) ≡ None
unfolding number_from longer are_digits value_from
from_stops most n x l e = by (is_digit x) refl (leb (10 * n + (x - 48)) most) refl e
  where
    by : (d : Bool) → is_digit x ≡ d → (b : Bool) → leb (10 * n + (x - 48)) most ≡ b
        → cond (d && b) (Some (10 * n + (x - 48))) None ≡ None
        → cond ((d && are_digits l) && leb (value_from (10 * n + (x - 48)) l) most) (Some (value_from (10 * n + (x - 48)) l)) None
        ≡ None
    by true p true q e = let z : ◌≡◌ {A = ℕ} 0 1 = cc in absurd (omega arith)
    by true p false q e =
        let u = leb-false (10 * n + (x - 48)) most q in
        rw (lt-leb (value_from (10 * n + (x - 48)) l) most (omega (arith, u, value_grows (10 * n + (x - 48)) l)), and-false (are_digits l)) refl
    by false p b q e = refl

-- The end of the field.
pub from_end : (most n : ℕ) → n ≤ most → number_from most n [] ≡ Some n
unfolding number_from are_digits value_from
from_end most n p = rw (le-leb n most p) refl

pub longer-le : (most n x m : ℕ) → longer most n x ≡ Some m → m ≤ most
unfolding longer
longer-le most n x m e = by (is_digit x) refl (leb (10 * n + (x - 48)) most) refl e
  where
    by : (d : Bool) → is_digit x ≡ d → (b : Bool) → leb (10 * n + (x - 48)) most ≡ b
        → cond (d && b) (Some (10 * n + (x - 48))) None ≡ Some m → m ≤ most
    by true p true q e = let s : 10 * n + (x - 48) ≡ m = cc in omega (arith, leb-true (10 * n + (x - 48)) most q)
    by true p false q e = let z : ◌≡◌ {A = ℕ} 0 1 = cc in absurd (omega arith)
    by false p b q e = let z : ◌≡◌ {A = ℕ} 0 1 = cc in absurd (omega arith)

-- The same at the i-th byte of a field.
module _ (most n : ℕ) (l : List ℕ) (i : ℕ) where
  pub drop-next : (m : ℕ) → i < length l → longer most n (get_or l i 0) ≡ Some m → number_from most n (drop i l) ≡ number_from most m (drop (i + 1) l)
  drop-next m p e = rw (drop-cons l i 0 p, add-one i) (from_next most n (get_or l i 0) (drop (suc i) l) m e)

  pub drop-stops : i < length l → longer most n (get_or l i 0) ≡ None → number_from most n (drop i l) ≡ None
  drop-stops p e = rw (drop-cons l i 0 p) (from_stops most n (get_or l i 0) (drop (suc i) l) e)

  pub drop-end : length l ≤ i → n ≤ most → number_from most n (drop i l) ≡ Some n
  drop-end p q = rw (drop_of_length-le l p) (from_end most n q)

-- A number that is read is not too large.
pub number-le : (most : ℕ) (l : List ℕ) (m : ℕ) → number most l ≡ Some m → m ≤ most
unfolding number
number-le most l m e = by (is_number l) (leb (value_from 0 l) most) refl e
  where
    by : (d b : Bool) → leb (value_from 0 l) most ≡ b → cond (d && b) (Some (value_from 0 l)) None ≡ Some m → m ≤ most
    by true true q e = let s : value_from 0 l ≡ m = cc in omega (arith, leb-true (value_from 0 l) most q)
    by true false q e = let z : ◌≡◌ {A = ℕ} 0 1 = cc in absurd (omega arith)
    by false b q e = let z : ◌≡◌ {A = ℕ} 0 1 = cc in absurd (omega arith)

-- ---- printing
-- The fewest digits that hold a number are its digits.
pub digits_are : (f k n : ℕ) → k ≤ f → IsDigitCount 10 1 n k → last_digits 10 k n ≡ digits_up_to f n
unfolding digits_up_to
digits_are f zero n u p = absurd (omega (arith, p.0))
digits_are zero (suc k) n u p = absurd (omega arith)
digits_are (suc f) (suc zero) n u p =
    let low : n < 10 = p.1 in
    let same : n % 10 ≡ n = omega arith in
    rw (same, lt-ltb n 10 low) refl
digits_are (suc f) (suc (suc j)) n u p =
    let high : 10 ^ suc j ≤ n = higher (p.2 (omega arith)) in
    let one : 1 ≤ 10 ^ j = one-le-pow j 10 (omega arith) in
    let top : n < 10 ^ suc (suc j) = p.1 in
    let more : 10 ^ suc j ≡ 10 ^ j * 10 = pow-suc 10 j in
    let most : 10 ^ suc (suc j) ≡ 10 ^ suc j * 10 = pow-suc 10 (suc j) in
    rw (le-ltb n 10 (omega arith), lt-ltb (n % 10) 10 (omega arith), digits_are f (suc j) (n / 10) (omega arith) (omega arith, omega arith, λ h. lower (omega arith))) refl
  where
    higher : 10 ^ (suc (suc j) - 1) ≤ n → 10 ^ suc j ≤ n
    higher q = let one : suc (suc j) - 1 ≡ suc j = omega arith in rw one at q

    lower : 10 ^ j ≤ n / 10 → 10 ^ (suc j - 1) ≤ n / 10
    lower q = let one : suc j - 1 ≡ j = omega arith in rw one q

-- A number has at most 20 digits.
pub length_digits : (k n : ℕ) → length (digits_up_to k n) ≤ k
unfolding digits_up_to
length_digits zero n = omega arith
length_digits (suc k) n = by (ltb n 10) (length_digits k (n / 10))
  where
    by : (t : Bool) → length (digits_up_to k (n / 10)) ≤ k → length (cond t ((48 + n) ∷ []) (digits_up_to k (n / 10) ++ ((48 + n % 10) ∷ []))) ≤ suc k
    by true h = omega arith
    by false h = omega (arith, length-append (digits_up_to k (n / 10)) ((48 + n % 10) ∷ []))

pub length-decimal : (n : ℕ) → length (decimal n) ≤ 20
unfolding decimal
length-decimal n = length_digits 20 n

-- The fewest digits of a u64 are at most 20.
pub few_digits : (k n : ℕ) → n ≤ 18446744073709551615 → IsDigitCount 10 1 n k → k ≤ 20
few_digits k n u p = by (leb k 20) refl
  where
    by : (t : Bool) → leb k 20 ≡ t → k ≤ 20
    by true e = leb-true k 20 e
    by false e =
        let many = leb-false k 20 e in
        let least : 10 ^ (k - 1) ≤ n = p.2 (omega arith) in
        let large : 10 ^ 20 ≤ 10 ^ (k - 1) = pow-le-pow_right {n = 10} (omega arith) {i = 20} {j = k - 1} (omega arith) in
        absurd (omega arith)

pub decimal-is : (k n : ℕ) → n ≤ 18446744073709551615 → IsDigitCount 10 1 n k → last_digits 10 k n ≡ decimal n
unfolding decimal
decimal-is k n u p = digits_are 20 k n (few_digits k n u p) p
