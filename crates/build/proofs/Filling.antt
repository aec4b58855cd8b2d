-- Filling a buffer from the front, and summing one, turn by turn. Assumes nothing.
use mathlib.Core.Path.{◌≡◌, refl, ap, ◌∙◌}
use mathlib.Core.List.{List, [], ◌∷◌, ◌++◌, append-nil}
use mathlib.Core.Option.{none, some}
use Prim.Native.Nat.{ℕ, zero, suc, ◌+◌, ◌≤◌, ◌<◌, min}
use native.Mathlib.Numerals.{add-one}
use native.Mathlib.Omega.{arith}
use lib.ListN.{length, get_or, take, drop, set, replicate, length-replicate, drop_of_length-le}
use lib.Seq.{drop-cons, drop-length, set_at, take-suc}
use borrow.Author.Tests.{lt-ltb, le-ltb}
use Rattle.refusal.specs.declared.Refusal.{Refusal}
use Rattle.build.specs.Add.{sum_of, capped_sum, sum_refusal}

replicate_more : {A : Type 0} (n : ℕ) (x : A) (l : List A) → replicate n x ++ (x ∷ l) ≡ replicate (suc n) x ++ l
replicate_more zero x l = refl
replicate_more (suc n) x l = ap (λ t. x ∷ t) (replicate_more n x l)

-- Filling one place more.
pub fill_next : {A : Type 0} (n : ℕ) (x : A) (l : List A) → n < length l → set (replicate n x ++ drop n l) n x ≡ replicate (n + 1) x ++ drop (n + 1) l
fill_next n x l p =
    rw (drop-cons l n x p, add-one n) (set_at (replicate n x) (get_or l n x) (drop (suc n) l) x n (length-replicate n x) ∙ replicate_more n x (drop (suc n) l))

-- All places filled.
pub filled : {A : Type 0} (n : ℕ) (x : A) (l m : List A) → n ≡ length l → m ≡ replicate n x ++ drop n l → m ≡ replicate (length l) x
filled n x l m e f = f ∙ rw (e, drop-length l, append-nil (replicate (length l) x)) refl

pub sum_append : (l : List ℕ) (n : ℕ) → sum_of (l ++ (n ∷ [])) ≡ sum_of l + n
unfolding sum_of
sum_append [] n = omega arith
sum_append (m ∷ l) n = rw (sum_append l n) (omega arith)

-- The sum of one place more.
pub sum_next : (l : List ℕ) (i : ℕ) → i < length l → sum_of (take (i + 1) l) ≡ sum_of (take i l) + get_or l i 0
sum_next l i p = rw (add-one i, take-suc l i 0 p) (sum_append (take i l) (get_or l i 0))

pub capped_next : (l : List ℕ) (i : ℕ) → i < length l → capped_sum (take (i + 1) l) ≡ min (capped_sum (take i l) + get_or l i 0) 4294967296
unfolding capped_sum
capped_next l i p = rw (sum_next l i p) (omega arith)

-- ---- row 10, from place i on
module _ (l : List ℕ) (i : ℕ) where
  pub sum_drop : i < length l → sum_of (drop i l) ≡ get_or l i 0 + sum_of (drop (i + 1) l)
  unfolding sum_of
  sum_drop p = rw (drop-cons l i 0 p, add-one i) refl

  pub sum_drop_four : i + 4 ≤ length l → sum_of (drop i l) ≡ get_or l i 0 + get_or l (i + 1) 0 + get_or l (i + 2) 0 + get_or l (i + 3) 0 + sum_of (drop (i + 4) l)
  unfolding sum_of
  sum_drop_four p =
      let i2 : i + 1 + 1 ≡ i + 2 = omega arith in
      let i3 : i + 2 + 1 ≡ i + 3 = omega arith in
      let i4 : i + 3 + 1 ≡ i + 4 = omega arith in
      let s1 = rw i2 at (drop-one (i + 1) (omega arith)) in
      let s2 = rw i3 at (drop-one (i + 2) (omega arith)) in
      let s3 = rw i4 at (drop-one (i + 3) (omega arith)) in
      omega (arith, drop-one i (omega arith), s1, s2, s3)
    where
      drop-one : (j : ℕ) → j < length l → sum_of (drop j l) ≡ get_or l j 0 + sum_of (drop (j + 1) l)
      drop-one j q = rw (drop-cons l j 0 q, add-one j) refl

  pub sum_passes : (sum : ℕ) → i < length l → 4294967295 < sum + get_or l i 0 → sum_refusal sum i (drop i l) ≡ some (Refusal.CountOverflow i)
  unfolding sum_refusal
  sum_passes sum p q = rw (drop-cons l i 0 p, lt-ltb 4294967295 (sum + get_or l i 0) q) refl

  pub sum_goes_on : (sum : ℕ) → i < length l → sum + get_or l i 0 ≤ 4294967295 → sum_refusal sum i (drop i l) ≡ sum_refusal (sum + get_or l i 0) (i + 1) (drop (i + 1) l)
  unfolding sum_refusal
  sum_goes_on sum p q = rw (drop-cons l i 0 p, add-one i, le-ltb 4294967295 (sum + get_or l i 0) q) refl

  pub sum_ends : (sum : ℕ) → length l ≤ i → sum_refusal sum i (drop i l) ≡ none
  unfolding sum_refusal
  sum_ends sum p = rw (drop_of_length-le l p) refl

  pub sum_none_left : length l ≤ i → sum_of (drop i l) ≡ 0
  unfolding sum_of
  sum_none_left p = rw (drop_of_length-le l p) refl
