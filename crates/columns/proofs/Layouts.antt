-- The laws of the layout, for any row length and any number of rows: which byte stands where, and that each direction undoes the
-- other. Assumes nothing.
use mathlib.Core.Path.{◌≡◌, refl, sym, ◌∙◌}
use mathlib.Core.List.{List, [], ◌∷◌, ◌++◌}
use mathlib.Core.Logic.{◌⊎◌, inl, inr}
use Prim.Native.Nat.{ℕ, zero, suc, ◌+◌, ◌*◌, ◌/◌, ◌%◌, ◌≤◌, ◌<◌}
use native.Mathlib.Nat.{zero-mul, mul-zero, suc-mul, mul_comm, mul-le-mul_right, le_of_suc-le-suc, eq-or-lt_of_le, mod-lt, div-add-mod', div-lt_iff_lt-mul}
use native.Mathlib.Numerals.{add-one}
use native.Mathlib.Omega.{arith}
use lib.ListN.{length, get_or, length-append, get_or-append}
use lib.Seq.{get_or-append-add, get_or_at, ext_get_or}
use Rattle.columns.specs.Columns.{every, runs, by_column, by_row}

-- ---- places

-- Place j of line i of n lines of m places lies before the end.
pub place_lt : (m n i j : ℕ) → i < n → j < m → i * m + j < n * m
place_lt m n i j l h = let next : i * m + m ≤ n * m = rw (suc-mul i m) at (mul-le-mul_right m l) in omega arith

-- a place as a line and what is left
pub record Split (m n p : ℕ) : Type 0 where
  pub line : ℕ
  pub rest : ℕ
  pub line_lt : line < n
  pub rest_lt : rest < m
  pub place_is : line * m + rest ≡ p

-- Every place before the end has them.
pub split : (m n p : ℕ) → p < n * m → Split m n p
split zero n p h = absurd (omega (arith, mul-zero n))
split (suc m) n p h =
    record {
      line = p / suc m;
      rest = p % suc m;
      line_lt = (div-lt_iff_lt-mul {k = suc m} {x = p} {y = n} (omega arith)).1 h;
      rest_lt = mod-lt p (omega arith);
      place_is = div-add-mod' p (suc m);
    }

-- ---- which byte stands where

length-every : (m j : ℕ) (bytes : List ℕ) (n : ℕ) → length (every m j bytes n) ≡ n
unfolding every
length-every m j bytes zero = refl
length-every m j bytes (suc n) = simp (length-append, length-every m j bytes n, add-one)

every-at : (m j : ℕ) (bytes : List ℕ) (n i : ℕ) → i < n → get_or (every m j bytes n) i 0 ≡ get_or bytes (i * m + j) 0
unfolding every
every-at m j bytes zero i h = absurd (omega arith)
every-at m j bytes (suc n) i h = go (eq-or-lt_of_le (le_of_suc-le-suc h)) (every-at m j bytes n i)
  where
    go : (i ≡ n) ⊎ (i < n) → (i < n → get_or (every m j bytes n) i 0 ≡ get_or bytes (i * m + j) 0)
        → get_or (every m j bytes n ++ (get_or bytes (n * m + j) 0 ∷ [])) i 0 ≡ get_or bytes (i * m + j) 0
    go (inl e) before = rw e (get_or_at (every m j bytes n) (get_or bytes (n * m + j) 0) [] 0 n (length-every m j bytes n))
    go (inr l) before = get_or-append (every m j bytes n) (get_or bytes (n * m + j) 0 ∷ []) 0 i (rw (length-every m j bytes n) l) ∙ before l

length_runs : (m n : ℕ) (bytes : List ℕ) (l : ℕ) → length (runs m n bytes l) ≡ l * n
unfolding runs
length_runs m n bytes zero = sym (zero-mul n)
length_runs m n bytes (suc l) = simp (length-append, length_runs m n bytes l, length-every m l bytes n, suc-mul)

runs-at : (m n : ℕ) (bytes : List ℕ) (l i j : ℕ) → j < l → i < n → get_or (runs m n bytes l) (j * n + i) 0 ≡ get_or bytes (i * m + j) 0
unfolding runs
runs-at m n bytes zero i j h b = absurd (omega arith)
runs-at m n bytes (suc l) i j h b = go (eq-or-lt_of_le (le_of_suc-le-suc h)) (λ (s : j < l). runs-at m n bytes l i j s b)
  where
    go : (j ≡ l) ⊎ (j < l) → (j < l → get_or (runs m n bytes l) (j * n + i) 0 ≡ get_or bytes (i * m + j) 0)
        → get_or (runs m n bytes l ++ every m l bytes n) (j * n + i) 0 ≡ get_or bytes (i * m + j) 0
    go (inl e) before = rw (e, ← length_runs m n bytes l, get_or-append-add (runs m n bytes l) (every m l bytes n) i 0) (every-at m l bytes n i b)
    go (inr s) before = get_or-append (runs m n bytes l) (every m l bytes n) 0 (j * n + i) (rw (length_runs m n bytes l) (place_lt n l j i s b)) ∙ before s

module _ (k n : ℕ) where
  pub length-by_column : (rows : List ℕ) → length (by_column k n rows) ≡ n * k
  unfolding by_column
  length-by_column rows = length_runs k n rows k ∙ mul_comm k n

  pub length-by_row : (columns : List ℕ) → length (by_row k n columns) ≡ n * k
  unfolding by_row
  length-by_row columns = length_runs n k columns n

  -- "Byte j of row i stands at j × rows + i", of rows of any length.
  pub by_column-at : (rows : List ℕ) (i j : ℕ) → i < n → j < k → get_or (by_column k n rows) (j * n + i) 0 ≡ get_or rows (i * k + j) 0
  unfolding by_column
  by_column-at rows i j h l = runs-at k n rows k i j l h

  pub by_row-at : (columns : List ℕ) (i j : ℕ) → i < n → j < k → get_or (by_row k n columns) (i * k + j) 0 ≡ get_or columns (j * n + i) 0
  unfolding by_row
  by_row-at columns i j h l = runs-at n k columns n j i h l

-- ---- "Each direction undoes the other, shown with the row length as a parameter."

-- The runs of the runs are the bytes.
runs-again : (m n : ℕ) (bytes : List ℕ) → length bytes ≡ n * m → runs n m (runs m n bytes m) n ≡ bytes
runs-again m n bytes e =
    let turned = runs m n bytes m in
    let long : length (runs n m turned n) ≡ n * m = length_runs n m turned n in
    let same : (p : ℕ) → p < n * m → get_or (runs n m turned n) p 0 ≡ get_or bytes p 0 =
    λ p l.
    let s = split m n p l in
    rw s.place_is at (runs-at n m turned n s.rest s.line s.line_lt s.rest_lt ∙ runs-at m n bytes m s.line s.rest s.rest_lt s.line_lt) in
    ext_get_or 0 (runs n m turned n) bytes (long ∙ sym e) (λ p l. same p (rw long at l))

module _ (k n : ℕ) where
  -- Rows laid out by column and taken back are the rows.
  pub rows_again : (rows : List ℕ) → length rows ≡ n * k → by_row k n (by_column k n rows) ≡ rows
  unfolding by_column by_row
  rows_again rows e = runs-again k n rows e

  -- Columns taken back and laid out again are the columns.
  pub columns_again : (columns : List ℕ) → length columns ≡ n * k → by_column k n (by_row k n columns) ≡ columns
  unfolding by_column by_row
  columns_again columns e = runs-again n k columns (e ∙ mul_comm n k)
