-- The loops over rows, for columns of any widths: what a turn does, and what is accepted. One reads a column, the other writes
-- rows of two columns. Assumes nothing.
use mathlib.Core.Path.{◌≡◌, refl, ap, sym, ◌∙◌}
use mathlib.Core.List.{List, [], ◌∷◌, ◌++◌, append_assoc, append-nil}
use mathlib.Core.Logic.{◌⊎◌, inl, inr}
use Prim.Native.Nat.{ℕ, zero, suc, ◌+◌, ◌*◌, ◌≤◌, ◌<◌}
use native.Mathlib.Nat.{add-zero, zero-add, zero-mul, suc-mul, mul-le-mul_right, le_of_suc-le-suc, eq-or-lt_of_le}
use native.Mathlib.Numerals.{add-one}
use native.Mathlib.Omega.{arith}
use lib.ListN.{length, get_or, drop, set, length-append, length-drop, get_or-append}
use lib.Seq.{drop-cons, append_snoc, drop-drop, set_at, get_or_at}
use Rattle.std.specs.Prelude.{Ok, Err}
use Rattle.refusal.specs.declared.Refusal.{Refusal}
use Rattle.rows.specs.LittleEndian.{to_le_bytes, put}
use Rattle.rows.specs.Rows.{Column, table, row_size, row_bytes, rows_bytes, number_in, numbers_in, filled, lengths, rows_to_read, rows_to_write, read_as, read_rows, write_as, write_rows}
use Rattle.rows.proofs.LittleEndian.{length-to_le}
use Rattle.rows.proofs.Put.{put-behind, put-put}

-- ---- one row more

-- n rows have n numbers in a column.
pub length-numbers : (k at w : ℕ) (bytes : List ℕ) (n : ℕ) → length (numbers_in k at w bytes n) ≡ n
unfolding numbers_in
length-numbers k at w bytes zero = refl
length-numbers k at w bytes (suc n) = simp (length-append, length-numbers k at w bytes n, add-one)

-- The number of row i is that which was read from it.
pub number_at : (k at w : ℕ) (bytes : List ℕ) (n i : ℕ) → i < n → get_or (numbers_in k at w bytes n) i 0 ≡ number_in k at w bytes i
unfolding numbers_in
number_at k at w bytes zero i h = absurd (omega arith)
number_at k at w bytes (suc n) i h = go (eq-or-lt_of_le (le_of_suc-le-suc h)) (number_at k at w bytes n i)
  where
    go : (i ≡ n) ⊎ (i < n) → (i < n → get_or (numbers_in k at w bytes n) i 0 ≡ number_in k at w bytes i)
        → get_or (numbers_in k at w bytes n ++ (number_in k at w bytes n ∷ [])) i 0 ≡ number_in k at w bytes i
    go (inl e) before = rw e (get_or_at (numbers_in k at w bytes n) (number_in k at w bytes n) [] 0 n (length-numbers k at w bytes n))
    go (inr l) before = get_or-append (numbers_in k at w bytes n) (number_in k at w bytes n ∷ []) 0 i (rw (length-numbers k at w bytes n) l) ∙ before l

-- Storing the number of row i behind those before it reads one row more.
pub store_next : (k at w : ℕ) (bytes xs : List ℕ) (i : ℕ) → i < length xs
    → set (numbers_in k at w bytes i ++ drop i xs) i (number_in k at w bytes i) ≡ numbers_in k at w bytes (i + 1) ++ drop (i + 1) xs
unfolding numbers_in
store_next k at w bytes xs i h =
    let p = numbers_in k at w bytes i in
    let x = number_in k at w bytes i in
    ap (λ (q : List ℕ). set (p ++ q) i x) (drop-cons xs i 0 h)
    ∙ set_at p (get_or xs i 0) (drop (suc i) xs) x i (length-numbers k at w bytes i)
    ∙ sym (append_snoc p x (drop (suc i) xs))
    ∙ ap (λ (m : ℕ). numbers_in k at w bytes m ++ drop m xs) (sym (add-one i))

-- A row takes its size in bytes, and n rows n times that.
pub length-row : (t : List Column) (i : ℕ) → length (row_bytes t i) ≡ row_size t
unfolding row_bytes row_size
length-row [] i = refl
length-row (c ∷ cs) i = simp (length-append, length-to_le, length-row cs i)

pub length-rows : (t : List Column) (n : ℕ) → length (rows_bytes t n) ≡ n * row_size t
unfolding rows_bytes
length-rows t zero = sym (zero-mul (row_size t))
length-rows t (suc n) = simp (length-append, length-rows t n, length-row t n, suc-mul)

-- Putting row i behind those before it writes one row more.
pub put_next : (t : List Column) (buffer : List ℕ) (i : ℕ)
    → put (i * row_size t) (row_bytes t i) (rows_bytes t i ++ drop (i * row_size t) buffer) ≡ rows_bytes t (i + 1) ++ drop ((i + 1) * row_size t) buffer
unfolding rows_bytes
put_next t buffer i =
    put-behind (rows_bytes t i) (drop (i * row_size t) buffer) (row_bytes t i) (i * row_size t) (length-rows t i)
    ∙ simp (length-row, drop-drop, add-one, suc-mul, append_assoc)

pair_size : (w u : ℕ) (zs vs : List ℕ) → row_size (table w u zs vs) ≡ w + u
unfolding row_size
pair_size w u zs vs = rw (add-zero u) refl

-- Two columns take as many bytes as both.
table_size : (w u : ℕ) (zs vs : List ℕ) → row_size (table w u zs vs) ≡ w + u
unfolding row_size
table_size w u zs vs = rw (add-zero u) refl

-- ---- reading

-- Numbers that are read stand inside the bytes.
pub row_inside : (k at w n i long : ℕ) → i < n → n * k ≤ long → at + w ≤ k → i * k + at + w ≤ long
row_inside k at w n i long l h b = let next : i * k + k ≤ n * k = rw (suc-mul i k) at (mul-le-mul_right k l) in omega arith

module _ (w u : ℕ) (bytes zs vs : List ℕ) {k p q : ℕ} (size : k ≡ w + u) (first : length zs ≡ p) (second : length vs ≡ q) where
  -- An accepted reading of two columns,
  pub table_read : (n : ℕ) → rows_to_read k (length bytes) (p ∷ q ∷ []) ≡ Ok n
      → (Ok n, table w u (numbers_in k 0 w bytes n ++ drop n zs) (numbers_in k w u bytes n ++ drop n vs)) ≡ read_rows (table w u zs vs) bytes
  unfolding row_size lengths filled read_as read_rows
  table_read n e = simp (add-zero, zero-add, size, first, second, rw size at e)

  -- one that is refused, which leaves the columns,
  pub table_not_read : (r : Refusal) → rows_to_read k (length bytes) (p ∷ q ∷ []) ≡ Err r → (Err r, table w u zs vs) ≡ read_rows (table w u zs vs) bytes
  unfolding row_size lengths read_as read_rows
  table_not_read r e = simp (add-zero, first, second, rw size at e)

  -- and the same of writing.
  pub table_written : (n : ℕ) → rows_to_write k (length bytes) (p ∷ q ∷ []) ≡ Ok n
      → (Ok n, rows_bytes (table w u zs vs) n ++ drop (n * (w + u)) bytes) ≡ write_rows (table w u zs vs) bytes
  unfolding row_size lengths write_as write_rows
  table_written n e = simp (add-zero, first, second, rw size at e)

  pub table_not_written : (r : Refusal) → rows_to_write k (length bytes) (p ∷ q ∷ []) ≡ Err r → (Err r, bytes) ≡ write_rows (table w u zs vs) bytes
  unfolding row_size lengths write_as write_rows
  table_not_written r e = simp (add-zero, first, second, rw size at e)

-- ---- writing

module _ (w u : ℕ) (zs vs bytes : List ℕ) where
  -- the bytes with the first i rows put into them
  unfoldable pub with_rows : ℕ → List ℕ
  with_rows i = rows_bytes (table w u zs vs) i ++ drop (i * (w + u)) bytes

  pub with_no_rows : bytes ≡ with_rows 0
  unfolding rows_bytes with_rows
  with_no_rows = rw (zero-mul (w + u)) refl

  -- Rows that have space leave the length,
  pub length-with_rows : (i : ℕ) → i * (w + u) ≤ length bytes → length (with_rows i) ≡ length bytes
  unfolding with_rows
  length-with_rows i h = simp (length-append, length-rows, table_size, length-drop) (omega arith)

  -- and the next one is put number by number.
  pub with_next_row : (i : ℕ) → i * (w + u) ≤ length bytes
      → put (i * (w + u) + w) (to_le_bytes u (get_or vs i 0)) (put (i * (w + u)) (to_le_bytes w (get_or zs i 0)) (with_rows i)) ≡ with_rows (i + 1)
  unfolding row_bytes with_rows
  with_next_row i h =
      let at = i * (w + u) in
      let z = to_le_bytes w (get_or zs i 0) in
      let v = to_le_bytes u (get_or vs i 0) in
      ap (λ (k : ℕ). put (at + k) v (put at z (with_rows i))) (sym (length-to_le w (get_or zs i 0)))
      ∙ put-put at z (with_rows i) (rw (length-with_rows i h) h) v
      ∙ ap (λ (bs : List ℕ). put at (z ++ bs) (with_rows i)) (sym (append-nil v))
      ∙ rw (table_size w u zs vs) at (put_next (table w u zs vs) bytes i)
