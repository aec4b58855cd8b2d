-- Read bytes, written again, are the same bytes. For a table of any columns. Assumes nothing.
use mathlib.Core.Path.{◌≡◌, refl, ap, sym, ◌∙◌}
use mathlib.Core.List.{List, [], ◌∷◌, ◌++◌}
use Prim.Native.Nat.{ℕ, zero, suc, ◌+◌, ◌*◌, ◌≤◌, ◌<◌}
use native.Mathlib.Nat.{add-zero, add_assoc, suc-mul, zero-mul, le_trans, mul-le-mul_right, div-add-mod'}
use native.Mathlib.Omega.{arith}
use lib.ListN.{length, get_or, take, drop, length-drop, get_or-append}
use lib.Seq.{take_at, take_all, take-add, length-take-le, drop-drop, get_or-take, get_or-drop}
use Rattle.std.specs.Prelude.{Ok}
use Rattle.rows.specs.LittleEndian.{to_le_bytes, from_le_bytes}
use Rattle.rows.specs.Rows.{Column, column, row_size, row_bytes, rows_bytes, number_in, numbers_in, filled, lengths, places, read_rows, write_as, write_rows}
use Rattle.rows.proofs.LittleEndian.{Below, to_from_le}
use Rattle.rows.proofs.Accepted.{AllAre, lengths_same, readable, writes, was_read}
use Rattle.rows.proofs.Loops.{length-numbers, number_at}

-- ---- row by row

-- a part of numbers below m
Below-take : (m : ℕ) (xs : List ℕ) (n : ℕ) → 0 < m → Below m xs → Below m (take n xs)
Below-take m xs zero p b i = p
Below-take m [] (suc n) p b i = p
Below-take m (x ∷ xs) (suc n) p b zero = b 0
Below-take m (x ∷ xs) (suc n) p b (suc i) = Below-take m xs n p (λ j. b (suc j)) i

module _ (k : ℕ) (bytes : List ℕ) (b : Below 256 bytes) (n : ℕ) where
  -- a part of the bytes
  part : ℕ → ℕ → List ℕ
  part at w = take w (drop at bytes)

  -- is written as it was read
  part-again : (at w : ℕ) → at + w ≤ length bytes → to_le_bytes w (from_le_bytes (part at w)) ≡ part at w
  unfolding part
  part-again at w h =
      let long : length (part at w) ≡ w = length-take-le w (drop at bytes) (rw (length-drop at bytes) (omega arith)) in
      let low : Below 256 (part at w) = Below-take 256 (drop at bytes) w (omega arith) (λ i. rw (get_or-drop at bytes i 0) (b (at + i))) in
      rw long at (to_from_le (part at w) low)

  part-add : (at w u : ℕ) → part at (w + u) ≡ part at w ++ part (at + w) u
  unfolding part
  part-add at w u = rw (take-add w u (drop at bytes), drop-drop w at bytes) refl

  -- row i of the columns that were read, from byte `at` of the row on
  row_again : (cs : List Column) (at i : ℕ) → i < n → i * k + at + row_size cs ≤ length bytes → row_bytes (filled k at bytes n cs) i ≡ part (i * k + at) (row_size cs)
  unfolding row_size row_bytes number_in filled part
  row_again [] at i l h = refl
  row_again (c ∷ cs) at i l h =
      let w = c.width in
      let number : get_or (numbers_in k at w bytes n ++ drop n c.numbers) i 0 ≡ from_le_bytes (part (i * k + at) w) = get_or-append (numbers_in k at w bytes n) (drop n c.numbers) 0 i (rw (length-numbers k at w bytes n) l) ∙ number_at k at w bytes n i l in
      let rest : row_bytes (filled k (at + w) bytes n cs) i ≡ part (i * k + at + w) (row_size cs) = row_again cs (at + w) i l (omega arith) ∙ ap (λ (m : ℕ). part m (row_size cs)) (sym (add_assoc (i * k) at w)) in
      rw (number, rest, part-again (i * k + at) w (omega arith)) (sym (part-add (i * k + at) w (row_size cs)))

  -- the rows up to row i
  rows_so_far : (t : List Column) (i : ℕ) → row_size t ≡ k → i ≤ n → n * k ≤ length bytes → rows_bytes (filled k 0 bytes n t) i ≡ take (i * k) bytes
  unfolding rows_bytes part
  rows_so_far t zero e l h = rw (zero-mul k) refl
  rows_so_far t (suc i) e l h =
      let fits : i * k + k ≤ length bytes = le_trans (rw (suc-mul i k) at (mul-le-mul_right k l)) h in
      let row : row_bytes (filled k 0 bytes n t) i ≡ part (i * k) k = rw (add-zero (i * k), e) at (row_again t 0 i l (rw (add-zero (i * k), e) fits)) in
      rw (rows_so_far t i e (omega arith) h, row, suc-mul i k) (sym (take-add (i * k) k bytes))

-- ---- the whole

-- the first n numbers of each column
unfoldable pub first : ℕ → List Column → List Column
first n [] = []
first n (c ∷ cs) = column c.width (take n c.numbers) ∷ first n cs

-- the size of a row stays
size_first : (n : ℕ) (t : List Column) → row_size (first n t) ≡ row_size t
unfolding row_size first
size_first n [] = refl
size_first n (c ∷ cs) = rw (size_first n cs) refl

size_filled : (k at : ℕ) (bytes : List ℕ) (n : ℕ) (t : List Column) → row_size (filled k at bytes n t) ≡ row_size t
unfolding row_size filled
size_filled k at bytes n [] = refl
size_filled k at bytes n (c ∷ cs) = rw (size_filled k (at + c.width) bytes n cs) refl

-- n rows are made of the first n numbers
row_first : (n : ℕ) (t : List Column) (i : ℕ) → i < n → row_bytes (first n t) i ≡ row_bytes t i
unfolding row_bytes first
row_first n [] i l = refl
row_first n (c ∷ cs) i l = rw (get_or-take n c.numbers i 0 l, row_first n cs i l) refl

rows_first : (n : ℕ) (t : List Column) (i : ℕ) → i ≤ n → rows_bytes (first n t) i ≡ rows_bytes t i
unfolding rows_bytes
rows_first n t zero l = refl
rows_first n t (suc i) l = rw (rows_first n t i (omega arith), row_first n t i l) refl

-- and the first n numbers of the columns that n rows were read into are n
first-long : (k at : ℕ) (bytes : List ℕ) (n : ℕ) (t : List Column) → AllAre n (lengths (first n (filled k at bytes n t)))
unfolding filled lengths AllAre first
first-long k at bytes n [] = tt
first-long k at bytes n (c ∷ cs) =
    let p = numbers_in k at c.width bytes n in
    (sym (ap length (take_at p (drop n c.numbers) n (length-numbers k at c.width bytes n)) ∙ length-numbers k at c.width bytes n), first-long k (at + c.width) bytes n cs)

-- so they make n rows
places-are : (n : ℕ) (t : List Column) → 0 < row_size t → AllAre n (lengths t) → places (lengths t) ≡ n
unfolding row_size lengths places AllAre
places-are n [] k a = absurd (omega arith)
places-are n (c ∷ cs) k a = sym a.0

-- Bytes that were read into a table, written from it, give the bytes.
pub bytes_again : (t s : List Column) (bytes buffer : List ℕ) (n : ℕ) → 0 < row_size t → Below 256 bytes → read_rows t bytes ≡ (Ok n, s)
    → length bytes ≤ length buffer
    → write_rows (first n s) buffer ≡ (Ok n, bytes ++ drop (length bytes) buffer)
unfolding write_as write_rows
bytes_again t s bytes buffer n k b e l =
    let d = was_read t s bytes n e in
    let a = readable (row_size t) (length bytes) (lengths t) n d.0 in
    let all : n * row_size t ≡ length bytes = rw (a.rows, a.even, add-zero) at (div-add-mod' (length bytes) (row_size t)) in
    let u = filled (row_size t) 0 bytes n t in
    let size : row_size (first n u) ≡ row_size t = size_first n u ∙ size_filled (row_size t) 0 bytes n t in
    let long = first-long (row_size t) 0 bytes n t in
    let rows : places (lengths (first n u)) ≡ n = places-are n (first n u) (rw size k) long in
    let space : places (lengths (first n u)) * row_size t ≤ length buffer = rw (rows, all) l in
    let accepted = writes (row_size t) (length buffer) (lengths (first n u)) n record { paired = lengths_same n (lengths (first n u)) long; space = space; rows = rows } in
    let same : rows_bytes (first n u) n ≡ bytes = rows_first n u n (omega arith) ∙ rows_so_far (row_size t) bytes b n t n refl (omega arith) (omega arith) ∙ take_all (n * row_size t) bytes (omega arith) in
    rw (d.1, size, accepted, size, same, all) refl
