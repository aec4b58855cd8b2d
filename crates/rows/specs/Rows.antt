-- Section 7 of the scope: rows. A table is its columns; row i is the numbers at place i of all columns, one behind the
-- other. The row size, and how many columns there are, is left open: count rows, density rows and narrow rows are three tables.
use Rattle.std.specs.Prelude.{Result, Ok, Err, Bool, false, not, ◌||◌, cond, List, [], ◌∷◌, ◌++◌, ℕ, zero, suc, ◌+◌, ◌*◌, ◌/◌, ◌%◌, eqb, ltb, length, get_or, take, drop}
use Rattle.refusal.specs.declared.Refusal.{Refusal}
use Rattle.rows.specs.LittleEndian.{to_le_bytes, from_le_bytes}

-- the numbers of a column, and how many bytes each takes in a row
pub record Column : Type 0 where
  pub width : ℕ
  pub numbers : List ℕ

abbrev pub column : ℕ → List ℕ → Column
column w xs = record { width = w; numbers = xs }

-- rows of two columns: zuniqs of w bytes, and values of u
abbrev pub table : ℕ → ℕ → List ℕ → List ℕ → List Column
table w u zuniqs values = column w zuniqs ∷ column u values ∷ []

-- "u64 zuniq, then u32 count [..], little-endian, 12 [..] bytes"
abbrev pub count_rows : List ℕ → List ℕ → List Column
count_rows zuniqs counts = column 8 zuniqs ∷ column 4 counts ∷ []

-- "u64 zuniq, then [..] f64 density, little-endian, [..] 16 bytes": a density is its 64-bit pattern
abbrev pub density_rows : List ℕ → List ℕ → List Column
density_rows zuniqs patterns = column 8 zuniqs ∷ column 8 patterns ∷ []

-- Note 2 of document 02, of narrow count maps: "rows of 8 bytes", u32 zuniq, then u32 count
abbrev pub narrow_rows : List ℕ → List ℕ → List Column
narrow_rows zuniqs counts = column 4 zuniqs ∷ column 4 counts ∷ []

-- the bytes that a row takes
unfoldable pub row_size : List Column → ℕ
row_size [] = 0
row_size (c ∷ cs) = c.width + row_size cs

-- ---- writing

-- row i in bytes: the zuniq 1 with the count 258 is 1 0 0 0 0 0 0 0, 2 1 0 0
unfoldable pub row_bytes : List Column → ℕ → List ℕ
row_bytes [] i = []
row_bytes (c ∷ cs) i = to_le_bytes c.width (get_or c.numbers i 0) ++ row_bytes cs i

-- the first n rows in bytes
unfoldable pub rows_bytes : List Column → ℕ → List ℕ
rows_bytes t zero = []
rows_bytes t (suc n) = rows_bytes t n ++ row_bytes t n

-- ---- reading

-- in rows of k bytes: the number in the w bytes from byte `at` of row i on
unfoldable pub number_in : ℕ → ℕ → ℕ → List ℕ → ℕ → ℕ
number_in k at w bytes i = from_le_bytes (take w (drop (i * k + at) bytes))

-- these numbers of the first n rows
unfoldable pub numbers_in : ℕ → ℕ → ℕ → List ℕ → ℕ → List ℕ
numbers_in k at w bytes zero = []
numbers_in k at w bytes (suc n) = numbers_in k at w bytes n ++ (number_in k at w bytes n ∷ [])

-- "places past those written stay": the columns, from byte `at` of the row on, once n rows are read into them
unfoldable pub filled : ℕ → ℕ → List ℕ → ℕ → List Column → List Column
filled k at bytes n [] = []
filled k at bytes n (c ∷ cs) = column c.width (numbers_in k at c.width bytes n ++ drop n c.numbers) ∷ filled k (at + c.width) bytes n cs

-- the zuniqs of rows of k bytes, all of them, each in the first w bytes of its row: of count rows by 12 and 8, of narrow rows by
-- 8 and 4
unfoldable pub zuniqs_of : ℕ → ℕ → List ℕ → List ℕ
zuniqs_of k w bytes = numbers_in k 0 w bytes (length bytes / k)

-- ---- refusals, by the lengths of the columns alone

-- how long the columns are
unfoldable pub lengths : List Column → List ℕ
lengths [] = []
lengths (c ∷ cs) = length c.numbers ∷ lengths cs

-- "Paired buffers differ in length" (4): one is not as long as the first
unfoldable pub others_differ : ℕ → List ℕ → Bool
others_differ n [] = false
others_differ n (m ∷ ms) = not (eqb n m) || others_differ n ms

unfoldable pub differ : List ℕ → Bool
differ [] = false
differ (n ∷ ms) = others_differ n ms

-- the places of paired buffers
unfoldable pub places : List ℕ → ℕ
places [] = 0
places (n ∷ ms) = n

-- reading, from so many bytes: "row bytes to be read don't divide evenly" (4), "The output has fewer places than [..] rows" (11)
unfoldable pub rows_to_read : ℕ → ℕ → List ℕ → Result ℕ Refusal
rows_to_read k bytes ls =
    cond (differ ls) (Err Refusal.LengthMismatch)
    (cond (not (eqb (bytes % k) 0)) (Err Refusal.LengthMismatch)
    (cond (ltb (places ls) (bytes / k)) (Err Refusal.NoSpace)
    (Ok (bytes / k))))

-- writing, into so many bytes: "The output has fewer places than [..] rows (in bytes, rows × row size)" (11)
unfoldable pub rows_to_write : ℕ → ℕ → List ℕ → Result ℕ Refusal
rows_to_write k bytes ls =
    cond (differ ls) (Err Refusal.LengthMismatch)
    (cond (ltb bytes (places ls * k)) (Err Refusal.NoSpace)
    (Ok (places ls)))

-- ---- the calls: the answer, with what they leave in the lent buffers

-- "Both row calls answer the number of rows"; after a refusal "all lent memory stays"
unfoldable pub read_as : Result ℕ Refusal → List Column → List ℕ → Result ℕ Refusal × List Column
read_as (Ok n) t bytes = (Ok n, filled (row_size t) 0 bytes n t)
read_as (Err r) t bytes = (Err r, t)

unfoldable pub read_rows : List Column → List ℕ → Result ℕ Refusal × List Column
read_rows t bytes = read_as (rows_to_read (row_size t) (length bytes) (lengths t)) t bytes

-- the same for writing: the bytes past the rows stay
unfoldable pub write_as : Result ℕ Refusal → List Column → List ℕ → Result ℕ Refusal × List ℕ
write_as (Ok n) t bytes = (Ok n, rows_bytes t n ++ drop (n * row_size t) bytes)
write_as (Err r) t bytes = (Err r, bytes)

unfoldable pub write_rows : List Column → List ℕ → Result ℕ Refusal × List ℕ
write_rows t bytes = write_as (rows_to_write (row_size t) (length bytes) (lengths t)) t bytes
