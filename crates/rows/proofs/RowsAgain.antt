-- Written rows, read again, give every number of every column. For a table of any columns. Assumes nothing.
use mathlib.Core.Path.{◌≡◌, refl, ap, sym, ◌∙◌}
use mathlib.Core.Bool.{false}
use mathlib.Core.List.{List, [], ◌∷◌, ◌++◌, append_assoc, append-nil}
use Prim.{Unit}
use Prim.Native.Nat.{ℕ, zero, suc, ◌+◌, ◌*◌, ◌/◌, ◌^◌, ◌≤◌, ◌<◌}
use native.Mathlib.Nat.{add-zero, zero-add, add_assoc, mul-div_cancel, mul-mod_left}
use native.Mathlib.Omega.{arith}
use lib.ListN.{length, get_or, take, drop}
use lib.Seq.{take_at, take_all, take-suc, drop_at, drop-append-add, append_snoc}
use Rattle.std.specs.Prelude.{Ok}
use Rattle.rows.specs.LittleEndian.{to_le_bytes}
use Rattle.rows.specs.Rows.{Column, column, row_size, row_bytes, rows_bytes, number_in, numbers_in, filled, lengths, differ, places, rows_to_read, read_as, read_rows, write_rows}
use Rattle.rows.proofs.LittleEndian.{Below, length-to_le, from_to_le}
use Rattle.rows.proofs.Accepted.{AllAre, same_lengths, reads, writable, written}
use Rattle.rows.proofs.Loops.{length-row, length-rows}

-- ---- one column

-- sizes add up, and the bytes of a row stand one behind the other
size_append : (a b : List Column) → row_size (a ++ b) ≡ row_size a + row_size b
unfolding row_size
size_append [] b = sym (zero-add (row_size b))
size_append (c ∷ a) b = rw (size_append a b) (sym (add_assoc c.width (row_size a) (row_size b)))

row_append : (a b : List Column) (i : ℕ) → row_bytes (a ++ b) i ≡ row_bytes a i ++ row_bytes b i
unfolding row_bytes
row_append [] b i = refl
row_append (c ∷ a) b i = rw (row_append a b i) (sym (append_assoc (to_le_bytes c.width (get_or c.numbers i 0)) (row_bytes a i) (row_bytes b i)))

module _ (front : List Column) (c : Column) (back : List Column) where
  -- the table, and the bytes of its column c in row i
  abbrev table : List Column
  table = front ++ c ∷ back

  abbrev field : ℕ → List ℕ
  field i = to_le_bytes c.width (get_or c.numbers i 0)

  -- they stand behind those of the columns in front
  in_row : (rest : List ℕ) (i : ℕ) → drop (row_size front) (row_bytes table i ++ rest) ≡ field i ++ (row_bytes back i ++ rest)
  unfolding row_bytes
  in_row rest i =
      ap (λ (r : List ℕ). drop (row_size front) (r ++ rest)) (row_append front (c ∷ back) i)
      ∙ simp append_assoc (drop_at (row_bytes front i) (field i ++ (row_bytes back i ++ rest)) (row_size front) (length-row front i))

  -- so the number is read from them
  number_again : (rest : List ℕ) (i : ℕ) → Below (256 ^ c.width) c.numbers
      → number_in (row_size table) (row_size front) c.width (rows_bytes table i ++ (row_bytes table i ++ rest)) i ≡ get_or c.numbers i 0
  unfolding number_in
  number_again rest i b =
      let skip : drop (i * row_size table + row_size front) (rows_bytes table i ++ (row_bytes table i ++ rest)) ≡ drop (row_size front) (row_bytes table i ++ rest) = rw (← length-rows table i) (drop-append-add (rows_bytes table i) (row_bytes table i ++ rest) (row_size front)) in
      rw (skip, in_row rest i, take_at (field i) (row_bytes back i ++ rest) c.width (length-to_le c.width (get_or c.numbers i 0))) (from_to_le c.width (get_or c.numbers i 0) (b i))

  -- In written rows stand the numbers of each column.
  pub numbers_again : (rest : List ℕ) (n : ℕ) → n ≤ length c.numbers → Below (256 ^ c.width) c.numbers
      → numbers_in (row_size table) (row_size front) c.width (rows_bytes table n ++ rest) n ≡ take n c.numbers
  unfolding rows_bytes numbers_in
  numbers_again rest zero l b = refl
  numbers_again rest (suc n) l b =
      ap (λ (bytes : List ℕ). numbers_in (row_size table) (row_size front) c.width bytes (suc n)) (append_assoc (rows_bytes table n) (row_bytes table n) rest)
      ∙ rw (numbers_again (row_bytes table n ++ rest) n (omega arith) b, number_again rest n b) (sym (take-suc c.numbers n 0 l))

  -- all of a column
  column_again : (n : ℕ) → length c.numbers ≡ n → Below (256 ^ c.width) c.numbers → numbers_in (row_size table) (row_size front) c.width (rows_bytes table n) n ≡ c.numbers
  column_again n l b = rw append-nil at (numbers_again [] n (omega arith) b) ∙ take_all n c.numbers (omega arith)

-- ---- all columns

unfoldable pub widths : List Column → List ℕ
widths [] = []
widths (c ∷ cs) = c.width ∷ widths cs

-- every number is one of its column's width
unfoldable pub Fit : List Column → Type 0
Fit [] = Unit {0}
Fit (c ∷ cs) = Below (256 ^ c.width) c.numbers × Fit cs

-- the numbers of t in the first n places, those of s behind them
unfoldable pub over : ℕ → List Column → List Column → List Column
over n [] s = []
over n (c ∷ t) [] = []
over n (c ∷ t) (d ∷ s) = column c.width (c.numbers ++ drop n d.numbers) ∷ over n t s

-- One column after the other; those in front are done.
columns_again : (t front back s : List Column) (n : ℕ) → t ≡ front ++ back → AllAre n (lengths back) → Fit back → widths s ≡ widths back
    → filled (row_size t) (row_size front) (rows_bytes t n) n s ≡ over n back s
unfolding row_size filled lengths AllAre widths Fit over
columns_again t front [] [] n e l f w = refl
columns_again t front [] (d ∷ s) n e l f w = absurd (let z : ◌≡◌ {A = ℕ} 0 1 = cc in omega arith)
columns_again t front (c ∷ back) [] n e l f w = absurd (let z : ◌≡◌ {A = ℕ} 0 1 = cc in omega arith)
columns_again t front (c ∷ back) (d ∷ s) n e l f w =
    let same : d.width ≡ c.width = cc in
    let more : widths s ≡ widths back = cc in
    let next : t ≡ (front ++ (c ∷ [])) ++ back = e ∙ sym (append_snoc front c back) in
    let size : row_size front + c.width ≡ row_size (front ++ (c ∷ [])) = sym (size_append front (c ∷ []) ∙ ap (λ (m : ℕ). row_size front + m) (add-zero c.width)) in
    let here : numbers_in (row_size t) (row_size front) c.width (rows_bytes t n) n ≡ c.numbers = rw e (column_again front c back n (sym l.0) f.0) in
    rw (same, here, size, columns_again t (front ++ (c ∷ [])) back s n next l.1 f.1 more) refl

-- the size of a row goes by the widths alone
size_of_widths : (s t : List Column) → widths s ≡ widths t → row_size s ≡ row_size t
unfolding row_size widths
size_of_widths [] [] e = refl
size_of_widths [] (c ∷ t) e = absurd (let z : ◌≡◌ {A = ℕ} 0 1 = cc in omega arith)
size_of_widths (d ∷ s) [] e = absurd (let z : ◌≡◌ {A = ℕ} 0 1 = cc in omega arith)
size_of_widths (d ∷ s) (c ∷ t) e =
    let same : d.width ≡ c.width = cc in
    let more : widths s ≡ widths t = cc in
    rw (same, size_of_widths s t more) refl

-- Rows of a table, read into columns of the same widths, give the numbers of the table.
pub rows_again : (t s : List Column) (buffer out : List ℕ) (n : ℕ) → 0 < row_size t → Fit t → write_rows t buffer ≡ (Ok n, out)
    → widths s ≡ widths t → differ (lengths s) ≡ false → n ≤ places (lengths s)
    → read_rows s (take (n * row_size t) out) ≡ (Ok n, over n t s)
unfolding row_size read_as read_rows
rows_again t s buffer out n k f e w p l =
    let d = written t buffer out n e in
    let a = writable (row_size t) (length buffer) (lengths t) n d.0 in
    let bytes : take (n * row_size t) out ≡ rows_bytes t n = ap (take (n * row_size t)) d.1 ∙ take_at (rows_bytes t n) (drop (n * row_size t) buffer) (n * row_size t) (length-rows t n) in
    let all : n * row_size t / row_size t ≡ n = mul-div_cancel n k in
    let accepted : rows_to_read (row_size t) (n * row_size t) (lengths s) ≡ Ok n = reads (row_size t) (n * row_size t) (lengths s) n record { paired = p; even = mul-mod_left n (row_size t); space = omega arith; rows = all } in
    rw (bytes, size_of_widths s t w, length-rows t n, accepted, size_of_widths s t w, columns_again t [] t s n refl (same_lengths n (lengths t) a.paired a.rows) f w) refl
