-- Note 3 of document 02: rows laid out by byte column, and the way back. The row length k is left open, and so is the number of
-- rows n; only what is refused names 8, 12 and 16.
use Rattle.std.specs.Prelude.{Result, Ok, Err, Bool, not, ◌||◌, cond, List, [], ◌∷◌, ◌++◌, ℕ, zero, suc, ◌+◌, ◌*◌, ◌/◌, ◌%◌, eqb, ltb, length, get_or, drop}
use Rattle.refusal.specs.declared.Refusal.{Refusal}

-- ---- the layout

-- n bytes, of which each stands m places behind the one before; the first stands at place j
unfoldable pub every : ℕ → ℕ → List ℕ → ℕ → List ℕ
every m j bytes zero = []
every m j bytes (suc n) = every m j bytes n ++ (get_or bytes (n * m + j) 0 ∷ [])

-- those from place 0 on, then those from place 1 on, and so on for l places: of 1 2 3 4 5 6, m = 3, n = 2 and l = 3: 1 4, 2 5, 3 6
unfoldable pub runs : ℕ → ℕ → List ℕ → ℕ → List ℕ
runs m n bytes zero = []
runs m n bytes (suc l) = runs m n bytes l ++ every m l bytes n

-- "all first bytes stand together, then all second bytes, and so on through the row": column j is every k-th byte from place j on
unfoldable pub by_column : ℕ → ℕ → List ℕ → List ℕ
by_column k n rows = runs k n rows k

-- "and the way back": "Byte j of row i stands at j × rows + i", so row i is every n-th byte from place i on
unfoldable pub by_row : ℕ → ℕ → List ℕ → List ℕ
by_row k n columns = runs n k columns n

-- ---- refusals, by the row length and the lengths of both buffers

-- "Add this layout for 8, 12 and 16 byte rows"
unfoldable pub named : ℕ → Bool
named k = eqb k 8 || (eqb k 12 || eqb k 16)

-- "An uneven length, or a row length not named here, is number 4; an output shorter than the input is 11"; else "the number of rows"
unfoldable pub rows_to_lay : ℕ → ℕ → ℕ → Result ℕ Refusal
rows_to_lay k bytes space =
    cond (not (named k)) (Err Refusal.LengthMismatch)
    (cond (not (eqb (bytes % k) 0)) (Err Refusal.LengthMismatch)
    (cond (ltb space bytes) (Err Refusal.NoSpace)
    (Ok (bytes / k))))

-- ---- the calls: the answer, with what they leave in the output

-- "answers the number of rows and touches nothing past the rows"; after a refusal "all lent memory stays"
unfoldable pub laid : Result ℕ Refusal → (ℕ → List ℕ) → List ℕ → Result ℕ Refusal × List ℕ
laid (Ok n) bytes output = (Ok n, bytes n ++ drop (length (bytes n)) output)
laid (Err r) bytes output = (Err r, output)

-- "It works from one lent buffer into another"
unfoldable pub rows_to_columns : ℕ → List ℕ → List ℕ → Result ℕ Refusal × List ℕ
rows_to_columns k rows output = laid (rows_to_lay k (length rows) (length output)) (λ n. by_column k n rows) output

unfoldable pub columns_to_rows : ℕ → List ℕ → List ℕ → Result ℕ Refusal × List ℕ
columns_to_rows k columns output = laid (rows_to_lay k (length columns) (length output)) (λ n. by_row k n columns) output
