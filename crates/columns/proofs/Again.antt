-- "Each direction undoes the other", of the two calls: what one wrote, handed to the other, gives back what the first was given. The
-- laws of the layouts, for rows of any length, are `rows_again` and `columns_again`. Assumes nothing.
use mathlib.Core.Path.{◌≡◌, refl, ap, sym, ◌∙◌}
use mathlib.Core.List.{List, [], ◌∷◌, ◌++◌}
use Prim.Native.Nat.{ℕ, ◌*◌, ◌≤◌}
use lib.ListN.{length, take, drop}
use lib.Seq.{take_at}
use borrow.Author.Tests.{le-ltb}
use Rattle.std.specs.Prelude.{Result, Ok, Err}
use Rattle.refusal.specs.declared.Refusal.{Refusal}
use Rattle.rows.proofs.Accepted.{refused}
use Rattle.columns.specs.Columns.{every, runs, by_column, by_row, rows_to_lay, laid, rows_to_columns, columns_to_rows}
use Rattle.columns.proofs.Layouts.{length-by_column, length-by_row, rows_again, columns_again}
use Rattle.columns.proofs.Laid.{accepted}

-- Two rows of three bytes: all first bytes, then all second, then all third.
two_rows : by_column 3 2 (1 ∷ 2 ∷ 3 ∷ 4 ∷ 5 ∷ 6 ∷ []) ≡ 1 ∷ 4 ∷ 2 ∷ 5 ∷ 3 ∷ 6 ∷ []
unfolding every runs by_column
two_rows = refl

-- and back
two_rows_again : by_row 3 2 (1 ∷ 4 ∷ 2 ∷ 5 ∷ 3 ∷ 6 ∷ []) ≡ 1 ∷ 2 ∷ 3 ∷ 4 ∷ 5 ∷ 6 ∷ []
unfolding every runs by_row
two_rows_again = refl

-- What was accepted is accepted wherever there is room for it.
more_room : (k bytes space space' n : ℕ) → rows_to_lay k bytes space ≡ Ok n → bytes ≤ space' → rows_to_lay k bytes space' ≡ Ok n
unfolding rows_to_lay
more_room k bytes space space' n e h = rw (le-ltb space' bytes h) (rw (le-ltb space bytes (accepted k bytes space n e).room) at e)

-- An accepted call put its bytes in front of the output.
was_laid : (a : Result ℕ Refusal) (n : ℕ) (bytes : ℕ → List ℕ) (output out : List ℕ) → laid a bytes output ≡ (Ok n, out) → (a ≡ Ok n) × (out ≡ bytes n ++ drop (length (bytes n)) output)
unfolding laid
was_laid (Ok m) n bytes output out e =
    let a : Ok m ≡ Ok n = ap (λ (p : Result ℕ Refusal × List ℕ). p.0) e in
    let q : m ≡ n = cc in
    (a, rw q at (sym (ap (λ (p : Result ℕ Refusal × List ℕ). p.1) e)))
was_laid (Err r) n bytes output out e = absurd (refused r n (ap (λ (p : Result ℕ Refusal × List ℕ). p.0) e))

-- Two calls, of which the second undoes the first.
call_again : (k : ℕ) (there back : ℕ → List ℕ → List ℕ) (bytes output out output' : List ℕ) (n : ℕ)
    → (n * k ≡ length bytes → length (there n bytes) ≡ length bytes) → (n * k ≡ length bytes → back n (there n bytes) ≡ bytes)
    → laid (rows_to_lay k (length bytes) (length output)) (λ m. there m bytes) output ≡ (Ok n, out) → length bytes ≤ length output'
    → laid (rows_to_lay k (length (take (length bytes) out)) (length output')) (λ m. back m (take (length bytes) out)) output' ≡ (Ok n, bytes ++ drop (length bytes) output')
unfolding laid
call_again k there back bytes output out output' n long again e h =
    let w = was_laid (rows_to_lay k (length bytes) (length output)) n (λ m. there m bytes) output out e in
    let whole = (accepted k (length bytes) (length output) n w.0).whole in
    let front : take (length bytes) out ≡ there n bytes = ap (take (length bytes)) w.1 ∙ take_at (there n bytes) (drop (length (there n bytes)) output) (length bytes) (long whole) in
    rw (front, long whole, more_room k (length bytes) (length output) (length output') n w.0 h, again whole) refl

module _ (k : ℕ) (bytes output out output' : List ℕ) (n : ℕ) where
  -- Rows that a call laid out by column, another call takes back; the bytes past them stay.
  pub columns_and_back : rows_to_columns k bytes output ≡ (Ok n, out) → length bytes ≤ length output'
      → columns_to_rows k (take (length bytes) out) output' ≡ (Ok n, bytes ++ drop (length bytes) output')
  unfolding rows_to_columns columns_to_rows
  columns_and_back = call_again k (by_column k) (by_row k) bytes output out output' n (λ e. length-by_column k n bytes ∙ e) (λ e. rows_again k n bytes (sym e))

  -- Columns that a call took back to rows, another call lays out again.
  pub rows_and_back : columns_to_rows k bytes output ≡ (Ok n, out) → length bytes ≤ length output'
      → rows_to_columns k (take (length bytes) out) output' ≡ (Ok n, bytes ++ drop (length bytes) output')
  unfolding rows_to_columns columns_to_rows
  rows_and_back = call_again k (by_row k) (by_column k) bytes output out output' n (λ e. length-by_row k n bytes ∙ e) (λ e. columns_again k n bytes (sym e))
