-- "Reading written rows gives every zuniq and every value's bits again, and writing read rows gives the same bytes": of count
-- rows, of density rows, whose values are patterns, and of narrow rows. The laws for tables of any columns are `rows_again` and
-- `bytes_again`. Assumes nothing.
use mathlib.Core.Path.{◌≡◌, refl}
use mathlib.Core.List.{List, [], ◌∷◌, ◌++◌}
use Prim.Native.Nat.{ℕ, ◌*◌, ◌^◌, ◌≤◌}
use native.Mathlib.Omega.{arith}
use lib.ListN.{length, take, drop}
use borrow.Author.Tests.{eq-eqb}
use Rattle.std.specs.Prelude.{Ok}
use Rattle.rows.specs.LittleEndian.{to_le_bytes}
use Rattle.rows.specs.Rows.{count_rows, density_rows, narrow_rows, row_size, row_bytes, rows_bytes, lengths, others_differ, differ, places, read_rows, write_rows}
use Rattle.rows.proofs.LittleEndian.{Below}
use Rattle.rows.proofs.RowsAgain.{widths, Fit, over, rows_again}
use Rattle.rows.proofs.BytesAgain.{first, bytes_again}

-- The zuniq 1 with the count 258 as a row.
one_row : rows_bytes (count_rows (1 ∷ []) (258 ∷ [])) 1 ≡ 1 ∷ 0 ∷ 0 ∷ 0 ∷ 0 ∷ 0 ∷ 0 ∷ 0 ∷ 2 ∷ 1 ∷ 0 ∷ 0 ∷ []
unfolding to_le_bytes row_bytes rows_bytes
one_row = refl

-- The narrow zuniq 1 with the count 258 as a row.
one_narrow_row : rows_bytes (narrow_rows (1 ∷ []) (258 ∷ [])) 1 ≡ 1 ∷ 0 ∷ 0 ∷ 0 ∷ 2 ∷ 1 ∷ 0 ∷ 0 ∷ []
unfolding to_le_bytes row_bytes rows_bytes
one_narrow_row = refl

-- Reading written count rows gives every zuniq and every count again, and leaves the places past them.
pub count_rows-again : (zuniqs counts buffer out : List ℕ) (n : ℕ) → Below (2 ^ 64) zuniqs → Below (2 ^ 32) counts → write_rows (count_rows zuniqs counts) buffer ≡ (Ok n, out)
    → (zuniqs' counts' : List ℕ) → length zuniqs' ≡ length counts' → n ≤ length zuniqs'
    → read_rows (count_rows zuniqs' counts') (take (n * 12) out) ≡ (Ok n, count_rows (zuniqs ++ drop n zuniqs') (counts ++ drop n counts'))
unfolding row_size lengths others_differ differ places widths Fit over
count_rows-again zs cs buffer out n z c e zs' cs' q l =
    rows_again (count_rows zs cs) (count_rows zs' cs') buffer out n (omega arith) (z, (c, tt)) e refl (rw (eq-eqb _ _ q) refl) l

-- Reading written density rows gives every zuniq and every pattern again.
pub density_rows-again : (zuniqs patterns buffer out : List ℕ) (n : ℕ) → Below (2 ^ 64) zuniqs → Below (2 ^ 64) patterns → write_rows (density_rows zuniqs patterns) buffer ≡ (Ok n, out)
    → (zuniqs' patterns' : List ℕ) → length zuniqs' ≡ length patterns' → n ≤ length zuniqs'
    → read_rows (density_rows zuniqs' patterns') (take (n * 16) out) ≡ (Ok n, density_rows (zuniqs ++ drop n zuniqs') (patterns ++ drop n patterns'))
unfolding row_size lengths others_differ differ places widths Fit over
density_rows-again zs ps buffer out n z p e zs' ps' q l =
    rows_again (density_rows zs ps) (density_rows zs' ps') buffer out n (omega arith) (z, (p, tt)) e refl (rw (eq-eqb _ _ q) refl) l

-- Reading written narrow rows gives every zuniq and every count again.
pub narrow_rows-again : (zuniqs counts buffer out : List ℕ) (n : ℕ) → Below (2 ^ 32) zuniqs → Below (2 ^ 32) counts → write_rows (narrow_rows zuniqs counts) buffer ≡ (Ok n, out)
    → (zuniqs' counts' : List ℕ) → length zuniqs' ≡ length counts' → n ≤ length zuniqs'
    → read_rows (narrow_rows zuniqs' counts') (take (n * 8) out) ≡ (Ok n, narrow_rows (zuniqs ++ drop n zuniqs') (counts ++ drop n counts'))
unfolding row_size lengths others_differ differ places widths Fit over
narrow_rows-again zs cs buffer out n z c e zs' cs' q l =
    rows_again (narrow_rows zs cs) (narrow_rows zs' cs') buffer out n (omega arith) (z, (c, tt)) e refl (rw (eq-eqb _ _ q) refl) l

-- Writing read count rows gives the same bytes, and leaves the bytes past them.
pub count_bytes_again : (zuniqs counts bytes buffer zuniqs' counts' : List ℕ) (n : ℕ) → Below 256 bytes → read_rows (count_rows zuniqs counts) bytes ≡ (Ok n, count_rows zuniqs' counts')
    → length bytes ≤ length buffer
    → write_rows (count_rows (take n zuniqs') (take n counts')) buffer ≡ (Ok n, bytes ++ drop (length bytes) buffer)
unfolding row_size first
count_bytes_again zs cs bytes buffer zs' cs' n b e l = bytes_again (count_rows zs cs) (count_rows zs' cs') bytes buffer n (omega arith) b e l

-- Writing read density rows gives the same bytes.
pub density_bytes_again : (zuniqs patterns bytes buffer zuniqs' patterns' : List ℕ) (n : ℕ) → Below 256 bytes → read_rows (density_rows zuniqs patterns) bytes ≡ (Ok n, density_rows zuniqs' patterns')
    → length bytes ≤ length buffer
    → write_rows (density_rows (take n zuniqs') (take n patterns')) buffer ≡ (Ok n, bytes ++ drop (length bytes) buffer)
unfolding row_size first
density_bytes_again zs ps bytes buffer zs' ps' n b e l = bytes_again (density_rows zs ps) (density_rows zs' ps') bytes buffer n (omega arith) b e l

-- Writing read narrow rows gives the same bytes.
pub narrow_bytes_again : (zuniqs counts bytes buffer zuniqs' counts' : List ℕ) (n : ℕ) → Below 256 bytes → read_rows (narrow_rows zuniqs counts) bytes ≡ (Ok n, narrow_rows zuniqs' counts')
    → length bytes ≤ length buffer
    → write_rows (narrow_rows (take n zuniqs') (take n counts')) buffer ≡ (Ok n, bytes ++ drop (length bytes) buffer)
unfolding row_size first
narrow_bytes_again zs cs bytes buffer zs' cs' n b e l = bytes_again (narrow_rows zs cs) (narrow_rows zs' cs') bytes buffer n (omega arith) b e l
