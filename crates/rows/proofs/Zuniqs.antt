-- The zuniqs of rows, one by one. For rows of any size and zuniqs of any width. Assumes nothing.
use mathlib.Core.Path.{◌≡◌, sym}
use mathlib.Core.List.{List}
use Prim.Native.Nat.{ℕ, ◌*◌, ◌/◌, ◌≤◌, ◌<◌}
use native.Mathlib.Nat.{add-zero}
use lib.ListN.{length, get_or, take, drop, get_or-eq_default}
use Rattle.rows.specs.LittleEndian.{from_le_bytes}
use Rattle.rows.specs.Rows.{number_in, zuniqs_of}
use Rattle.rows.proofs.Loops.{length-numbers, number_at}

module _ (k w : ℕ) (bytes : List ℕ) where
  -- There are as many zuniqs as rows.
  pub all_zuniqs : length (zuniqs_of k w bytes) ≡ length bytes / k
  unfolding zuniqs_of
  all_zuniqs = length-numbers k 0 w bytes (length bytes / k)

  -- The zuniq of a row is read from its first bytes; past the last row it is 0.
  pub zuniq_of_row : (i : ℕ) → i < length bytes / k → from_le_bytes (take w (drop (i * k) bytes)) ≡ get_or (zuniqs_of k w bytes) i 0
  unfolding zuniqs_of number_in
  zuniq_of_row i l = sym (rw (add-zero (i * k)) at (number_at k 0 w bytes (length bytes / k) i l))

  pub no_row : (i : ℕ) → length bytes / k ≤ i → 0 ≡ get_or (zuniqs_of k w bytes) i 0
  no_row i l = sym (get_or-eq_default (zuniqs_of k w bytes) 0 (rw all_zuniqs l))
