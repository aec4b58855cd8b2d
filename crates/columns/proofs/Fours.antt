-- Four columns of a block, from its first byte on: the places of both layouts, and what was moved. Assumes nothing.
use mathlib.Core.Path.{◌≡◌, ap}
use mathlib.Core.List.{List}
use Prim.Native.Nat.{ℕ, ◌+◌, ◌*◌, ◌-◌, ◌<◌}
use native.Mathlib.Nat.{add-mul}
use native.Mathlib.Omega.{arith}
use lib.ListN.{get_or}
use Rattle.columns.specs.Turning.{in_rows, in_columns, Inside, Part, Put, Turned}
use Rattle.columns.proofs.Moves.{counted_from}

-- A place i rows and j columns further.
rows_apart : (k r c i j : ℕ) → in_rows k (r + i) (c + j) ≡ r * k + c + i * k + j
rows_apart k r c i j = rw (add-mul r i k) (omega arith)

columns_apart : (n r c i j : ℕ) → in_columns n (r + i) (c + j) ≡ c * n + r + i + j * n
columns_apart n r c i j = rw (add-mul c j n) (omega arith)

module _ (r e c long : ℕ) (h : r < e) where
  -- All bytes of the four columns are inside.
  pub rows_inside : (k : ℕ) → Inside (in_rows k) e (c + 4) long → (i j : ℕ) → i < e - r → j < 4 → r * k + c + i * k + j < long
  rows_inside k inside i j a b = rw (rows_apart k r c i j) at (inside (r + i) (c + j) (omega arith) (omega arith))

  pub columns_inside : (n : ℕ) → Inside (in_columns n) e (c + 4) long → (i j : ℕ) → i < e - r → j < 4 → c * n + r + i + j * n < long
  columns_inside n inside i j a b = rw (columns_apart n r c i j) at (inside (r + i) (c + j) (omega arith) (omega arith))

module _ (k n r e c : ℕ) (h : r < e) (source x y : List ℕ) where
  behind : r + (e - r) ≡ e
  behind = omega arith

  -- What was put is what was to be moved: from rows to columns,
  pub Turned-to_columns : Put (λ i j. c * n + r + i + j * n) (λ i j. get_or source (r * k + c + i * k + j) 0) (Part 0 (e - r) 0 4) x y
      → Turned (in_rows k) (in_columns n) source (Part r e c (c + 4)) x y
  Turned-to_columns put =
      rw behind at
      (counted_from {at' = in_columns n} {value' = λ i j. get_or source (in_rows k i j) 0} r c
      (λ i j a b. columns_apart n r c i j) (λ i j a b. ap (λ (s : ℕ). get_or source s 0) (rows_apart k r c i j)) put)

  -- and from columns to rows.
  pub Turned-to_rows : Put (λ i j. r * k + c + i * k + j) (λ i j. get_or source (c * n + r + i + j * n) 0) (Part 0 (e - r) 0 4) x y
      → Turned (in_columns n) (in_rows k) source (Part r e c (c + 4)) x y
  Turned-to_rows put =
      rw behind at
      (counted_from {at' = in_rows k} {value' = λ i j. get_or source (in_columns n i j) 0} r c
      (λ i j a b. rows_apart k r c i j) (λ i j a b. ap (λ (s : ℕ). get_or source s 0) (columns_apart n r c i j)) put)
