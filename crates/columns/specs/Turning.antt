-- What the inner functions promise: bytes are moved from their places in one layout to their places in another.
use Rattle.std.specs.Prelude.{◌≡◌, List, [], ◌∷◌, ℕ, zero, suc, ◌+◌, ◌*◌, ◌/◌, ◌%◌, ◌≤◌, ◌<◌, get_or}
use Rattle.rows.specs.LittleEndian.{from_le_bytes}

-- ---- places

-- where byte j of row i stands in rows of k bytes
abbrev pub in_rows : ℕ → ℕ → ℕ → ℕ
in_rows k i j = i * k + j

-- and in columns of n bytes
abbrev pub in_columns : ℕ → ℕ → ℕ → ℕ
in_columns n i j = j * n + i

-- every byte of n rows of k bytes stands inside so many
abbrev pub Inside : (ℕ → ℕ → ℕ) → ℕ → ℕ → ℕ → Type 0
Inside at n k long = (i j : ℕ) → i < n → j < k → at i j < long

-- the bytes from column a up to b of the rows from m up to n
pub record Part (m n a b i j : ℕ) : Type 0 where
  pub row_from : m ≤ i
  pub row_to : i < n
  pub column_from : a ≤ j
  pub column_to : j < b

-- ---- what was put

-- a list has these values, each at its place
unfoldable pub HasValues : (ℕ → ℕ → ℕ) → (ℕ → ℕ → ℕ) → (ℕ → ℕ → Type 0) → List ℕ → Type 0
HasValues at value P bytes = (i j : ℕ) → P i j → get_or bytes (at i j) 0 ≡ value i j

-- these values were put, and nothing else: where a list has them all, so that no two that differ fall on one place, the target has
-- them too, and wherever it agreed with that list before, it still does
pub record Put (at value : ℕ → ℕ → ℕ) (P : ℕ → ℕ → Type 0) (before after : List ℕ) : Type 0 where
  pub there : (goal : List ℕ) → HasValues at value P goal → HasValues at value P after
  pub kept : (goal : List ℕ) → HasValues at value P goal → (p : ℕ) → get_or before p 0 ≡ get_or goal p 0 → get_or after p 0 ≡ get_or goal p 0

-- these bytes were moved from their places in one layout to those in the other
abbrev pub Turned : (ℕ → ℕ → ℕ) → (ℕ → ℕ → ℕ) → List ℕ → (ℕ → ℕ → Type 0) → List ℕ → List ℕ → Type 0
Turned from to source = Put to (λ i j. get_or source (from i j) 0)

-- ---- words

-- four bytes as a word, the lowest first
abbrev pub word_of : (ℕ → ℕ) → ℕ
word_of byte = from_le_bytes (byte 0 ∷ byte 1 ∷ byte 2 ∷ byte 3 ∷ [])

-- a list has the words of n rows, of the bytes that stand at these places of the source
pub record Words (at : ℕ → ℕ → ℕ) (source : List ℕ) (n : ℕ) (words : List ℕ) : Type 0 where
  pub each : (i : ℕ) → i < n → get_or words i 0 ≡ word_of (λ c. get_or source (at i c) 0)

-- byte c of a word
unfoldable pub byte_of : ℕ → ℕ → ℕ
byte_of w zero = w % 256
byte_of w (suc c) = byte_of (w / 256) c
