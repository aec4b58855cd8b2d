-- Section 7 of the scope: "little-endian", over any number of bytes.
use Rattle.std.specs.Prelude.{List, [], ◌∷◌, ◌++◌, ℕ, zero, suc, ◌+◌, ◌*◌, ◌/◌, ◌%◌, length, take, drop}

-- a number in k bytes, the lowest first; what k bytes do not hold is cut off
unfoldable pub to_le_bytes : ℕ → ℕ → List ℕ
to_le_bytes zero n = []
to_le_bytes (suc k) n = n % 256 ∷ to_le_bytes k (n / 256)

-- the number that bytes stand for, the lowest first
unfoldable pub from_le_bytes : List ℕ → ℕ
from_le_bytes [] = 0
from_le_bytes (b ∷ bs) = b + 256 * from_le_bytes bs

-- a buffer with these bytes put at a place, and all others as they were
unfoldable pub put : ℕ → List ℕ → List ℕ → List ℕ
put at bs buffer = take at buffer ++ (bs ++ drop (at + length bs) buffer)
