-- Section 1 of the scope: cells, and when one lies in another. A cell is a depth d and a hash h below N(d).
use Rattle.std.specs.Prelude.{Bool, ◌&&◌, ◌||◌, ℕ, ◌+◌, ◌*◌, ◌/◌, ◌-◌, ◌^◌, eqb, leb}

-- "Depth d has N(d) = 12 × 4^d cells, hash 0 to N(d) − 1"
unfoldable pub n_hash : ℕ → ℕ
n_hash d = 12 * 4 ^ d

-- "Children of (d, h) are (d+1, 4h) to (d+1, 4h+3)": the hash of child i
abbrev pub child_hash : ℕ → ℕ → ℕ
child_hash h i = 4 * h + i

-- "(d, h) lies in (e, g) if d ≥ e and floor(h / 4^(d−e)) = g"
unfoldable pub lies_in : ℕ → ℕ → ℕ → ℕ → Bool
lies_in d h e g = leb e d && eqb (h / 4 ^ (d - e)) g

-- "Two cells overlap if they are equal or one lies inside the other": by the sentence above a cell lies in itself
unfoldable pub overlap : ℕ → ℕ → ℕ → ℕ → Bool
overlap d h e g = lies_in d h e g || lies_in e g d h

-- The range of a cell: the depth-K cells that lie in (d, h) are those with a hash from `start` to below `end`.
unfoldable pub start : ℕ → ℕ → ℕ → ℕ
start K d h = h * 4 ^ (K - d)

unfoldable pub end : ℕ → ℕ → ℕ → ℕ
end K d h = (h + 1) * 4 ^ (K - d)
