-- Section 7 of the scope: the density of a count, and the densities among the 64-bit patterns of density rows. A float step
-- is an operation of lib.Ieee, rounded once to binary64.
use Rattle.std.specs.Prelude.{Result, Ok, Err, Option, Some, None, ℕ, cond, nat_lt, Float}
use Rattle.std.specs.Float.Ieee as Ieee
use Rattle.std.specs.Float.{binary64}
use Rattle.zuniq.specs.Cells.{n_hash}
use Rattle.refusal.specs.declared.Refusal.{Refusal}
use Rattle.merger.specs.Floats.{◌⊗◌, ◌⊘◌, float, 4·0, π, invalid_density}

-- "Density of a count n at depth d: n / ((4π)/N(d))"
unfoldable pub density_at : ℕ → ℕ → Float
density_at n d = float n ⊘ ((4·0 ⊗ π) ⊘ float (n_hash d))

-- "the call takes one count and refuses only by 1"; K is the largest depth
unfoldable pub density_of_count : ℕ → ℕ → ℕ → Result Float Refusal
density_of_count K n d = cond (nat_lt K d) (Err Refusal.DepthOutOfRange) (Ok (density_at n d))

-- the density that a pattern stands for, or that there is none: every NaN's pattern is one of `nan`. A density is what
-- refusal 6 accepts.
unfoldable pub density_of_pattern : ℕ → Option Float
density_of_pattern p = cond (invalid_density (Ieee.of_bits binary64 p)) None (Some (Ieee.of_bits binary64 p))

-- and the way back
unfoldable pub pattern_of_density : Float → Option ℕ
pattern_of_density x = cond (invalid_density x) None (Some (Ieee.to_bits binary64 x))
