-- The zuniq of a cell in another width: with the largest depth L in place of K.
use Rattle.std.specs.Prelude.{ℕ, cond, ltb, ◌*◌, ◌/◌, ◌-◌, ◌^◌, ◌<◌}
use Rattle.zuniq.specs.Cells.{n_hash}

-- narrower by so many levels the zeros behind go, wider they come
unfoldable pub in_width : ℕ → ℕ → ℕ → ℕ
in_width K L z = cond (ltb K L) (z * 4 ^ (L - K)) (z / 4 ^ (K - L))

-- it is below the bound of the other width: every zuniq is, of a cell that is not too deep
abbrev pub MovesTo : ℕ → ℕ → ℕ → Type 0
MovesTo K L z = in_width K L z < 2 * n_hash L
