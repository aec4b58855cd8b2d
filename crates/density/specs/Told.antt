-- What the calls on densities tell: the scope's number and place, or the value.
use Rattle.std.proofs.Math.Option as Math
use Rattle.std.specs.Prelude.{ℕ, Float, Result, Ok, Err, Option, Some, None}
use Rattle.refusal.specs.Told.{Told, refused_by}
use Rattle.refusal.specs.declared.Refusal.{Refusal}

-- "Density of a count n at depth d"
abbrev pub told_count_density : Result Float Refusal → Told Float
told_count_density (Ok x) = Told.answer x
told_count_density (Err r) = refused_by r

-- the density of a pattern, or that there is none, and the way back
abbrev pub told_density : Option Float → Math.Option Float
told_density (Some x) = Math.some x
told_density None = Math.none

abbrev pub told_pattern : Option ℕ → Math.Option ℕ
told_pattern (Some p) = Math.some p
told_pattern None = Math.none
