-- What writing a coverage tells: the scope's number and place, or the value.
use Rattle.std.specs.Prelude.{ℕ, Result, Ok, Err}
use Rattle.refusal.specs.Told.{Told, refused_by}
use Rattle.refusal.specs.declared.Refusal.{Refusal}

-- "Both answer the number of cells or ranges"
abbrev pub told_covered : Result ℕ Refusal → Told ℕ
told_covered (Ok n) = Told.answer n
told_covered (Err r) = refused_by r
