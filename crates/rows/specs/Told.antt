-- What the row calls tell: the scope's number and place, or the value.
use Rattle.std.specs.Prelude.{ℕ, Result, Ok, Err}
use Rattle.refusal.specs.Told.{Told, refused_by}
use Rattle.refusal.specs.declared.Refusal.{Refusal}

-- "Both row calls answer the number of rows."
abbrev pub told_rows : Result ℕ Refusal → Told ℕ
told_rows (Ok n) = Told.answer n
told_rows (Err r) = refused_by r
