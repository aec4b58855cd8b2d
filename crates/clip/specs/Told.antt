-- What clipping tells: the scope's number and place, or the value.
use Rattle.std.specs.Prelude.{ℕ, Result, Ok, Err}
use Rattle.refusal.specs.Told.{Told, refused_by}
use Rattle.refusal.specs.declared.Refusal.{Refusal}

-- "Both answer the number of cells or ranges"
abbrev pub told_clipped : Result ℕ Refusal → Told ℕ
told_clipped (Ok n) = Told.answer n
told_clipped (Err r) = refused_by r
