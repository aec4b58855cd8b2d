-- What moving tells: the scope's number and place, or the values.
use Rattle.std.specs.Prelude.{ℕ, Result, Ok, Err}
use Rattle.refusal.specs.Told.{Told, refused_by}
use Rattle.refusal.specs.declared.Refusal.{Refusal}
use Rattle.moving.specs.declared.Moved.{Moved}

-- "Moving answers the depth and the number of entries"
abbrev pub told_moved : Result Moved Refusal → Told (ℕ × ℕ)
told_moved (Ok m) = Told.answer (m.depth, m.entries)
told_moved (Err r) = refused_by r
