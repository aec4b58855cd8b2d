-- What asking tells: the scope's number and place, or the values.
use Rattle.std.specs.Prelude.{ℕ, Result, Ok, Err}
use Rattle.refusal.specs.declared.Refusal.{Refusal}
use Rattle.combine.specs.declared.counts.Figures.{Figures}
use Rattle.refusal.specs.Told.{Told, refused_by}

-- "Ask answers the number of overlay cells, of entries after merging, and the total"
abbrev pub told_asked : Result Figures Refusal → Told (ℕ × ℕ × ℕ)
told_asked (Ok f) = Told.answer (f.cells, f.entries, f.total)
told_asked (Err r) = refused_by r
