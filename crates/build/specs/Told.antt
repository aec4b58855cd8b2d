-- What adding counts tells: the scope's number and place, or the values. Of densities `told` tells it.
use Rattle.std.specs.Prelude.{ℕ, Result, Ok, Err}
use Rattle.refusal.specs.declared.Refusal.{Refusal}
use Rattle.refusal.specs.Told.{Told, refused_by}
use Rattle.build.specs.declared.counts.Added.{Added}

-- "the new number of entries and, for counts, their total"
abbrev pub told_counts : Result Added Refusal → Told (ℕ × ℕ)
told_counts (Ok added) = Told.answer (added.entries, added.total)
told_counts (Err r) = refused_by r
