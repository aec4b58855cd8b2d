-- What the mergers tell: the scope's number and place, or the values.
use Rattle.std.specs.Prelude.{Result, Ok, Err, Float}
use Rattle.refusal.specs.declared.Refusal.{Refusal}
use Rattle.refusal.specs.Told.{Told, refused_by}
use Rattle.merger.specs.declared.Merge.{Merge}

-- "either the merged density or that the four are kept, carrying the chi it found [..]; the count merger likewise, with the merged count"
pub data Four (X : Type 0) : Type 0 where
  merged : X → Four X
  kept : (chi : Float) → Four X

abbrev pub told_merge : {V : Type 0} → Merge V → Four V
told_merge (Merge.Merged v) = Four.merged v
told_merge (Merge.Kept chi) = Four.kept chi

-- of either merger
abbrev pub told_merger : {V : Type 0} → Result (Merge V) Refusal → Told (Four V)
told_merger (Ok m) = Told.answer (told_merge m)
told_merger (Err r) = refused_by r
