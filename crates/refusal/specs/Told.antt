-- What a call tells, in the scope's own terms. Every enum that a call answers has a definition `told..` beside it that sets out, for
-- each of its cases, the number and the place or the values.
use Rattle.std.specs.Prelude.{ℕ, Result, Ok, Err}
use Rattle.refusal.specs.Refusals.{number_of, place_of}
use Rattle.refusal.specs.declared.Refusal.{Refusal}

-- "A refusal is its number and a place"; or the values that the call answers
pub data Told (X : Type 0) : Type 0 where
  refused : (number place : ℕ) → Told X
  answer : X → Told X

abbrev pub refused_by : {X : Type 0} → Refusal → Told X
refused_by r = Told.refused (number_of r) (place_of r)

-- what a call tells that answers an X or refuses
abbrev pub told : {X : Type 0} → Result X Refusal → Told X
told (Ok x) = Told.answer x
told (Err r) = refused_by r
