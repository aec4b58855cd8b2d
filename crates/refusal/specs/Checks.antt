-- What a call tries before it does anything: "Refusals in checking order".
use Rattle.std.specs.Prelude.{Bool, true, false, ⊤, Result, Ok, Err}
use Rattle.std.proofs.Math.Option.{Option, none, some}
use Rattle.refusal.specs.declared.Refusal.{Refusal}

-- the first of two, and the second where there is none
abbrev pub or_else : {A : Type 0} → Option A → Option A → Option A
or_else (some x) y = some x
or_else none y = y

abbrev pub refused_if : Bool → Refusal → Option Refusal
refused_if true r = some r
refused_if false r = none

-- an answer, or why there is none
abbrev pub ok_unless : {X : Type 0} → Option Refusal → X → Result X Refusal
ok_unless none x = Ok x
ok_unless (some r) x = Err r

-- what a check answers
abbrev pub check_of : Option Refusal → Result ⊤ Refusal
check_of r = ok_unless r tt
