-- What the map check and lookup tell: the scope's number and place, or the values. Of `get_cell_containing` `told` tells it.
use Rattle.std.specs.Prelude.{ℕ, Option, None, Some, Result, Ok, Err}
use Rattle.refusal.specs.Told.{Told, refused_by}
use Rattle.refusal.specs.declared.Refusal.{Refusal}
use Rattle.mom.specs.declared.Fault.{Fault}
use Rattle.mom.specs.declared.FirstFault.{FirstFault}
use Rattle.mom.specs.declared.lookup.Run.{Run}

-- "the first fault there of: not a zuniq, too deep, not above its predecessor, overlapping it": which of the four, from 1
abbrev pub fault_number : Fault → ℕ
fault_number Fault.NotZuniq = 1
fault_number Fault.TooDeep = 2
fault_number Fault.NotAbove = 3
fault_number Fault.Overlapping = 4

-- "valid, or the first faulty place and the first fault there"
abbrev pub told_check : Result (Option FirstFault) Refusal → Told (Option (ℕ × ℕ))
told_check (Ok None) = Told.answer None
told_check (Ok (Some f)) = Told.answer (Some (f.place, fault_number f.fault))
told_check (Err r) = refused_by r

-- "a run is answered as its first place and its length"
abbrev pub told_run : Result Run Refusal → Told (ℕ × ℕ)
told_run (Ok run) = Told.answer (run.first, run.len)
told_run (Err r) = refused_by r
