-- The scope's table "Refusals in checking order" as it is read for one call: its rows one after the other, each with the scope's
-- number, and behind them what the call answers. The laws of proofs/Answers say every call's promise in this form.
use Rattle.std.specs.Prelude.{Bool, cond, ℕ, Option as Answer, None, Some}
use Rattle.std.proofs.Math.Option.{Option, none, some}
use Rattle.refusal.specs.Told.{Told, refused_by}
use Rattle.refusal.specs.declared.Refusal.{Refusal}
use Rattle.mom.specs.Told.{fault_number}
use Rattle.mom.specs.declared.FirstFault.{FirstFault}

module _ {X : Type 0} where
  -- a row: where its test holds the call is refused by its number, "counted from 0 and 0 unless said"
  abbrev pub row : ℕ → Bool → Told X → Told X
  row number test next = cond test (Told.refused number 0) next

  -- a row that says a place: the first at which it applies, if there is one
  abbrev pub row_at : ℕ → Answer ℕ → Told X → Told X
  row_at number (Some place) next = Told.refused number place
  row_at number None next = next

  -- rows that are tried together ("7, 8, 9 are tried cell by cell"): what is refused first, if anything is
  abbrev pub rows_of : Option Refusal → Told X → Told X
  rows_of (some r) next = refused_by r
  rows_of none next = next

-- "5. A held or given map is invalid; place: the entry"
abbrev pub faulty_entry : Answer FirstFault → Answer ℕ
faulty_entry None = None
faulty_entry (Some f) = Some f.place

-- "the first faulty place and the first fault there"
abbrev pub fault_told : Answer FirstFault → Answer (ℕ × ℕ)
fault_told None = None
fault_told (Some f) = Some (f.place, fault_number f.fault)
