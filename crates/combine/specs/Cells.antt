-- Section 5 of the scope: what the types of the walk stand for.
use Rattle.std.specs.Prelude.{ℕ, Option as Answer, Some, None}
use Rattle.std.proofs.Math.Option.{Option, none, some}
use Rattle.build.specs.Map.{Entry, entry}
use Rattle.combine.specs.Heads.{Saw, saw_left, saw_right, saw_both, Act, shows, opens_left, opens_right, ends, At}
use Rattle.combine.specs.declared.cells.Dhzv.{Dhzv}
use Rattle.combine.specs.declared.cells.Side.{Side}
use Rattle.combine.specs.declared.cells.LhsRhsBoth.{LhsRhsBoth}
use Rattle.combine.specs.declared.cells.Turn.{Turn}

module _ {V : Type 0} where
  abbrev pub as_entry : Dhzv V → Entry V
  as_entry c = entry c.depth c.hash c.value

  abbrev pub zuniq_in : Dhzv V → ℕ
  zuniq_in c = c.zuniq

  abbrev pub head_of : Answer (Dhzv V) → Option (Dhzv V)
  head_of (Some a) = some a
  head_of None = none

  abbrev pub side_of : Side V → At (Dhzv V)
  side_of s = record { head = head_of s.head; pending = s.pending; place = s.place; taken = s.taken }

  abbrev pub saw_of : LhsRhsBoth V → Saw (Dhzv V)
  saw_of (LhsRhsBoth.Left a) = saw_left a
  saw_of (LhsRhsBoth.Right b) = saw_right b
  saw_of (LhsRhsBoth.Both a b) = saw_both a b

  abbrev pub act_of : Turn V → Act (Dhzv V)
  act_of (Turn.Show s) = shows (saw_of s)
  act_of (Turn.OpenLeft a) = opens_left a
  act_of (Turn.OpenRight b) = opens_right b
  act_of Turn.Stop = ends
