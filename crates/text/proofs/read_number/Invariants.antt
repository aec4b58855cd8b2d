use Rattle.text.proofs.Numbers.{number_from}
use mathlib.Core.Path.{◌≡◌}
use Prim.Native.Nat.{◌≤◌}
use lib.ListN.{drop}
use Rattle.text.specs.Text.{number}
use Rattle.text.proofs.read_number.Given as goal

abbrev pub invariant-loop-digit : goal.invariant-loop-digit
invariant-loop-digit l = (l.value ≤ l.most) × (number l.most l.field ≡ number_from l.most l.value (drop l.digit-index l.field))
