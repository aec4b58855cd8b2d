-- Section 3 of the scope: when a map is valid, and what the check answers. A map of depth D is a list of zuniqs; the
-- values play no part. Over the largest depth K that the type of the zuniqs holds: 29 for 64 bits.
use Rattle.std.specs.Prelude.{◌≡◌, Bool, false, cond, List, [], ◌∷◌, ℕ, suc, ◌≤◌, ◌<◌, leb, ltb, length, get_or, Option, None, Some, Result, Ok, Err}
use Rattle.zuniq.specs.Codec.{IsZuniqOf, decode, overlap_test}
use Rattle.refusal.specs.declared.Refusal.{Refusal}
use Rattle.zuniq.specs.declared.Decoded.{Decoded}
use Rattle.mom.specs.declared.Fault.{Fault}
use Rattle.mom.specs.declared.FirstFault.{FirstFault}

-- whether two values are valid zuniqs that overlap: whether the overlap test says so
unfoldable pub is_yes : Result Bool Refusal → Bool
is_yes (Ok b) = b
is_yes (Err r) = false

unfoldable pub overlaps : ℕ → ℕ → ℕ → Bool
overlaps K y z = is_yes (overlap_test K y z)

-- "A zuniq is valid if it equals that for some d and h in range"
abbrev pub IsZuniq : ℕ → ℕ → Type 0
IsZuniq K z = (d : ℕ) × (h : ℕ) × IsZuniqOf K z d h

-- "It is valid if each zuniq is valid, none is deeper than D, they rise strictly and no two overlap."
pub record ValidMap (K D : ℕ) (zs : List ℕ) : Type 0 where
  pub valid : (i : ℕ) → i < length zs → IsZuniq K (get_or zs i 0)
  pub shallow : (i d h : ℕ) → i < length zs → IsZuniqOf K (get_or zs i 0) d h → d ≤ D
  pub rising : (i j : ℕ) → i < j → j < length zs → get_or zs i 0 < get_or zs j 0
  pub apart : (i j : ℕ) → i < j → j < length zs → overlaps K (get_or zs i 0) (get_or zs j 0) ≡ false

-- "not above its predecessor, overlapping it": the first entry has no predecessor
unfoldable pub fault_after : ℕ → Option ℕ → ℕ → Option Fault
fault_after K None z = None
fault_after K (Some y) z = cond (leb z y) (Some Fault.NotAbove) (cond (overlaps K y z) (Some Fault.Overlapping) None)

-- "not a zuniq, too deep", then those against the predecessor
unfoldable pub fault_of : ℕ → Decoded → Option Fault → Option Fault
fault_of D Decoded.Nothing after = Some Fault.NotZuniq
fault_of D (Decoded.Cell c) after = cond (ltb D c.depth) (Some Fault.TooDeep) after

-- "the first fault there of: not a zuniq, too deep, not above its predecessor, overlapping it": of the entry z of a map
-- of depth D, behind the entry `before`
unfoldable pub fault_at : ℕ → ℕ → Option ℕ → ℕ → Option Fault
fault_at K D before z = fault_of D (decode K z) (fault_after K before z)

unfoldable pub at_or : ℕ → Option Fault → Option FirstFault → Option FirstFault
at_or i None later = later
at_or i (Some fault) later = Some (record { place = i; fault = fault })

-- "the first faulty place and the first fault there", of the entries from place i on
unfoldable pub fault_from : ℕ → ℕ → ℕ → Option ℕ → List ℕ → Option FirstFault
fault_from K D i before [] = None
fault_from K D i before (z ∷ zs) = at_or i (fault_at K D before z) (fault_from K D (suc i) (Some z) zs)

unfoldable pub first_fault : ℕ → ℕ → List ℕ → Option FirstFault
first_fault K D zs = fault_from K D 0 None zs

-- "The check answers valid, or the first faulty place and the first fault there", and refuses by 1.
unfoldable pub map_check : ℕ → ℕ → List ℕ → Result (Option FirstFault) Refusal
map_check K D zs = cond (ltb K D) (Err Refusal.DepthOutOfRange) (Ok (first_fault K D zs))
