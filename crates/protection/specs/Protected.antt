-- Note 7 of 02: protected parents, "a rising list of valid zuniqs; entries may lie inside one another". K is the largest depth of the
-- zuniq type: "narrow building takes narrow zuniqs".
use Rattle.std.specs.Prelude.{Bool, true, false, ◌||◌, cond, List, [], ◌∷◌, ℕ, suc, ◌<◌, eqb, leb, length, get_or}
use Rattle.std.proofs.Math.Option.{Option, none, some}
use Rattle.zuniq.specs.Codec.{zuniq, decode}
use Rattle.zuniq.specs.declared.Decoded.{Decoded}
use Rattle.mom.specs.Map.{IsZuniq}
use Rattle.refusal.specs.declared.Refusal.{Refusal}

-- the value is in the list
unfoldable pub is_listed : List ℕ → ℕ → Bool
is_listed [] z = false
is_listed (y ∷ ys) z = eqb y z || is_listed ys z

-- "A quad whose parent is listed": zuniq(p, h) is in the list
unfoldable pub is_protected : ℕ → List ℕ → ℕ → ℕ → Bool
is_protected K P p h = is_listed P (zuniq K p h)

-- ---- row 15
-- "a listed value is not a valid zuniq"
abbrev pub is_nothing : Decoded → Bool
is_nothing Decoded.Nothing = true
is_nothing (Decoded.Cell c) = false

-- "or not above the one before": the first has none before it
abbrev pub not_above : Option ℕ → ℕ → Bool
not_above none z = false
not_above (some y) z = leb z y

-- "place its index": of the values from place i on
unfoldable pub refusal_from : ℕ → ℕ → Option ℕ → List ℕ → Option Refusal
refusal_from K i before [] = none
refusal_from K i before (z ∷ zs) = cond (is_nothing (decode K z) || not_above before z) (some (Refusal.InvalidProtected i)) (refusal_from K (suc i) (some z) zs)

unfoldable pub protected_refusal : ℕ → List ℕ → Option Refusal
protected_refusal K P = refusal_from K 0 none P

-- ---- what is accepted
abbrev pub RisingList : List ℕ → Type 0
RisingList P = (i j : ℕ) → i < j → j < length P → get_or P i 0 < get_or P j 0

-- "a rising list of valid zuniqs"
pub record ProtectedList (K : ℕ) (P : List ℕ) : Type 0 where
  pub valid : (i : ℕ) → i < length P → IsZuniq K (get_or P i 0)
  pub rising : RisingList P
