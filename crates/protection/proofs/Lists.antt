-- Row 15: what the loop of the check has passed, and that it refuses nothing exactly where the list is one of valid zuniqs that rises.
-- Over any largest depth K. Assumes nothing.
use mathlib.Core.Path.{◌≡◌, refl}
use mathlib.Core.Bool.{Bool, true, false, ◌||◌, cond}
use mathlib.Core.Logic.{◌↔◌}
use mathlib.Core.List.{List, [], ◌∷◌}
use mathlib.Core.Option.{Option, none, some, some-ne-none}
use Prim.Native.Nat.{ℕ, zero, suc, ◌+◌, ◌-◌, ◌≤◌, ◌<◌}
use native.Mathlib.Nat.{mul-pos}
use native.Mathlib.Numerals.{add-one}
use native.Mathlib.Omega.{arith}
use lib.ListN.{length, get_or, drop, drop_of_length-le}
use lib.Seq.{drop-cons}
use borrow.Author.Tests.{le-leb, lt-leb, leb-false}
use Rattle.zuniq.proofs.Basics.{four_pow_pos}
use Rattle.zuniq.proofs.Codec.{cell, decodes}
use Rattle.zuniq.specs.Codec.{zuniq, IsZuniqOf, decode}
use Rattle.zuniq.specs.declared.Cell.{Cell}
use Rattle.zuniq.specs.declared.Decoded.{Decoded}
use Rattle.mom.specs.Map.{IsZuniq}
use Rattle.refusal.specs.declared.Refusal.{Refusal}
use Rattle.protection.specs.Protected.{is_nothing, not_above, refusal_from, protected_refusal, RisingList, ProtectedList}

-- A zuniq is above 0.
pub zuniq_above_0 : {K z d h : ℕ} → IsZuniqOf K z d h → 0 < z
unfolding zuniq
zuniq_above_0 {K} {z} {d} {h} w = rw w.is (mul-pos (omega arith) (four_pow_pos (K - d)))

-- ---- the loop
-- the value before, if there is one, is y; before the first y is 0
abbrev pub IsBefore : ℕ → Option ℕ → Type 0
IsBefore y none = y ≡ 0
IsBefore y (some x) = x ≡ y

-- the values before place i are passed
pub record Passed (K : ℕ) (P : List ℕ) (y i : ℕ) : Type 0 where
  pub within : i ≤ length P
  pub before : Option ℕ
  pub last : IsBefore y before
  pub rest : protected_refusal K P ≡ refusal_from K i before (drop i P)

pub passed_none : {K : ℕ} {P : List ℕ} → Passed K P 0 0
unfolding protected_refusal
passed_none = record { within = omega arith; before = none; last = refl; rest = refl }

not_above-0 : (y z : ℕ) (before : Option ℕ) → IsBefore y before → 0 < z → z ≤ y → not_above before z ≡ true
not_above-0 y z none last p l = absurd (omega arith)
not_above-0 y z (some x) last p l = rw last (le-leb z y l)

above : (y z : ℕ) (before : Option ℕ) → IsBefore y before → y < z → not_above before z ≡ false
above y z none last l = refl
above y z (some x) last l = rw last (lt-leb z y l)

module _ {K : ℕ} {P : List ℕ} {y i : ℕ} (p : Passed K P y i) where
  pub passed_all : length P ≤ i → protected_refusal K P ≡ none
  unfolding refusal_from
  passed_all l = rw (p.rest, drop_of_length-le P l) refl

  -- the value z at place i, however it was read
  module _ (l : i < length P) {z : ℕ} (read : z ≡ get_or P i 0) where
    next : protected_refusal K P ≡ cond (is_nothing (decode K z) || not_above p.before z) (some (Refusal.InvalidProtected i)) (refusal_from K (suc i) (some z) (drop (suc i) P))
    unfolding refusal_from
    next = rw (p.rest, drop-cons P i 0 l, read) refl

    pub no_zuniq_here : decode K z ≡ Decoded.Nothing → protected_refusal K P ≡ some (Refusal.InvalidProtected i)
    no_zuniq_here e = rw (next, e) refl

    module _ {c : Cell} (e : decode K z ≡ Decoded.Cell c) where
      pub not_above_here : z ≤ y → protected_refusal K P ≡ some (Refusal.InvalidProtected i)
      not_above_here m = rw (next, e, not_above-0 y z p.before p.last (zuniq_above_0 ((decodes K z c).0 e)) m) refl

      pub passed_on : y < z → Passed K P z (i + 1)
      passed_on m = rw add-one (record { within = l; before = some z; last = refl; rest = rw (next, e, above y z p.before p.last m) refl })

-- ---- what is accepted
-- the first value is above the one before, if there is one
abbrev Above : Option ℕ → List ℕ → Type 0
Above none zs = Unit {0}
Above (some y) zs = (i : ℕ) → i < length zs → y < get_or zs i 0

module _ (K : ℕ) where
  -- Nothing is refused exactly of a list of valid zuniqs that rise, all above the one before.
  accepted_of_none : (i : ℕ) (before : Option ℕ) (zs : List ℕ) → refusal_from K i before zs ≡ none → ProtectedList K zs × Above before zs
  unfolding refusal_from
  accepted_of_none i before [] e = (record { valid = λ j l. absurd (omega arith); rising = λ j k l m. absurd (omega arith) }, all before)
    where
      all : (o : Option ℕ) → Above o []
      all none = tt
      all (some y) = λ j l. absurd (omega arith)
  accepted_of_none i before (z ∷ zs) e = go (decode K z) refl (not_above before z) refl e (accepted_of_none (suc i) (some z) zs)
    where
      least : (o : Option ℕ) → not_above o z ≡ false → ((j : ℕ) → j < length zs → z < get_or zs j 0) → Above o (z ∷ zs)
      least none q m = tt
      least (some y) q m = λ j. by_place j
        where
          by_place : (j : ℕ) → j < length (z ∷ zs) → y < get_or (z ∷ zs) j 0
          by_place zero l = leb-false z y q
          by_place (suc j) l = omega (arith, leb-false z y q, m j (omega arith))

      go : (r : Decoded) → decode K z ≡ r → (b : Bool) → not_above before z ≡ b → cond (is_nothing r || b) (some (Refusal.InvalidProtected i)) (refusal_from K (suc i) (some z) zs) ≡ none
          → (refusal_from K (suc i) (some z) zs ≡ none → ProtectedList K zs × Above (some z) zs) → ProtectedList K (z ∷ zs) × Above before (z ∷ zs)
      go Decoded.Nothing d b q e more = absurd (some-ne-none _ e)
      go (Decoded.Cell c) d true q e more = absurd (some-ne-none _ e)
      go (Decoded.Cell c) d false q e more =
          let m = more e in
          (record { valid = valid m; rising = rising m }, least before q m.1)
        where
          valid : ProtectedList K zs × Above (some z) zs → (j : ℕ) → j < length (z ∷ zs) → IsZuniq K (get_or (z ∷ zs) j 0)
          valid m zero l = (c.depth, c.hash, (decodes K z c).0 d)
          valid m (suc j) l = m.0.valid j (omega arith)

          rising : ProtectedList K zs × Above (some z) zs → RisingList (z ∷ zs)
          rising m j zero l k = absurd (omega arith)
          rising m zero (suc k) l n = m.1 k (omega arith)
          rising m (suc j) (suc k) l n = m.0.rising j k (omega arith) (omega arith)

  none_of_accepted : (i : ℕ) (before : Option ℕ) (zs : List ℕ) → ProtectedList K zs → Above before zs → refusal_from K i before zs ≡ none
  unfolding refusal_from
  none_of_accepted i before [] a b = refl
  none_of_accepted i before (z ∷ zs) a b =
      let w = a.valid 0 (omega arith) in
      let d = (decodes K z (cell w.0 w.1)).1 w.2 in
      let rest : ProtectedList K zs = record { valid = λ j l. a.valid (suc j) (omega arith); rising = λ j k l m. a.rising (suc j) (suc k) (omega arith) (omega arith) } in
      rw (d, first before b) (none_of_accepted (suc i) (some z) zs rest (λ j l. a.rising 0 (suc j) (omega arith) (omega arith)))
    where
      first : (o : Option ℕ) → Above o (z ∷ zs) → not_above o z ≡ false
      first none m = refl
      first (some y) m = lt-leb z y (m 0 (omega arith))

  -- A list is accepted exactly if it is "a rising list of valid zuniqs".
  pub accepted_iff_rising_list : (P : List ℕ) → (protected_refusal K P ≡ none) ↔ ProtectedList K P
  unfolding protected_refusal
  accepted_iff_rising_list P = (λ e. (accepted_of_none 0 none P e).0, λ a. none_of_accepted 0 none P a tt)

  -- An empty one is.
  pub empty_list_accepted : protected_refusal K [] ≡ none
  unfolding protected_refusal refusal_from
  empty_list_accepted = refl
