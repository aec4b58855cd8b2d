-- The faults of an entry against the one before it, by ranges; and the check finds no fault exactly in a valid map. Over any largest depth K. Assumes nothing.
use mathlib.Core.Path.{◌≡◌, refl}
use mathlib.Core.Bool.{Bool, true, false, cond}
use mathlib.Core.Logic.{◌↔◌}
use mathlib.Core.List.{List, [], ◌∷◌}
use Prim.Native.Nat.{ℕ, suc, ◌≤◌, ◌<◌}
use native.Mathlib.Nat.{le_of_lt}
use native.Mathlib.Omega.{arith}
use lib.Dec.{leb, ltb}
use borrow.Author.Tests.{le-ltb, le-leb, lt-leb, ltb-false, leb-false}
use Rattle.std.specs.Prelude.{Option, None, Some, Ok, Err}
use Rattle.zuniq.specs.Cells.{start, end}
use Rattle.zuniq.specs.Codec.{IsZuniqOf, decode}
use Rattle.refusal.specs.declared.Refusal.{Refusal}
use Rattle.zuniq.specs.declared.Decoded.{Decoded}
use Rattle.zuniq.proofs.Codec.{cell, decodes}
use Rattle.mom.specs.declared.Fault.{Fault}
use Rattle.mom.specs.declared.FirstFault.{FirstFault}
use Rattle.mom.specs.Map.{overlaps, ValidMap, fault_after, fault_of, fault_at, at_or, fault_from, first_fault, map_check}
use Rattle.mom.proofs.Overlaps.{overlaps-iff_starts_before, end-le_start_iff_above}
use Rattle.mom.proofs.Rises.{EntryFrom, Rises, valid_rises, Rises-valid}

-- the entry before ends at b; before the first entry the sky starts, at 0
abbrev pub EndsAt : ℕ → Option ℕ → ℕ → Type 0
EndsAt K None b = b ≡ 0
EndsAt K (Some y) b = (d : ℕ) × (h : ℕ) × IsZuniqOf K y d h × (b ≡ end K d h)

-- the entry before is y, if there is one
abbrev pub IsLast : ℕ → Option ℕ → Type 0
IsLast y None = Unit {0}
IsLast y (Some x) = x ≡ y

-- A test that would give a fault gives none: it fails, and what follows gives none.
cond-none : (t : Bool) (f : Fault) (o : Option Fault) → cond t (Some f) o ≡ None → (t ≡ false) × (o ≡ None)
cond-none true f o e = let z : ◌≡◌ {A = ℕ} 0 1 = cc in absurd (omega arith)
cond-none false f o e = (refl, e)

-- ---- against the entry before
module _ {K b z d h : ℕ} (w : IsZuniqOf K z d h) where
  -- An entry has no fault exactly if it starts at the end of the one before, or after.
  pub no_fault_iff_starts_after : (before : Option ℕ) → EndsAt K before b → (fault_after K before z ≡ None) ↔ (b ≤ start K d h)
  unfolding fault_after
  no_fault_iff_starts_after None ends = (λ e. omega arith, λ l. refl)
  no_fault_iff_starts_after (Some y) ends = (
    λ e.
        let t = cond-none (leb z y) Fault.NotAbove _ e in
        let u = cond-none (overlaps K y z) Fault.Overlapping None t.1 in
        rw ends.3 ((end-le_start_iff_above ends.2 w).1 (leb-false z y t.0, u.0)),
    λ l.
        let a = (end-le_start_iff_above ends.2 w).0 (rw ends.3 at l) in
        rw (lt-leb z y a.0, a.1) refl,
  )

  -- One that starts before that is not above the one before, or overlaps it.
  pub not_above_of_starts_before : {y : ℕ} (before : Option ℕ) → EndsAt K before b → IsLast y before → start K d h < b → z ≤ y → fault_after K before z ≡ Some Fault.NotAbove
  unfolding fault_after
  not_above_of_starts_before None ends last l m = absurd (omega arith)
  not_above_of_starts_before {y} (Some x) ends last l m = rw (last, le-leb z y m) refl

  pub overlapping_of_starts_before : {y : ℕ} (before : Option ℕ) → EndsAt K before b → IsLast y before → start K d h < b → y < z → fault_after K before z ≡ Some Fault.Overlapping
  unfolding fault_after
  overlapping_of_starts_before None ends last l m = absurd (omega arith)
  overlapping_of_starts_before {y} (Some x) ends last l m =
      let o = (overlaps-iff_starts_before ends.2 w (rw last (le_of_lt m))).1 (rw ends.3 at l) in
      rw (lt-leb z x (rw last m), o) refl

-- ---- no fault
module _ (K D : ℕ) where
  -- An entry has no fault exactly if it is one of a map and starts at the end of the one before, or after.
  entry_of_no_fault : (before : Option ℕ) (b z : ℕ) → EndsAt K before b → fault_at K D before z ≡ None → EntryFrom K D b z
  unfolding fault_at fault_of
  entry_of_no_fault before b z ends e = go (decode K z) refl e
    where
      go : (r : Decoded) → decode K z ≡ r → fault_of D r (fault_after K before z) ≡ None → EntryFrom K D b z
      go Decoded.Nothing q e = let n : ◌≡◌ {A = ℕ} 0 1 = cc in absurd (omega arith)
      go (Decoded.Cell c) q e =
          let t = cond-none (ltb D c.depth) Fault.TooDeep _ e in
          let w = (decodes K z c).0 q in
          record { depth = c.depth; hash = c.hash; is = w; shallow = ltb-false D c.depth t.0; from = (no_fault_iff_starts_after w before ends).0 t.1 }

  no_fault_of_entry : (before : Option ℕ) (b z : ℕ) → EndsAt K before b → EntryFrom K D b z → fault_at K D before z ≡ None
  unfolding fault_at fault_of
  no_fault_of_entry before b z ends e =
      rw ((decodes K z (cell e.depth e.hash)).1 e.is, le-ltb D e.depth e.shallow) ((no_fault_iff_starts_after e.is before ends).1 e.from)

  -- The same for entries one behind the other.
  Rises-of_no_fault : (i : ℕ) (before : Option ℕ) (b : ℕ) (zs : List ℕ) → EndsAt K before b → fault_from K D i before zs ≡ None → Rises K D b zs
  unfolding fault_from at_or
  Rises-of_no_fault i before b [] ends e = tt
  Rises-of_no_fault i before b (z ∷ zs) ends e = go (fault_at K D before z) refl e (λ c. Rises-of_no_fault (suc i) (Some z) c zs)
    where
      go : (o : Option Fault) → fault_at K D before z ≡ o → at_or i o (fault_from K D (suc i) (Some z) zs) ≡ None
          → ((c : ℕ) → EndsAt K (Some z) c → fault_from K D (suc i) (Some z) zs ≡ None → Rises K D c zs) → Rises K D b (z ∷ zs)
      go (Some f) q e rest = let n : ◌≡◌ {A = ℕ} 0 1 = cc in absurd (omega arith)
      go None q e rest =
          let x = entry_of_no_fault before b z ends q in
          (x, rest (end K x.depth x.hash) (x.depth, x.hash, x.is, refl) e)

  no_fault_of_rises : (i : ℕ) (before : Option ℕ) (b : ℕ) (zs : List ℕ) → EndsAt K before b → Rises K D b zs → fault_from K D i before zs ≡ None
  unfolding fault_from at_or
  no_fault_of_rises i before b [] ends r = refl
  no_fault_of_rises i before b (z ∷ zs) ends r =
      let x = r.0 in
      rw (no_fault_of_entry before b z ends x)
      (no_fault_of_rises (suc i) (Some z) (end K x.depth x.hash) zs (x.depth, x.hash, x.is, refl) r.1)

  -- There is no fault exactly in a valid map.
  pub no_fault_iff_valid : (zs : List ℕ) → (first_fault K D zs ≡ None) ↔ ValidMap K D zs
  unfolding first_fault
  no_fault_iff_valid zs = (
    λ e. Rises-valid K D 0 zs (Rises-of_no_fault 0 None 0 zs refl e),
    λ v. no_fault_of_rises 0 None 0 zs refl (valid_rises K D zs v),
  )

  -- The check answers valid exactly for a valid map whose depth is not over the largest.
  pub check_valid_iff : (zs : List ℕ) → (map_check K D zs ≡ Ok None) ↔ ((D ≤ K) × ValidMap K D zs)
  unfolding map_check
  check_valid_iff zs = (there (ltb K D) refl (first_fault K D zs) refl, λ p. rw (le-ltb K D p.0, (no_fault_iff_valid zs).1 p.1) refl)
    where
      there : (t : Bool) → ltb K D ≡ t → (f : Option FirstFault) → first_fault K D zs ≡ f
          → cond t (Err Refusal.DepthOutOfRange) (Ok f) ≡ Ok None → (D ≤ K) × ValidMap K D zs
      there true p f q e = let n : ◌≡◌ {A = ℕ} 0 1 = cc in absurd (omega arith)
      there false p None q e = (ltb-false K D p, (no_fault_iff_valid zs).0 q)
      there false p (Some fault) q e = let n : ◌≡◌ {A = ℕ} 0 1 = cc in absurd (omega arith)
