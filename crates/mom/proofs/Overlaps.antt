-- Zuniqs that overlap, and that contain one another, told by their cells and their ranges. Over any largest depth K.
-- Assumes nothing.
use mathlib.Core.Path.{◌≡◌, refl, sym, ◌∙◌}
use mathlib.Core.Bool.{true, false, false≢true}
use mathlib.Core.Logic.{◌↔◌}
use Prim.Native.Nat.{ℕ, ◌+◌, ◌/◌, ◌-◌, ◌^◌, ◌≤◌, ◌<◌}
use native.Mathlib.Omega.{arith}
use borrow.Author.Tests.{le-leb}
use Rattle.zuniq.specs.Cells.{lies_in, overlap, start, end}
use Rattle.zuniq.specs.Codec.{IsZuniqOf, decode, overlap_test, overlap_of}
use Rattle.zuniq.specs.declared.Decoded.{Decoded}
use Rattle.zuniq.proofs.Basics.{eqb-sym}
use Rattle.zuniq.proofs.Codec.{cell, zuniq-injective, decodes}
use Rattle.zuniq.proofs.Ranges.{start-lt_end, zuniq-is_start_plus_end, overlap-sym, overlap-ancestor, lies_in-within, overlap-iff_meets, end-le_start_iff_zuniq_lt}
use Rattle.mom.specs.Map.{IsZuniq, is_yes, overlaps}
use Rattle.mom.specs.Lookup.{cell_lies_in, contains}

-- A cell overlaps one that is no deeper exactly if it lies in it.
overlap-shallower : (d h e g : ℕ) → e ≤ d → overlap d h e g ≡ lies_in d h e g
unfolding lies_in
overlap-shallower d h e g l = rw (overlap-sym d h e g, overlap-ancestor e g d h l, le-leb e d l) (eqb-sym g (h / 4 ^ (d - e)))

-- Overlapping is symmetric.
pub overlaps-sym : (K y z : ℕ) → overlaps K y z ≡ overlaps K z y
unfolding overlaps is_yes overlap_test overlap_of
overlaps-sym K y z = go (decode K y) (decode K z)
  where
    go : (a b : Decoded) → is_yes (overlap_of a b) ≡ is_yes (overlap_of b a)
    go Decoded.Nothing Decoded.Nothing = refl
    go Decoded.Nothing (Decoded.Cell e) = refl
    go (Decoded.Cell c) Decoded.Nothing = refl
    go (Decoded.Cell c) (Decoded.Cell e) = overlap-sym c.depth c.hash e.depth e.hash

module _ {K : ℕ} where
  -- A zuniq has one cell.
  pub cell_unique : {z d h e g : ℕ} → IsZuniqOf K z d h → IsZuniqOf K z e g → (d ≡ e) × (h ≡ g)
  cell_unique {z} {d} {h} {e} {g} v w = zuniq-injective K d h e g v.deep w.deep (sym v.is ∙ w.is)

  -- Zuniqs that overlap are valid.
  pub overlaps-valid : (y z : ℕ) → overlaps K y z ≡ true → IsZuniq K y × IsZuniq K z
  unfolding overlaps is_yes overlap_test overlap_of
  overlaps-valid y z t = go (decode K y) refl (decode K z) refl t
    where
      go : (a : Decoded) → decode K y ≡ a → (b : Decoded) → decode K z ≡ b → is_yes (overlap_of a b) ≡ true → IsZuniq K y × IsZuniq K z
      go Decoded.Nothing p b q u = absurd (false≢true u)
      go (Decoded.Cell c) p Decoded.Nothing q u = absurd (false≢true u)
      go (Decoded.Cell c) p (Decoded.Cell e) q u = ((c.depth, c.hash, (decodes K y c).0 p), (e.depth, e.hash, (decodes K z e).0 q))

  -- So are a zuniq that is contained in another, and the other.
  pub contains-valid : (q z : ℕ) → contains K q z ≡ true → IsZuniq K q × IsZuniq K z
  unfolding contains cell_lies_in
  contains-valid q z t = go (decode K q) refl (decode K z) refl t
    where
      go : (a : Decoded) → decode K q ≡ a → (b : Decoded) → decode K z ≡ b → cell_lies_in a b ≡ true → IsZuniq K q × IsZuniq K z
      go Decoded.Nothing p b r u = absurd (false≢true u)
      go (Decoded.Cell c) p Decoded.Nothing r u = absurd (false≢true u)
      go (Decoded.Cell c) p (Decoded.Cell e) r u = ((c.depth, c.hash, (decodes K q c).0 p), (e.depth, e.hash, (decodes K z e).0 r))

  -- A zuniq is the sum of the two ends of its range.
  pub zuniq_sum : {z d h : ℕ} → IsZuniqOf K z d h → z ≡ start K d h + end K d h
  zuniq_sum {z} {d} {h} v = v.is ∙ zuniq-is_start_plus_end K d h

  module _ {y z d h e g : ℕ} (v : IsZuniqOf K y d h) (w : IsZuniqOf K z e g) where
    -- Two zuniqs overlap as their cells do.
    pub overlaps-cells : overlaps K y z ≡ overlap d h e g
    unfolding overlaps is_yes overlap_test overlap_of
    overlaps-cells = rw ((decodes K y (cell d h)).1 v, (decodes K z (cell e g)).1 w) refl

    -- One contains the other as their cells do.
    pub contains-cells : contains K y z ≡ lies_in d h e g
    unfolding contains cell_lies_in
    contains-cells = rw ((decodes K y (cell d h)).1 v, (decodes K z (cell e g)).1 w) refl

    -- Two zuniqs overlap exactly if their ranges meet.
    pub overlaps-iff_meets : (overlaps K y z ≡ true) ↔ ((start K d h < end K e g) × (start K e g < end K d h))
    overlaps-iff_meets = rw overlaps-cells (overlap-iff_meets K d h e g v.deep w.deep)

    -- Of two in order the second overlaps the first exactly if it starts before that ends.
    pub overlaps-iff_starts_before : y ≤ z → (overlaps K y z ≡ true) ↔ (start K e g < end K d h)
    overlaps-iff_starts_before l =
        let p = start-lt_end K d h in
        let q = start-lt_end K e g in
        (λ t. (overlaps-iff_meets.0 t).1, λ u. overlaps-iff_meets.1 (omega (arith, zuniq_sum v, zuniq_sum w), u))

    -- One ends where the other starts, or before, exactly if it is smaller and the two do not overlap.
    pub end-le_start_iff_above : (end K d h ≤ start K e g) ↔ ((y < z) × (overlaps K y z ≡ false))
    end-le_start_iff_above = rw (overlaps-cells, v.is, w.is) (end-le_start_iff_zuniq_lt K d h e g v.deep w.deep)

    -- A zuniq that is contained in another has its range within the other's.
    pub contains-within : contains K y z ≡ true → (start K e g ≤ start K d h) × (end K d h ≤ end K e g)
    contains-within t = lies_in-within K d h e g v.deep (sym contains-cells ∙ t)

    -- A zuniq is contained in those that it overlaps and that are no deeper.
    pub contains-shallower : e ≤ d → contains K y z ≡ overlaps K y z
    contains-shallower l = rw (contains-cells, overlaps-cells) (sym (overlap-shallower d h e g l))
