-- The range that `range_of` answers is that of the cell, and whether two zuniqs overlap is told by their ranges. Over any
-- largest depth K. Assumes nothing.
use mathlib.Core.Path.{◌≡◌, refl, ap}
use mathlib.Core.Bool.{Bool, true, false, ◌&&◌}
use mathlib.Core.Logic.{◌↔◌}
use Prim.Native.Nat.{ℕ, ◌*◌, ◌<◌}
use native.Mathlib.Omega.{arith}
use lib.Dec.{ltb}
use borrow.Author.Tests.{ltb-true, ltb-false}
use Rattle.std.specs.Prelude.{Option, None, Some}
use Rattle.zuniq.specs.Cells.{start, end}
use Rattle.zuniq.specs.Codec.{IsZuniqOf, decode, overlap_test, overlap_of}
use Rattle.zuniq.specs.declared.Cell.{Cell}
use Rattle.zuniq.specs.declared.Decoded.{Decoded}
use Rattle.zuniq.proofs.Basics.{is_false}
use Rattle.zuniq.proofs.Codec.{decodes}
use Rattle.mom.specs.declared.ZuniqRange.{ZuniqRange}
use Rattle.mom.specs.Map.{is_yes, overlaps}
use Rattle.mom.specs.Range.{cell_range, range_of, ranges_meet, meets}
use Rattle.mom.proofs.Overlaps.{overlaps-iff_meets}

-- z encodes a cell, and r is its range
pub record HasRange (K z : ℕ) (r : ZuniqRange) : Type 0 where
  pub cell : Cell
  pub decoded : decode K z ≡ Decoded.Cell cell
  pub deep : r.depth ≡ cell.depth
  pub starts : r.start ≡ 2 * start K cell.depth cell.hash
  pub ends : r.end ≡ 2 * end K cell.depth cell.hash
  pub valid : IsZuniqOf K z cell.depth cell.hash

module _ (K z : ℕ) where
  pub has_range : (r : ZuniqRange) → range_of K z ≡ Some r → HasRange K z r
  unfolding range_of cell_range
  has_range r e = go (decode K z) refl e
    where
      go : (d : Decoded) → decode K z ≡ d → cell_range K d ≡ Some r → HasRange K z r
      go Decoded.Nothing p q = let n : ◌≡◌ {A = ℕ} 0 1 = cc in absurd (omega arith)
      go (Decoded.Cell c) p q =
          let same : r ≡ record { depth = c.depth; start = 2 * start K c.depth c.hash; end = 2 * end K c.depth c.hash } = cc in
          record {
            cell = c;
            decoded = p;
            deep = ap (λ (x : ZuniqRange). x.depth) same;
            starts = ap (λ (x : ZuniqRange). x.start) same;
            ends = ap (λ (x : ZuniqRange). x.end) same;
            valid = (decodes K z c).0 p;
          }

  -- What has no range is no zuniq.
  pub has_none : range_of K z ≡ None → decode K z ≡ Decoded.Nothing
  unfolding range_of cell_range
  has_none e = go (decode K z) e
    where
      go : (d : Decoded) → cell_range K d ≡ None → d ≡ Decoded.Nothing
      go Decoded.Nothing q = refl
      go (Decoded.Cell c) q = let n : ◌≡◌ {A = ℕ} 0 1 = cc in absurd (omega arith)

module _ {K q : ℕ} {r : ZuniqRange} (a : HasRange K q r) where
  -- Two zuniqs overlap exactly if each starts before the other ends.
  overlaps-iff_ranges_meet : {z : ℕ} {s : ZuniqRange} → HasRange K z s → (overlaps K q z ≡ true) ↔ ((r.start < s.end) × (s.start < r.end))
  overlaps-iff_ranges_meet b =
      let m = overlaps-iff_meets a.valid b.valid in
      rw (a.starts, a.ends, b.starts, b.ends) (λ t. omega (arith, m.0 t), λ p. m.1 (omega arith))

  -- So a zuniq overlaps what its range meets.
  pub overlaps-meets : (z : ℕ) → overlaps K q z ≡ meets K r z
  unfolding meets ranges_meet overlaps is_yes overlap_test overlap_of
  overlaps-meets z = go (range_of K z) refl
    where
      tests : (s : ZuniqRange) → (overlaps K q z ≡ true) ↔ ((r.start < s.end) × (s.start < r.end))
          → (x : Bool) → ltb r.start s.end ≡ x → (y : Bool) → ltb s.start r.end ≡ y → overlaps K q z ≡ (x && y)
      tests s law true k true l = law.1 (ltb-true _ _ k, ltb-true _ _ l)
      tests s law true k false l = is_false _ (λ o. omega (arith, law.0 o, ltb-false))
      tests s law false k y l = is_false _ (λ o. omega (arith, law.0 o, ltb-false))

      go : (x : Option ZuniqRange) → range_of K z ≡ x → overlaps K q z ≡ ranges_meet r x
      go None g = rw (a.decoded, has_none K z g) refl
      go (Some s) g = tests s (overlaps-iff_ranges_meet (has_range K z s g)) _ refl _ refl
