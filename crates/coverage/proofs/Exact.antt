-- The coverage of a valid map: exactly the depth-K cells that lie in an entry, as parted ranges, at most as many as entries; and these
-- are the only parted ranges that are. Over any largest depth K. Assumes nothing.
use mathlib.Core.Path.{◌≡◌}
use mathlib.Core.Bool.{true}
use mathlib.Core.List.{List, [], ◌∷◌}
use mathlib.Core.Logic.{◌⊎◌, inl, inr, ⊎_elim, ◌↔◌}
use Prim.Native.Nat.{ℕ, zero, suc, ◌≤◌, ◌<◌}
use native.Mathlib.Nat.{le_of_suc-le-suc}
use native.Mathlib.Omega.{arith}
use lib.ListN.{length, get_or}
use Rattle.zuniq.specs.Cells.{n_hash, lies_in, start, end}
use Rattle.zuniq.specs.Codec.{IsZuniqOf, decode}
use Rattle.zuniq.specs.declared.Decoded.{Decoded}
use Rattle.zuniq.proofs.Codec.{cell, decodes}
use Rattle.zuniq.proofs.Ranges.{start-lt_end, lies_in-iff_in_range, valid_iff_end_le}
use Rattle.mom.specs.Map.{ValidMap}
use Rattle.mom.proofs.Overlaps.{cell_unique}
use Rattle.mom.proofs.Rises.{Rises, valid_rises}
use Rattle.coverage.specs.Ranges.{Range, range}
use Rattle.coverage.specs.Coverage.{with_range, entry_ranges, coverage_of}
use Rattle.coverage.specs.Promises.{InRange, InRanges, Follow, Parted, InEntry}
use Rattle.coverage.proofs.Ranges.{Parted-unique, join_parted, join_exact, join_fewer}

module _ (K : ℕ) where
  -- ---- the number of ranges
  with_range-fewer : (e : Decoded) (rs : List Range) → length (with_range K e rs) ≤ suc (length rs)
  with_range-fewer (Decoded.Cell c) rs = omega arith
  with_range-fewer Decoded.Nothing rs = omega arith

  entries_fewer : (zs : List ℕ) → length (entry_ranges K zs) ≤ length zs
  unfolding entry_ranges
  entries_fewer [] = omega arith
  entries_fewer (z ∷ zs) = omega (arith, with_range-fewer (decode K z) (entry_ranges K zs), entries_fewer zs)

  -- A coverage has at most as many ranges as the map has entries.
  pub coverage_fewer : (zs : List ℕ) → length (coverage_of K zs) ≤ length zs
  unfolding coverage_of
  coverage_fewer zs = omega (arith, join_fewer (entry_ranges K zs), entries_fewer zs)

module _ (K D : ℕ) where
  -- ---- the ranges of the entries
  -- Those of a valid map follow one another.
  Follow-from : (b : ℕ) (zs : List ℕ) → b ≤ n_hash K → Rises K D b zs → Follow b (n_hash K) (entry_ranges K zs)
  unfolding entry_ranges
  Follow-from b [] u r = u
  Follow-from b (z ∷ zs) u r =
      let e = r.0 in
      rw ((decodes K z (cell e.depth e.hash)).1 e.is)
      (e.from, start-lt_end K e.depth e.hash, Follow-from (end K e.depth e.hash) zs ((valid_iff_end_le K e.depth e.hash e.is.deep).0 e.is.hash) r.1)

  -- They hold the depth-K cells that lie in an entry.
  entry_ranges-in : (b k : ℕ) (zs : List ℕ) → Rises K D b zs → InRanges (entry_ranges K zs) k ↔ InEntry K zs k
  unfolding entry_ranges
  entry_ranges-in b k [] r = (absurd, λ m. absurd (omega (arith, m.within)))
  entry_ranges-in b k (z ∷ zs) r =
      let e = r.0 in
      let in_range = lies_in-iff_in_range K k e.depth e.hash e.is.deep in
      let more = entry_ranges-in (end K e.depth e.hash) k zs r.1 in
      rw ((decodes K z (cell e.depth e.hash)).1 e.is) (
        ⊎_elim
            (λ m. record { place = 0; within = omega arith; depth = e.depth; hash = e.hash; is = e.is; inside = in_range.1 m })
            (λ m. let t = more.0 m in record { place = suc t.place; within = omega (arith, t.within); depth = t.depth; hash = t.hash; is = t.is; inside = t.inside }),
        λ m. split m m.place m.within m.is more.1 (λ d h v t. let u = cell_unique v e.is in in_range.0 (rw (u.0, u.1) at t)),
      )
    where
      split : (m : InEntry K (z ∷ zs) k) (i : ℕ) → i < length (z ∷ zs) → IsZuniqOf K (get_or (z ∷ zs) i 0) m.depth m.hash
          → (InEntry K zs k → InRanges (entry_ranges K zs) k) → ((d h : ℕ) → IsZuniqOf K z d h → lies_in K k d h ≡ true → InRange (range (start K r.0.depth r.0.hash) (end K r.0.depth r.0.hash)) k)
          → InRange (range (start K r.0.depth r.0.hash) (end K r.0.depth r.0.hash)) k ⊎ InRanges (entry_ranges K zs) k
      split m zero u v more first = inl (first m.depth m.hash v m.inside)
      split m (suc i) u v more first = inr (more (record { place = i; within = le_of_suc-le-suc u; depth = m.depth; hash = m.hash; is = v; inside = m.inside }))

  -- ---- the coverage
  module _ (zs : List ℕ) (v : ValidMap K D zs) where
    entries_follow : Follow 0 (n_hash K) (entry_ranges K zs)
    entries_follow = Follow-from 0 zs (omega arith) (valid_rises K D zs v)

    -- "as rising ranges, none touching the next"
    pub coverage_parted : Parted 0 (n_hash K) (coverage_of K zs)
    unfolding coverage_of
    coverage_parted = join_parted 0 (n_hash K) (entry_ranges K zs) entries_follow

    -- "exactly the depth-29 cells that lie in an entry"
    pub coverage_exact : (k : ℕ) → InRanges (coverage_of K zs) k ↔ InEntry K zs k
    unfolding coverage_of
    coverage_exact k =
        let j = join_exact 0 (n_hash K) k (entry_ranges K zs) entries_follow in
        let e = entry_ranges-in 0 k zs (valid_rises K D zs v) in
        (λ m. e.0 (j.0 m), λ m. j.1 (e.1 m))

    -- "its coverage": any rising ranges, none touching the next, with exactly these cells are it.
    pub coverage_unique : (a b : ℕ) (rs : List Range) → Parted a b rs → ((k : ℕ) → InRanges rs k ↔ InEntry K zs k) → rs ≡ coverage_of K zs
    coverage_unique a b rs p exact = Parted-unique a b 0 (n_hash K) rs (coverage_of K zs) p coverage_parted (λ k m. (coverage_exact k).1 ((exact k).0 m)) (λ k m. (exact k).1 ((coverage_exact k).0 m))
