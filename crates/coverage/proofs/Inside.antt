-- What is in a coverage: the tests tell, and of ranges that do not touch one holds the whole of a cell that is inside. What lies in a
-- cell inside the coverage is inside it too. Over any largest depth K. Assumes nothing.
use mathlib.Core.Path.{◌≡◌, refl}
use mathlib.Core.Bool.{true, ◌&&◌, or-true, false≢true}
use mathlib.Core.List.{List, [], ◌∷◌}
use mathlib.Core.Logic.{inl, inr, ⊎_elim, ⊎_map, ◌↔◌}
use Prim.Native.Nat.{ℕ, zero, suc, ◌+◌, ◌-◌, ◌^◌, ◌≤◌, ◌<◌}
use native.Mathlib.Omega.{arith}
use lib.Dec.{leb, ltb}
use borrow.Author.Tests.{leb-true, ltb-true, le-leb, lt-ltb}
use Rattle.zuniq.specs.Cells.{lies_in, start, end}
use Rattle.zuniq.proofs.Basics.{and_is_true, or_is_true, le_or_lt}
use Rattle.zuniq.proofs.Ranges.{start-lt_end, lies_in-within, lies_in-iff_in_range, lies_in-trans}
use Rattle.coverage.specs.Ranges.{Range, in_ranges, all_in_ranges, in_coverage}
use Rattle.coverage.specs.Promises.{InRanges, Parted, AllInside, Inside}
use Rattle.coverage.proofs.Ranges.{InOne-range, one_range_in}

-- ---- hashes
-- "half-open ranges of depth-29 hashes": the test tells whether a hash is in one of them.
pub in_ranges-iff : (rs : List Range) (k : ℕ) → (in_ranges rs k ≡ true) ↔ InRanges rs k
unfolding in_ranges
in_ranges-iff [] k = (λ t. absurd (false≢true t), absurd)
in_ranges-iff (r ∷ rs) k =
    let more = in_ranges-iff rs k in (
      λ t. ⊎_map (λ u. let p = and_is_true (leb r.from k) (ltb k r.to) u in (leb-true r.from k p.0, ltb-true k r.to p.1)) more.0 (or_is_true (leb r.from k && ltb k r.to) (in_ranges rs k) t),
      ⊎_elim (λ p. rw (le-leb r.from k p.0, lt-ltb k r.to p.1)) (λ m. rw (more.1 m, or-true)),
    )

-- The test of n hashes from k on tells whether all of them are.
pub all_in_ranges-iff : (rs : List Range) (k n : ℕ) → (all_in_ranges rs k n ≡ true) ↔ ((j : ℕ) → k ≤ j → j < k + n → InRanges rs j)
unfolding all_in_ranges
all_in_ranges-iff rs k zero = (λ t j u v. absurd (omega arith), λ every. refl)
all_in_ranges-iff rs k (suc n) =
    let here = in_ranges-iff rs k in
    let more = all_in_ranges-iff rs (suc k) n in (
      λ t j u v.
          let p = and_is_true (in_ranges rs k) (all_in_ranges rs (suc k) n) t in
          ⊎_elim (λ l. let e : j ≡ k = omega arith in rw e (here.0 p.0)) (λ l. more.0 p.1 j l (omega arith)) (le_or_lt j k),
      λ every. rw (here.1 (every k (omega arith) (omega arith)), more.1 (λ j u v. every j (omega arith) (omega arith))),
    )

-- ---- cells
module _ (K : ℕ) where
  -- A range is as wide as its cell has depth-K cells.
  pub end-is_start_plus_width : (d h : ℕ) → end K d h ≡ start K d h + 4 ^ (K - d)
  unfolding start end
  end-is_start_plus_width d h = omega arith

  -- "inside the coverage": the test tells whether all depth-K cells of (d, h) are in the ranges, whatever these are.
  pub in_coverage-iff : (rs : List Range) (d h : ℕ) → d ≤ K → (in_coverage K rs d h ≡ true) ↔ AllInside K rs d h
  unfolding in_coverage
  in_coverage-iff rs d h u =
      let test = all_in_ranges-iff rs (start K d h) (4 ^ (K - d)) in
      let w = end-is_start_plus_width d h in (
        λ t k m. let v = (lies_in-iff_in_range K k d h u).0 m in test.0 t k v.0 (omega arith),
        λ every. test.1 (λ k v x. every k ((lies_in-iff_in_range K k d h u).1 (v, omega arith))),
      )

  -- "rising ranges, none touching the next": for an accepted coverage one range holds them all, and the other way round.
  pub Inside-iff_all : (a b : ℕ) (rs : List Range) (d h : ℕ) → d ≤ K → Parted a b rs → Inside K rs d h ↔ AllInside K rs d h
  Inside-iff_all a b rs d h u p = (
    λ m k t. let w = (lies_in-iff_in_range K k d h u).0 t in one_range_in (start K d h) (end K d h) k rs m w.0 w.1,
    λ every. InOne-range a b (start K d h) (end K d h) rs p (start-lt_end K d h) (λ k v w. every k ((lies_in-iff_in_range K k d h u).1 (v, w))),
  )

  -- What lies in a cell that one range holds is held by it,
  pub Inside-below : (rs : List Range) (d h e g : ℕ) → e ≤ K → lies_in e g d h ≡ true → Inside K rs d h → Inside K rs e g
  Inside-below [] d h e g u t m = m
  Inside-below (r ∷ rs) d h e g u t (inl m) = let w = lies_in-within K e g d h u t in inl (omega (arith, m.0, w.0), omega (arith, m.1, w.1))
  Inside-below (r ∷ rs) d h e g u t (inr m) = inr (Inside-below rs d h e g u t m)

  -- and what lies in a cell inside the coverage is inside it.
  pub AllInside-below : (rs : List Range) (d h e g : ℕ) → lies_in e g d h ≡ true → AllInside K rs d h → AllInside K rs e g
  AllInside-below rs d h e g t every k m = every k (lies_in-trans K k e g d h m t)
