-- The intersection of two coverages: exactly the hashes that are in both, as parted ranges. Assumes nothing.
use mathlib.Core.Path.{◌≡◌, refl}
use mathlib.Core.Bool.{Bool, true, false, cond}
use mathlib.Core.List.{List, [], ◌∷◌, ◌++◌}
use mathlib.Core.Logic.{◌⊎◌, inl, inr, ⊎_elim, ⊎_map, ◌↔◌}
use Prim.Native.Nat.{ℕ, ◌+◌, ◌≤◌, max, min}
use native.Mathlib.Omega.{arith}
use lib.Dec.{ltb}
use borrow.Author.Tests.{ltb-true, ltb-false}
use Rattle.coverage.specs.Ranges.{Range, range, common_with, intersection}
use Rattle.coverage.specs.Promises.{InRange, Some, InRanges, Parted}
use Rattle.coverage.proofs.Ranges.{Parted-from}

-- ---- what two ranges have in common
abbrev common : Range → Range → Range
common r q = range (max r.from q.from) (min r.to q.to)

in_common_iff : (r q : Range) (k : ℕ) → InRange (common r q) k ↔ (InRange r k × InRange q k)
in_common_iff r q k = (λ m. ((omega (arith, m.0), omega (arith, m.1)), (omega (arith, m.0), omega (arith, m.1))), λ m. (omega (arith, m.0.0, m.1.0), omega (arith, m.0.1, m.1.1)))

-- ---- exactly the hashes that are in both
Some-append : (P : Range → Type 0) (rs qs : List Range) → Some P (rs ++ qs) ↔ (Some P rs ⊎ Some P qs)
Some-append P [] qs = (inr, ⊎_elim absurd (λ m. m))
Some-append P (r ∷ rs) qs =
    let more = Some-append P rs qs in (
      ⊎_elim (λ p. inl (inl p)) (λ m. ⊎_map inr (λ n. n) (more.0 m)),
      ⊎_elim (⊎_map (λ p. p) (λ m. more.1 (inl m))) (λ m. inr (more.1 (inr m))),
    )

common_with-exact : (r : Range) (qs : List Range) (k : ℕ) → InRanges (common_with r qs) k ↔ (InRange r k × InRanges qs k)
unfolding common_with
common_with-exact r [] k = (absurd, λ m. m.1)
common_with-exact r (q ∷ qs) k = go (ltb (common r q).from (common r q).to) refl (common_with-exact r qs k)
  where
    go : (t : Bool) → ltb (common r q).from (common r q).to ≡ t → InRanges (common_with r qs) k ↔ (InRange r k × InRanges qs k)
        → InRanges (cond t (common r q ∷ common_with r qs) (common_with r qs)) k ↔ (InRange r k × InRanges (q ∷ qs) k)
    go true e more = (
      ⊎_elim (λ m. let b = (in_common_iff r q k).0 m in (b.0, inl b.1)) (λ m. let n = more.0 m in (n.0, inr n.1)),
      λ m. ⊎_elim (λ n. inl ((in_common_iff r q k).1 (m.0, n))) (λ n. inr (more.1 (m.0, n))) m.1,
    )
    go false e more = (
      λ m. let n = more.0 m in (n.0, inr n.1),
      λ m. ⊎_elim (λ n. absurd (let c = (in_common_iff r q k).1 (m.0, n) in omega (arith, c.0, c.1, ltb-false (common r q).from (common r q).to e))) (λ n. more.1 (m.0, n)) m.1,
    )

-- The intersection has the hashes that are in both.
pub intersection-exact : (rs qs : List Range) (k : ℕ) → InRanges (intersection rs qs) k ↔ (InRanges rs k × InRanges qs k)
unfolding intersection
intersection-exact [] qs k = (absurd, λ m. m.0)
intersection-exact (r ∷ rs) qs k =
    let here = common_with-exact r qs k in
    let more = intersection-exact rs qs k in
    let parts = Some-append (λ q. InRange q k) (common_with r qs) (intersection rs qs) in (
      λ m. ⊎_elim (λ n. let b = here.0 n in (inl b.0, b.1)) (λ n. let b = more.0 n in (inr b.0, b.1)) (parts.0 m),
      λ m. parts.1 (⊎_map (λ n. here.1 (n, m.1)) (λ n. more.1 (n, m.1)) m.0),
    )

-- ---- parted
Parted-append : (a m b : ℕ) (rs qs : List Range) → m ≤ b → Parted a m rs → Parted (m + 1) b qs → a ≤ m + 1 → Parted a b (rs ++ qs)
Parted-append a m b [] qs u p q l = Parted-from a (m + 1) b qs l q
Parted-append a m b (r ∷ rs) qs u p q l = (p.0, p.1, omega (arith, p.2), Parted-append (r.to + 1) m b rs qs u p.3 q (omega (arith, p.2)))

common_with-parted : (a b c : ℕ) (r : Range) (qs : List Range) → c ≤ max r.from a → Parted a b qs → Parted c r.to (common_with r qs)
unfolding common_with
common_with-parted a b c r [] u p = tt
common_with-parted a b c r (q ∷ qs) u p = go (ltb (common r q).from (common r q).to) refl (λ d v. common_with-parted (q.to + 1) b d r qs v p.3)
  where
    go : (t : Bool) → ltb (common r q).from (common r q).to ≡ t → ((d : ℕ) → d ≤ max r.from (q.to + 1) → Parted d r.to (common_with r qs))
        → Parted c r.to (cond t (common r q ∷ common_with r qs) (common_with r qs))
    go true e more = (omega (arith, p.0), ltb-true _ _ e, omega arith, more ((common r q).to + 1) (omega arith))
    go false e more = more c (omega (arith, p.0, p.1))

-- "rising ranges, none touching the next", if those of both are
pub intersection-parted : (a b c d : ℕ) (rs qs : List Range) → Parted a b rs → Parted c d qs → Parted a b (intersection rs qs)
unfolding intersection
intersection-parted a b c d [] qs p q = tt
intersection-parted a b c d (r ∷ rs) qs p q =
    Parted-append a r.to b (common_with r qs) (intersection rs qs) p.2 (common_with-parted c d a r qs (omega (arith, p.0)) q) (intersection-parted (r.to + 1) b c d rs qs p.3 q) (omega (arith, p.0, p.1))
