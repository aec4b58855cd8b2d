-- The laws of ranges: joining those that touch leaves the same hashes in ranges that are parted, and there is only one way to do
-- so; of parted ranges, what lies in them as a whole lies in one of them. Assumes nothing.
use mathlib.Core.Path.{◌≡◌, refl, ap₂, sym, ◌∙◌}
use mathlib.Core.Bool.{Bool, true, false, cond}
use mathlib.Core.List.{List, [], ◌∷◌}
use mathlib.Core.Logic.{◌⊎◌, inl, inr, ⊎_elim, ⊎_map, ◌↔◌}
use Prim.Native.Nat.{ℕ, suc, ◌+◌, ◌≤◌, ◌<◌}
use native.Mathlib.Omega.{arith}
use lib.Dec.{eqb}
use lib.ListN.{length}
use borrow.Author.Tests.{eqb-true, eqb-false}
use Rattle.zuniq.proofs.Basics.{le_or_lt}
use Rattle.coverage.specs.Ranges.{Range, range, join_front, join_touching}
use Rattle.coverage.specs.Promises.{InRange, Some, HasRange, InRanges, InOne, Follow, Parted}

-- ---- some range, and a range of the list
pub Some-of_has : (P : Range → Type 0) (rs : List Range) (r : Range) → HasRange rs r → P r → Some P rs
Some-of_has P [] r m p = absurd m
Some-of_has P (q ∷ rs) r (inl e) p = inl (rw e at p)
Some-of_has P (q ∷ rs) r (inr m) p = inr (Some-of_has P rs r m p)

pub has_of_some : (P : Range → Type 0) (rs : List Range) → Some P rs → (r : Range) × HasRange rs r × P r
has_of_some P [] a = absurd a
has_of_some P (q ∷ rs) (inl p) = (q, inl refl, p)
has_of_some P (q ∷ rs) (inr a) = let r = has_of_some P rs a in (r.0, inr r.1, r.2)

-- ---- parted ranges
-- A parted range is in its bounds.
pub Parted-has : (a b : ℕ) (rs : List Range) (r : Range) → Parted a b rs → HasRange rs r → (a ≤ r.from) × (r.from < r.to) × (r.to ≤ b)
Parted-has a b [] r p m = absurd m
Parted-has a b (q ∷ rs) r p (inl e) = rw e (p.0, p.1, p.2)
Parted-has a b (q ∷ rs) r p (inr m) = let i = Parted-has (q.to + 1) b rs r p.3 m in (omega (arith, p.0, p.1, i.0), i.1, i.2)

-- Two parted ranges that have a hash in common are the same.
pub Parted-same : (a b k : ℕ) (rs : List Range) (r q : Range) → Parted a b rs → HasRange rs r → HasRange rs q → InRange r k → InRange q k → r ≡ q
Parted-same a b k [] r q p m n u v = absurd m
Parted-same a b k (x ∷ rs) r q p (inl e) (inl f) u v = e ∙ sym f
Parted-same a b k (x ∷ rs) r q p (inl e) (inr n) u v = let w : InRange x k = rw e at u in absurd (omega (arith, w.1, v.0, (Parted-has (x.to + 1) b rs q p.3 n).0))
Parted-same a b k (x ∷ rs) r q p (inr m) (inl f) u v = let w : InRange x k = rw f at v in absurd (omega (arith, w.1, u.0, (Parted-has (x.to + 1) b rs r p.3 m).0))
Parted-same a b k (x ∷ rs) r q p (inr m) (inr n) u v = Parted-same (x.to + 1) b k rs r q p.3 m n u v

-- What is in a parted range is in its bounds.
pub in_bounds : (a b k : ℕ) (rs : List Range) → Parted a b rs → InRanges rs k → (a ≤ k) × (k < b)
in_bounds a b k [] p m = absurd m
in_bounds a b k (r ∷ rs) p (inl m) = (omega (arith, p.0, m.0), omega (arith, p.2, m.1))
in_bounds a b k (r ∷ rs) p (inr m) = let i = in_bounds (r.to + 1) b k rs p.3 m in (omega (arith, p.0, p.1, i.0), i.1)

-- Parted ranges may be said to start earlier.
pub Parted-from : (a c b : ℕ) (rs : List Range) → a ≤ c → Parted c b rs → Parted a b rs
Parted-from a c b [] u p = tt
Parted-from a c b (r ∷ rs) u p = (omega (arith, p.0), p.1, p.2, p.3)

-- A stretch whose every hash is in parted ranges is in one of them.
pub InOne-range : (a b s t : ℕ) (rs : List Range) → Parted a b rs → s < t → ((k : ℕ) → s ≤ k → k < t → InRanges rs k)
    → InOne rs s t
InOne-range a b s t [] p u every = every s (omega arith) u
InOne-range a b s t (r ∷ rs) p u every = ⊎_elim here (λ m. inr (later m (InOne-range (r.to + 1) b s t rs p.3 u))) (every s (omega arith) u)
  where
    here : InRange r s → ((r.from ≤ s) × (t ≤ r.to)) ⊎ InOne rs s t
    here m = ⊎_elim (λ l. inl (m.0, l)) (λ l. absurd (⊎_elim (λ n. omega (arith, n.1)) (λ n. omega (arith, (in_bounds (r.to + 1) b r.to rs p.3 n).0)) (every r.to (omega (arith, m.1)) l))) (le_or_lt t r.to)

    later : InRanges rs s → (((k : ℕ) → s ≤ k → k < t → InRanges rs k) → InOne rs s t) → InOne rs s t
    later m more = more (λ k v w. ⊎_elim (λ n. absurd (omega (arith, n.1, (in_bounds (r.to + 1) b s rs p.3 m).0))) (λ n. n) (every k v w))

-- A stretch in one range has its every hash in the ranges.
pub one_range_in : (s t k : ℕ) (rs : List Range) → InOne rs s t → s ≤ k → k < t → InRanges rs k
one_range_in s t k [] m u v = absurd m
one_range_in s t k (r ∷ rs) (inl m) u v = inl (omega (arith, m.0), omega (arith, m.1))
one_range_in s t k (r ∷ rs) (inr m) u v = inr (one_range_in s t k rs m u v)

-- Parted ranges that have the same hashes are the same.
pub Parted-unique : (a b c d : ℕ) (rs qs : List Range) → Parted a b rs → Parted c d qs → ((k : ℕ) → InRanges rs k → InRanges qs k) → ((k : ℕ) → InRanges qs k → InRanges rs k) → rs ≡ qs
Parted-unique a b c d [] [] p q there back = refl
Parted-unique a b c d [] (y ∷ qs) p q there back = absurd (back y.from (inl (omega arith, q.1)))
Parted-unique a b c d (x ∷ rs) [] p q there back = absurd (there x.from (inl (omega arith, p.1)))
Parted-unique a b c d (x ∷ rs) (y ∷ qs) p q there back = ap₂ ◌∷◌ same (Parted-unique (x.to + 1) b (y.to + 1) d rs qs p.3 q.3 tail_there tail_back)
  where
    first : (x y : Range) (b d : ℕ) (rs qs : List Range) → x.from < x.to → y.from < y.to → Parted (y.to + 1) d qs → ((k : ℕ) → InRanges (x ∷ rs) k → InRanges (y ∷ qs) k) → y.from ≤ x.from
    first x y b d rs qs u v q there = ⊎_elim (λ m. m.0) (λ m. omega (arith, (in_bounds (y.to + 1) d x.from qs q m).0)) (there x.from (inl (omega arith, u)))

    last : (x y : Range) (b d : ℕ) (rs qs : List Range) → x.from ≡ y.from → x.from < x.to → Parted (x.to + 1) b rs → ((k : ℕ) → InRanges (y ∷ qs) k → InRanges (x ∷ rs) k) → y.to ≤ x.to
    last x y b d rs qs e u p back = ⊎_elim (λ l. l) (λ l. absurd (⊎_elim (λ m. omega (arith, m.1)) (λ m. omega (arith, (in_bounds (x.to + 1) b x.to rs p m).0)) (back x.to (inl (omega arith, l))))) (le_or_lt y.to x.to)

    from_is : x.from ≡ y.from
    from_is = omega (arith, first x y b d rs qs p.1 q.1 q.3 there, first y x d b qs rs q.1 p.1 p.3 back)

    to_is : x.to ≡ y.to
    to_is = omega (arith, last x y b d rs qs from_is p.1 p.3 back, last y x d b qs rs (sym from_is) q.1 q.3 there)

    same : x ≡ y
    same = ap₂ range from_is to_is

    tail_there : (k : ℕ) → InRanges rs k → InRanges qs k
    tail_there k m = ⊎_elim (λ n. absurd (omega (arith, n.1, (in_bounds (x.to + 1) b k rs p.3 m).0, to_is))) (λ n. n) (there k (inr m))

    tail_back : (k : ℕ) → InRanges qs k → InRanges rs k
    tail_back k m = ⊎_elim (λ n. absurd (omega (arith, n.1, (in_bounds (y.to + 1) d k qs q.3 m).0, to_is))) (λ n. n) (back k (inr m))

-- ---- joining those that touch
-- Joined, the first range still starts where it did, and it is in front of the others.
pub join_front_lem : (r q : Range) (rs : List Range) → join_front r (join_front q rs) ≡ cond (eqb r.to q.from) (join_front (range r.from q.to) rs) (r ∷ join_front q rs)
join_front_lem r q [] = refl
join_front_lem r q (x ∷ rs) = go (eqb q.to x.from) (eqb r.to q.from)
  where
    go : (s t : Bool) → join_front r (cond s (range q.from x.to ∷ rs) (q ∷ x ∷ rs)) ≡ cond (eqb r.to q.from) (cond s (range r.from x.to ∷ rs) (range r.from q.to ∷ x ∷ rs)) (r ∷ cond s (range q.from x.to ∷ rs) (q ∷ x ∷ rs))
    go true t = refl
    go false t = refl

-- Joining leaves the same hashes,
join_front-in : (r : Range) (rs : List Range) (a b k : ℕ) → r.from < r.to → Parted a b rs → r.to ≤ a → InRanges (join_front r rs) k ↔ (InRange r k ⊎ InRanges rs k)
join_front-in r [] a b k u p l = (λ m. m, λ m. m)
join_front-in r (q ∷ rs) a b k u p l = go (eqb r.to q.from) refl
  where
    go : (t : Bool) → eqb r.to q.from ≡ t → InRanges (cond t (range r.from q.to ∷ rs) (r ∷ q ∷ rs)) k ↔ (InRange r k ⊎ InRanges (q ∷ rs) k)
    go false e = (λ m. m, λ m. m)
    go true e =
        let z : r.to ≡ q.from = eqb-true _ _ e in (
          ⊎_elim (λ m. ⊎_elim (λ v. inr (inl (omega arith, m.1))) (λ v. inl (m.0, v)) (le_or_lt r.to k)) (λ m. inr (inr m)),
          ⊎_elim (λ m. inl (m.0, omega (arith, m.1, p.1))) (⊎_map (λ m. (omega (arith, m.0), m.1)) (λ m. m)),
        )

-- and what is left is parted.
join_front-parted : (a b : ℕ) (r : Range) (rs : List Range) → a ≤ r.from → r.from < r.to → r.to ≤ b → Parted r.to b rs → Parted a b (join_front r rs)
join_front-parted a b r [] u v w p = (u, v, w, tt)
join_front-parted a b r (q ∷ rs) u v w p = go (eqb r.to q.from) refl
  where
    go : (t : Bool) → eqb r.to q.from ≡ t → Parted a b (cond t (range r.from q.to ∷ rs) (r ∷ q ∷ rs))
    go true e = (u, omega (arith, p.0, p.1), p.2, p.3)
    go false e = (u, v, w, (⊎_elim (λ l. absurd (eqb-false r.to q.from e (omega (arith, p.0)))) (λ l. omega arith) (le_or_lt q.from r.to), p.1, p.2, p.3))

Follow-le : (a b : ℕ) (rs : List Range) → Follow a b rs → a ≤ b
Follow-le a b [] f = f
Follow-le a b (r ∷ rs) f = omega (arith, f.0, f.1, Follow-le r.to b rs f.2)

-- "as rising ranges, none touching the next"
pub join_parted : (a b : ℕ) (rs : List Range) → Follow a b rs → Parted a b (join_touching rs)
unfolding join_touching
join_parted a b [] f = tt
join_parted a b (r ∷ rs) f = join_front-parted a b r (join_touching rs) f.0 f.1 (Follow-le r.to b rs f.2) (join_parted r.to b rs f.2)

-- "exactly": the same hashes
pub join_exact : (a b k : ℕ) (rs : List Range) → Follow a b rs → InRanges (join_touching rs) k ↔ InRanges rs k
unfolding join_touching
join_exact a b k [] f = (λ m. m, λ m. m)
join_exact a b k (r ∷ rs) f =
    let more = join_exact r.to b k rs f.2 in
    let here = join_front-in r (join_touching rs) r.to b k f.1 (join_parted r.to b rs f.2) (omega arith) in
    (λ m. ⊎_map (λ n. n) more.0 (here.0 m), λ m. here.1 (⊎_map (λ n. n) more.1 m))

-- and there are not more ranges than before.
join_front-fewer : (r : Range) (rs : List Range) → length (join_front r rs) ≤ suc (length rs)
join_front-fewer r [] = omega arith
join_front-fewer r (q ∷ rs) = go (eqb r.to q.from)
  where
    go : (t : Bool) → length (cond t (range r.from q.to ∷ rs) (r ∷ q ∷ rs)) ≤ suc (length (q ∷ rs))
    go true = omega arith
    go false = omega arith

pub join_fewer : (rs : List Range) → length (join_touching rs) ≤ length rs
unfolding join_touching
join_fewer [] = omega arith
join_fewer (r ∷ rs) = omega (arith, join_front-fewer r (join_touching rs), join_fewer rs)
