-- Ranges that touch, joined from the first one on: those that are joined so far stand with the last one first. Assumes nothing.
use mathlib.Core.Path.{◌≡◌, refl, ap, ◌∙◌}
use mathlib.Core.Bool.{Bool, true, false, cond}
use mathlib.Core.List.{List, [], ◌∷◌, ◌++◌, map, map-append, reverse, reverse-cons, reverse_aux}
use Prim.Native.Nat.{ℕ, zero, suc, ◌+◌, ◌-◌, ◌≤◌, ◌<◌}
use native.Mathlib.Numerals.{add-one}
use native.Mathlib.Omega.{arith}
use lib.Dec.{eqb}
use lib.ListN.{length, get_or, take, drop, set, length-reverse, length-reverse_aux, drop_of_length-le}
use lib.Seq.{drop-cons, take-suc, get_or-set_same, get_or-set_other}
use borrow.Author.Tests.{eq-eqb, ne_eqb}
use Rattle.zuniq.proofs.Codec.{cell, decodes}
use Rattle.coverage.specs.Ranges.{Range, range, join_front, join_touching, from_of, to_of}
use Rattle.coverage.specs.Coverage.{entry_ranges, coverage_of}
use Rattle.coverage.specs.Promises.{RangeOf, Stand}
use Rattle.coverage.proofs.Ranges.{join_front_lem}
use Rattle.coverage.proofs.Widths.{starts_below}

-- a range behind others, whose last stands first
abbrev onto : List Range → Range → List Range
onto [] r = r ∷ []
onto (q ∷ s) r = cond (eqb q.to r.from) (range q.from r.to ∷ s) (r ∷ q ∷ s)

-- ranges that are joined, the last one first, in front of ranges that are joined too: the two that meet may touch
abbrev pub unload : List Range → List Range → List Range
unload [] rs = rs
unload (q ∷ s) rs = reverse_aux s (join_front q rs)

unload-front : (s : List Range) (r : Range) (rs : List Range) → unload s (join_front r rs) ≡ unload (onto s r) rs
unload-front [] r rs = refl
unload-front (q ∷ s) r rs = ap (reverse_aux s) (join_front_lem q r rs) ∙ go (eqb q.to r.from)
  where
    go : (t : Bool) → reverse_aux s (cond t (join_front (range q.from r.to) rs) (q ∷ join_front r rs)) ≡ unload (cond t (range q.from r.to ∷ s) (r ∷ q ∷ s)) rs
    go true = refl
    go false = refl

unload-end : (s : List Range) → unload s [] ≡ reverse s
unload-end [] = refl
unload-end (q ∷ s) = refl

front_length : (q : Range) (rs : List Range) → 1 ≤ length (join_front q rs)
front_length q [] = omega arith
front_length q (r ∷ rs) = go (eqb q.to r.from)
  where
    go : (t : Bool) → 1 ≤ length (cond t (range q.from r.to ∷ rs) (q ∷ r ∷ rs))
    go true = omega arith
    go false = omega arith

pub unload-length : (s rs : List Range) → length s ≤ length (unload s rs)
unload-length [] rs = omega arith
unload-length (q ∷ s) rs = omega (arith, front_length q rs, length-reverse_aux s (join_front q rs))

-- the end of the last range; where there is none, the largest u64, at which no range starts
abbrev pub LastEnd : List Range → ℕ → Type 0
LastEnd [] e = e ≡ 18446744073709551615
LastEnd (q ∷ s) e = e ≡ q.to

-- The ranges of i entries are joined: n ranges s, the last one first.
pub record Joining (zs : List ℕ) (i n last : ℕ) (s : List Range) : Type 0 where
  pub within : i ≤ length zs
  pub number : n ≡ length s
  pub fewer : n ≤ i
  pub ends : LastEnd s last
  pub goal : coverage_of 29 zs ≡ unload s (join_touching (entry_ranges 29 (drop i zs)))

pub renumber : {zs : List ℕ} {i n m last end : ℕ} {s : List Range} → m ≡ n → end ≡ last → Joining zs i n last s → Joining zs i m end s
renumber e f j = rw (e, f) j

pub Joining-start : (zs : List ℕ) → Joining zs 0 0 18446744073709551615 []
unfolding coverage_of
Joining-start zs = record { within = omega arith; number = refl; fewer = omega arith; ends = refl; goal = refl }

pub Joining-end : (zs : List ℕ) (i n last : ℕ) (s : List Range) → Joining zs i n last s → length zs ≤ i → coverage_of 29 zs ≡ reverse s
unfolding join_touching entry_ranges
Joining-end zs i n last s j l = j.goal ∙ rw (drop_of_length-le zs l) (unload-end s)

module _ (zs : List ℕ) (i n last : ℕ) (s : List Range) (j : Joining zs i n last s) (l : i < length zs) (a b : ℕ) (x : RangeOf 29 (get_or zs i 0) a b) where
  next_goal : coverage_of 29 zs ≡ unload (onto s (range a b)) (join_touching (entry_ranges 29 (drop (i + 1) zs)))
  unfolding join_touching entry_ranges
  next_goal = j.goal ∙ rw (drop-cons zs i 0 l, (decodes 29 (get_or zs i 0) (cell x.depth x.hash)).1 x.is, add-one i, x.starts, x.ends) (unload-front s _ _)

  -- The next range starts where the last one ends, or elsewhere.
  pub Joining-same : a ≡ last → (q : Range) × (t : List Range) × (s ≡ q ∷ t) × Joining zs (i + 1) n b (range q.from b ∷ t)
  Joining-same e = go s j.number j.ends next_goal
    where
      go : (s : List Range) → n ≡ length s → LastEnd s last → coverage_of 29 zs ≡ unload (onto s (range a b)) (join_touching (entry_ranges 29 (drop (i + 1) zs)))
          → (q : Range) × (t : List Range) × (s ≡ q ∷ t) × Joining zs (i + 1) n b (range q.from b ∷ t)
      go [] m k g = absurd (omega (arith, starts_below x))
      go (q ∷ t) m k g = (
        q,
        t,
        refl,
        record {
          within = omega arith;
          number = m;
          fewer = omega (arith, j.fewer);
          ends = refl;
          goal = rw (eq-eqb q.to a (omega arith)) at g;
        },
      )

  pub Joining-new : (a ≡ last → ⊥) → Joining zs (i + 1) (n + 1) b (range a b ∷ s)
  Joining-new e = record {
    within = omega arith;
    number = omega (arith, j.number);
    fewer = omega (arith, j.fewer);
    ends = refl;
    goal = go s j.ends next_goal;
  }
    where
      go : (s : List Range) → LastEnd s last → coverage_of 29 zs ≡ unload (onto s (range a b)) (join_touching (entry_ranges 29 (drop (i + 1) zs)))
          → coverage_of 29 zs ≡ unload (range a b ∷ s) (join_touching (entry_ranges 29 (drop (i + 1) zs)))
      go [] k g = g
      go (q ∷ t) k g = rw (ne_eqb q.to a (λ z. e (omega arith))) at g

-- ---- in two buffers
-- the ranges in the first n places, the last one first
abbrev pub stack : ℕ → List ℕ → List ℕ → List Range
stack zero ss es = []
stack (suc n) ss es = range (get_or ss n 0) (get_or es n 0) ∷ stack n ss es

pub stack-length : (n : ℕ) (ss es : List ℕ) → length (stack n ss es) ≡ n
stack-length zero ss es = refl
stack-length (suc n) ss es = ap suc (stack-length n ss es)

-- What is stored behind them makes no difference.
stack-set_starts : (n m a : ℕ) (ss es : List ℕ) → n ≤ m → stack n (set ss m a) es ≡ stack n ss es
stack-set_starts zero m a ss es l = refl
stack-set_starts (suc n) m a ss es l = rw (get_or-set_other ss m n a 0 (λ e. omega arith)) (ap (λ (t : List Range). range (get_or ss n 0) (get_or es n 0) ∷ t) (stack-set_starts n m a ss es (omega arith)))

stack-set_ends : (n m a : ℕ) (ss es : List ℕ) → n ≤ m → stack n ss (set es m a) ≡ stack n ss es
stack-set_ends zero m a ss es l = refl
stack-set_ends (suc n) m a ss es l = rw (get_or-set_other es m n a 0 (λ e. omega arith)) (ap (λ (t : List Range). range (get_or ss n 0) (get_or es n 0) ∷ t) (stack-set_ends n m a ss es (omega arith)))

-- One more range is stored,
pub stack-new : (n a b : ℕ) (ss es : List ℕ) → n < length ss → n < length es → stack (n + 1) (set ss n a) (set es n b) ≡ range a b ∷ stack n ss es
stack-new n a b ss es u v =
    rw (add-one n, get_or-set_same ss n a 0 u, get_or-set_same es n b 0 v)
    (ap (λ (t : List Range). range a b ∷ t) (stack-set_starts n n a ss (set es n b) (omega arith) ∙ stack-set_ends n n b ss es (omega arith)))

-- or the last one ends elsewhere.
abbrev longer : ℕ → List Range → List Range
longer b [] = []
longer b (q ∷ t) = range q.from b ∷ t

pub stack-longer : (n b : ℕ) (ss es : List ℕ) (q : Range) (t : List Range) → n ≤ length es → stack n ss es ≡ q ∷ t → stack n ss (set es (n - 1) b) ≡ range q.from b ∷ t
stack-longer zero b ss es q t v e = absurd (let z = ap length e in omega arith)
stack-longer (suc n) b ss es q t v e =
    let i : suc n - 1 ≡ n = omega arith in
    rw (i, get_or-set_same es n b 0 v, stack-set_ends n n b ss es (omega arith)) (ap (longer b) e)

-- The first places, first one first.
pub stack-stands : (n : ℕ) (ss es : List ℕ) (rs : List Range) → n ≤ length ss → n ≤ length es → rs ≡ reverse (stack n ss es) → Stand rs ss es
stack-stands n ss es rs u v e =
    let k : length rs ≡ n = ap length e ∙ length-reverse (stack n ss es) ∙ stack-length n ss es in
    record {
      starts = rw (k, e) (starts n u);
      ends = rw (k, e) (ends n v);
    }
  where
    starts : (m : ℕ) → m ≤ length ss → take m ss ≡ map from_of (reverse (stack m ss es))
    starts zero l = refl
    starts (suc m) l = take-suc ss m 0 l ∙ rw (reverse-cons, map-append) (ap (λ (t : List ℕ). t ++ (get_or ss m 0 ∷ [])) (starts m (omega arith)))

    ends : (m : ℕ) → m ≤ length es → take m es ≡ map to_of (reverse (stack m ss es))
    ends zero l = refl
    ends (suc m) l = take-suc es m 0 l ∙ rw (reverse-cons, map-append) (ap (λ (t : List ℕ). t ++ (get_or es m 0 ∷ [])) (ends m (omega arith)))
