-- A given coverage: its ranges in two buffers, and row 14, which none of them may break. Ranges pass exactly if they are parted; where
-- they don't, the first that is faulty is told. Assumes nothing.
use mathlib.Core.Path.{◌≡◌, refl, ap, ◌∙◌}
use mathlib.Core.Bool.{Bool, true, false, ◌||◌, or-true}
use mathlib.Core.List.{List, [], ◌∷◌}
use mathlib.Core.Logic.{◌⊎◌, inl, inr, ⊎_elim, ⊎_map, ◌↔◌}
use mathlib.Core.Option.{none, some}
use Prim.Native.Nat.{ℕ, zero, suc, ◌+◌, ◌≤◌, ◌<◌}
use native.Mathlib.Numerals.{add-one}
use native.Mathlib.Omega.{arith}
use lib.Dec.{leb, ltb}
use lib.ListN.{length, get_or, drop, drop_of_length-le}
use lib.Seq.{drop-cons}
use borrow.Author.Tests.{le-ltb, lt-leb, ltb-true, ltb-false, leb-true, leb-false}
use Rattle.refusal.specs.declared.Refusal.{Refusal}
use Rattle.zuniq.proofs.Basics.{or_is_true}
use Rattle.refusal.specs.Checks.{or_else, refused_if}
use Rattle.refusal.proofs.Checks.{or_else_none, refused_if-none}
use Rattle.build.proofs.Checking.{or_false_both}
use Rattle.coverage.specs.Ranges.{Range, range, ranges_of, ranges_refusal}
use Rattle.coverage.specs.Promises.{Parted}

-- row 14 of one range, `least` being the least start that is above the previous end
abbrev pub is_faulty : ℕ → ℕ → Range → Bool
is_faulty sky least r = leb r.to r.from || (ltb sky r.to || ltb r.from least)

-- of three tests one is true, or none is
pub one_true : (a b c : Bool) → (a ≡ true) ⊎ ((b ≡ true) ⊎ (c ≡ true)) → (a || (b || c)) ≡ true
one_true a b c (inl e) = rw e
one_true a b c (inr (inl e)) = rw e (or-true a)
one_true a b c (inr (inr e)) = rw (e, or-true b) (or-true a)

pub none_true : (a b c : Bool) → a ≡ false → b ≡ false → c ≡ false → (a || (b || c)) ≡ false
none_true a b c e f g = rw (e, f, g)

-- ---- what passes
faulty_false : (sky least : ℕ) (r : Range) → is_faulty sky least r ≡ false → (least ≤ r.from) × (r.from < r.to) × (r.to ≤ sky)
faulty_false sky least r e =
    let a = or_false_both (leb r.to r.from) (ltb sky r.to || ltb r.from least) e in
    let b = or_false_both (ltb sky r.to) (ltb r.from least) a.1 in
    (ltb-false r.from least b.1, leb-false r.to r.from a.0, ltb-false sky r.to b.0)

not_faulty : (sky least : ℕ) (r : Range) → least ≤ r.from → r.from < r.to → r.to ≤ sky → is_faulty sky least r ≡ false
not_faulty sky least r u v w = none_true _ _ _ (lt-leb r.to r.from v) (le-ltb sky r.to w) (le-ltb r.from least u)

passed_parted : (sky least i : ℕ) (rs : List Range) → ranges_refusal sky least i rs ≡ none → Parted least sky rs
unfolding ranges_refusal
passed_parted sky least i [] e = tt
passed_parted sky least i (r ∷ rs) e =
    let a = or_else_none (refused_if (is_faulty sky least r) (Refusal.InvalidRange i)) (ranges_refusal sky (r.to + 1) (i + 1) rs) e in
    let b = faulty_false sky least r (refused_if-none (is_faulty sky least r) (Refusal.InvalidRange i) a.0) in
    (b.0, b.1, b.2, passed_parted sky (r.to + 1) (i + 1) rs a.1)

Parted-passes : (sky least i : ℕ) (rs : List Range) → Parted least sky rs → ranges_refusal sky least i rs ≡ none
unfolding ranges_refusal
Parted-passes sky least i [] p = refl
Parted-passes sky least i (r ∷ rs) p = rw (not_faulty sky least r p.0 p.1 p.2) (Parted-passes sky (r.to + 1) (i + 1) rs p.3)

-- "14, a range is empty, ends past N(29), or doesn't start above the previous end": none is refused exactly if they are parted. Of the
-- ranges from place i on; `least` is 0 where these are all.
pub accepted_parted : (sky least i : ℕ) (rs : List Range) → (ranges_refusal sky least i rs ≡ none) ↔ Parted least sky rs
accepted_parted sky least i rs = (passed_parted sky least i rs, Parted-passes sky least i rs)

-- ---- the first faulty range
-- the range at place i doesn't start above the previous end; the first may start at `least` or after, and below 0 none starts
abbrev pub NotAbove : ℕ → List Range → ℕ → Type 0
NotAbove least rs zero = (get_or rs zero (range 0 0)).from < least
NotAbove least rs (suc i) = (get_or rs (suc i) (range 0 0)).from ≤ (get_or rs i (range 0 0)).to

-- "a range is empty, ends past N(29), or doesn't start above the previous end": the one at place i
abbrev pub FaultyAt : ℕ → ℕ → List Range → ℕ → Type 0
FaultyAt sky least rs i = (i < length rs) × (((get_or rs i (range 0 0)).to ≤ (get_or rs i (range 0 0)).from) ⊎ ((sky < (get_or rs i (range 0 0)).to) ⊎ NotAbove least rs i))

pub record FirstFaulty (sky least : ℕ) (rs : List Range) (i : ℕ) : Type 0 where
  pub faulty : FaultyAt sky least rs i
  pub first : (j : ℕ) → FaultyAt sky least rs j → i ≤ j

faulty_true : (sky least : ℕ) (r : Range) → is_faulty sky least r ≡ true → (r.to ≤ r.from) ⊎ ((sky < r.to) ⊎ (r.from < least))
faulty_true sky least r e =
    ⊎_map (leb-true r.to r.from) (λ f. ⊎_map (ltb-true sky r.to) (ltb-true r.from least) (or_is_true (ltb sky r.to) (ltb r.from least) f))
    (or_is_true (leb r.to r.from) (ltb sky r.to || ltb r.from least) e)

-- Of the ranges behind the first, the same are faulty.
behind_faulty : (sky least : ℕ) (r : Range) (rs : List Range) (i : ℕ) → FaultyAt sky (r.to + 1) rs i ↔ FaultyAt sky least (r ∷ rs) (suc i)
behind_faulty sky least r rs zero = (
  λ f. (omega (arith, f.0), ⊎_map (λ e. e) (⊎_map (λ e. e) (λ e. omega arith)) f.1),
  λ f. (omega (arith, f.0), ⊎_map (λ e. e) (⊎_map (λ e. e) (λ e. omega arith)) f.1),
)
behind_faulty sky least r rs (suc i) = (λ f. (omega (arith, f.0), f.1), λ f. (omega (arith, f.0), f.1))

first_from : (sky least k : ℕ) (rs : List Range) (r : Refusal) → ranges_refusal sky least k rs ≡ some r → (i : ℕ) × (r ≡ Refusal.InvalidRange (k + i)) × FirstFaulty sky least rs i
unfolding ranges_refusal
first_from sky least k [] r e = let z : ◌≡◌ {A = ℕ} 0 1 = cc in absurd (omega arith)
first_from sky least k (q ∷ rs) r e = go (is_faulty sky least q) refl e (first_from sky (q.to + 1) (k + 1) rs r)
  where
    later : (i : ℕ) → is_faulty sky least q ≡ false → FirstFaulty sky (q.to + 1) rs i → (j : ℕ) → FaultyAt sky least (q ∷ rs) j → suc i ≤ j
    later i t f zero p = let b = faulty_false sky least q t in absurd (⊎_elim (λ x. omega (arith, b.1)) (⊎_elim (λ x. omega (arith, b.2)) (λ x. omega (arith, b.0))) p.1)
    later i t f (suc j) p = omega (arith, f.first j ((behind_faulty sky least q rs j).1 p))

    go : (b : Bool) → is_faulty sky least q ≡ b → or_else (refused_if b (Refusal.InvalidRange k)) (ranges_refusal sky (q.to + 1) (k + 1) rs) ≡ some r
        → (ranges_refusal sky (q.to + 1) (k + 1) rs ≡ some r → (i : ℕ) × (r ≡ Refusal.InvalidRange (k + 1 + i)) × FirstFaulty sky (q.to + 1) rs i)
        → (i : ℕ) × (r ≡ Refusal.InvalidRange (k + i)) × FirstFaulty sky least (q ∷ rs) i
    go true t f rest =
        let n : k ≡ k + 0 = omega arith in
        let m : r ≡ Refusal.InvalidRange k = cc in
        (0, m ∙ ap Refusal.InvalidRange n, record { faulty = (omega arith, faulty_true sky least q t); first = λ j p. omega arith })
    go false t f rest =
        let x = rest f in
        let n : k + 1 + x.0 ≡ k + suc x.0 = omega arith in
        (suc x.0, x.1 ∙ ap Refusal.InvalidRange n, record { faulty = (behind_faulty sky least q rs x.0).0 x.2.faulty; first = later x.0 t x.2 })

-- "14, [..] place its range": of the faulty ranges the first is told.
pub range_refused_first : (sky : ℕ) (rs : List Range) (r : Refusal) → ranges_refusal sky 0 0 rs ≡ some r → (i : ℕ) × (r ≡ Refusal.InvalidRange i) × FirstFaulty sky 0 rs i
range_refused_first sky rs r e =
    let x = first_from sky 0 0 rs r e in
    let n : 0 + x.0 ≡ x.0 = omega arith in
    (x.0, x.1 ∙ ap Refusal.InvalidRange n, x.2)

-- ---- in two buffers
module _ (ss es : List ℕ) (i : ℕ) where
  -- The range at a place, and those behind it.
  pub ranges_drop : i < length ss → i < length es → ranges_of (drop i ss) (drop i es) ≡ range (get_or ss i 0) (get_or es i 0) ∷ ranges_of (drop (i + 1) ss) (drop (i + 1) es)
  unfolding ranges_of
  ranges_drop u v = rw (drop-cons ss i 0 u, drop-cons es i 0 v, add-one i) refl

  pub ranges_drop_end : length ss ≤ i → ranges_of (drop i ss) (drop i es) ≡ []
  unfolding ranges_of
  ranges_drop_end u = rw (drop_of_length-le ss u) refl

  module _ (sky least : ℕ) where
    -- The check, range by range.
    pub faulty_here : i < length ss → i < length es → is_faulty sky least (range (get_or ss i 0) (get_or es i 0)) ≡ true
        → ranges_refusal sky least i (ranges_of (drop i ss) (drop i es)) ≡ some (Refusal.InvalidRange i)
    unfolding ranges_refusal
    faulty_here u v b = rw (ranges_drop u v, b) refl

    pub passed_here : i < length ss → i < length es → is_faulty sky least (range (get_or ss i 0) (get_or es i 0)) ≡ false
        → ranges_refusal sky least i (ranges_of (drop i ss) (drop i es)) ≡ ranges_refusal sky (get_or es i 0 + 1) (i + 1) (ranges_of (drop (i + 1) ss) (drop (i + 1) es))
    unfolding ranges_refusal
    passed_here u v b = rw (ranges_drop u v, b) refl

    pub passed_all : length ss ≤ i → ranges_refusal sky least i (ranges_of (drop i ss) (drop i es)) ≡ none
    unfolding ranges_refusal
    passed_all u = rw (ranges_drop_end u) refl
