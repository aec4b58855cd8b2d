-- The laws of entries and of lists of them: lists joined, some entry, an entry of the list, and totals. Assumes nothing.
use mathlib.Core.Path.{◌≡◌, refl, ap₂}
use mathlib.Core.Bool.{true}
use mathlib.Core.List.{List, [], ◌∷◌, ◌++◌, reverse, reverse_aux}
use mathlib.Core.Logic.{◌⊎◌, inl, inr, ⊎_elim, ⊎_map, ◌↔◌}
use Prim.Native.Nat.{ℕ, zero, suc, ◌+◌, ◌≤◌, ◌<◌}
use native.Mathlib.Omega.{arith}
use native.Mathlib.Nat.{eq-or-lt_of_le, le_of_suc-le-suc}
use lib.Dec.{eqb}
use borrow.Author.Tests.{eqb-true, eq-eqb}
use Rattle.zuniq.proofs.Basics.{and_is_true}
use Rattle.build.specs.Map.{Entry, entry, is_cell, joined}
use Rattle.build.specs.Promises.{Any, Has, total}

-- What holds of 0 to 3 holds of a number below 4.
pub below_four : (P : ℕ → Type 0) → P 0 → P 1 → P 2 → P 3 → (i : ℕ) → i < 4 → P i
below_four P p0 p1 p2 p3 zero u = p0
below_four P p0 p1 p2 p3 (suc zero) u = p1
below_four P p0 p1 p2 p3 (suc (suc zero)) u = p2
below_four P p0 p1 p2 p3 (suc (suc (suc zero))) u = p3
below_four P p0 p1 p2 p3 (suc (suc (suc (suc i)))) u = absurd (omega arith)

-- Lists that are the same one by one are the same joined: where those below n are,
pub joined-below : {B : Type 0} (n : ℕ) (g k : ℕ → List B) → ((i : ℕ) → i < n → g i ≡ k i) → joined n g ≡ joined n k
unfolding joined
joined-below zero g k q = refl
joined-below (suc n) g k q = ap₂ ◌++◌ (joined-below n g k (λ i u. q i (omega arith))) (q n (omega arith))

-- and so where all are.
pub joined-ext : {B : Type 0} (n : ℕ) (g k : ℕ → List B) → ((i : ℕ) → g i ≡ k i) → joined n g ≡ joined n k
joined-ext n g k q = joined-below n g k (λ i u. q i)

module _ {A : Type 0} where
  -- An entry is its depth, its hash and its value.
  pub entry-is : (e : Entry A) (d h : ℕ) (x : A) → e.depth ≡ d → e.hash ≡ h → e.value ≡ x → e ≡ entry d h x
  entry-is e d h x p q r = rw (← p, ← q, ← r)

  -- An entry is the cell that it is tested for.
  pub is_cell-true : (d h : ℕ) (e : Entry A) → is_cell d h e ≡ true → e ≡ entry d h e.value
  is_cell-true d h e t =
      let p = and_is_true (eqb e.depth d) (eqb e.hash h) t in
      entry-is e d h e.value (eqb-true _ _ p.0) (eqb-true _ _ p.1) refl

  -- A cell passes the test for itself.
  pub is_cell-self : (d h : ℕ) (x : A) → is_cell d h (entry d h x) ≡ true
  is_cell-self d h x = rw (eq-eqb d d refl, eq-eqb h h refl)

  -- ---- some entry, and an entry of the list
  -- What one entry of a list has, some entry has.
  pub Any-of_has : (P : Entry A → Type 0) (l : List (Entry A)) (e : Entry A) → Has l e → P e → Any P l
  Any-of_has P [] e m p = absurd m
  Any-of_has P (c ∷ l) e (inl q) p = inl (rw q at p)
  Any-of_has P (c ∷ l) e (inr m) p = inr (Any-of_has P l e m p)

  -- The entry that has P is one of the list.
  pub Has-of_any : (P : Entry A → Type 0) (l : List (Entry A)) → Any P l → (e : Entry A) × Has l e × P e
  Has-of_any P [] a = absurd a
  Has-of_any P (c ∷ l) (inl p) = (c, inl refl, p)
  Has-of_any P (c ∷ l) (inr a) = let r = Has-of_any P l a in (r.0, inr r.1, r.2)

  -- Some entry of two lists joined is one of the first or of the second.
  pub any_append : (P : Entry A → Type 0) (l m : List (Entry A)) → Any P (l ++ m) ↔ (Any P l ⊎ Any P m)
  any_append P [] m = (inr, ⊎_elim absurd (λ a. a))
  any_append P (e ∷ l) m =
      let r = any_append P l m in (
        ⊎_elim (λ p. inl (inl p)) (λ a. ⊎_elim (λ b. inl (inr b)) inr (r.0 a)),
        ⊎_elim (⊎_map (λ p. p) (λ a. r.1 (inl a))) (λ a. inr (r.1 (inr a))),
      )

  Any-onto : (P : Entry A → Type 0) (s l : List (Entry A)) → Any P (reverse_aux s l) ↔ (Any P s ⊎ Any P l)
  Any-onto P [] l = (inr, ⊎_elim absurd (λ a. a))
  Any-onto P (e ∷ s) l =
      let r = Any-onto P s (e ∷ l) in (
        λ a. ⊎_elim (λ b. inl (inr b)) (⊎_elim (λ p. inl (inl p)) inr) (r.0 a),
        ⊎_elim (⊎_elim (λ p. r.1 (inr (inl p))) (λ a. r.1 (inl a))) (λ a. r.1 (inr (inr a))),
      )

  -- The order does not matter for what some entry has.
  pub Any-reverse : (P : Entry A → Type 0) (s : List (Entry A)) → Any P (reverse s) ↔ Any P s
  Any-reverse P s = let r = Any-onto P s [] in (λ a. ⊎_elim (λ b. b) absurd (r.0 a), λ a. r.1 (inl a))

  -- Some entry of many lists joined is one of one of them.
  pub Any-joined : (P : Entry A → Type 0) (n : ℕ) (g : ℕ → List (Entry A)) → Any P (joined n g) ↔ ((i : ℕ) × (i < n) × Any P (g i))
  unfolding joined
  Any-joined P zero g = (absurd, λ a. absurd (omega arith))
  Any-joined P (suc n) g = (
    λ a. ⊎_elim (λ b. let r = (Any-joined P n g).0 b in (r.0, omega (arith, r.1), r.2)) (λ b. (n, omega arith, b)) ((any_append P (joined n g) (g n)).0 a),
    λ a. (any_append P (joined n g) (g n)).1 (place a (eq-or-lt_of_le a.1) (λ i u b. (Any-joined P n g).1 (i, u, b))),
  )
    where
      place : (a : (i : ℕ) × (i < suc n) × Any P (g i)) → (suc a.0 ≡ suc n) ⊎ (suc a.0 < suc n) → ((i : ℕ) → i < n → Any P (g i) → Any P (joined n g)) → Any P (joined n g) ⊎ Any P (g n)
      place a (inl q) r = let z : a.0 ≡ n = omega arith in inr (rw z at a.2)
      place a (inr u) r = inl (r a.0 (le_of_suc-le-suc u) a.2)

  -- ---- totals
  total-onto : (figure : A → ℕ) (s l : List (Entry A)) → total figure (reverse_aux s l) ≡ total figure s + total figure l
  total-onto figure [] l = omega arith
  total-onto figure (e ∷ s) l = omega (arith, total-onto figure s (e ∷ l))

  -- The order does not matter for the total.
  pub total-reverse : (figure : A → ℕ) (s : List (Entry A)) → total figure (reverse s) ≡ total figure s
  total-reverse figure s = omega (arith, total-onto figure s [])

  -- No entry has more than all together.
  pub value_le_total : (figure : A → ℕ) (l : List (Entry A)) (e : Entry A) → Has l e → figure e.value ≤ total figure l
  value_le_total figure [] e m = absurd m
  value_le_total figure (c ∷ l) e (inl q) = rw q (omega arith)
  value_le_total figure (c ∷ l) e (inr m) = omega (arith, value_le_total figure l e m)
