-- The laws of counts: over a list that rises, and with a merger that gives sums, a whole cell has the sum of the listed counts
-- in it. `figure` is what is counted of a value. Assumes nothing.
use mathlib.Core.Path.{◌≡◌, refl, sym, ◌∙◌}
use mathlib.Core.Bool.{Bool, true, false, cond, ◌&&◌, false≢true}
use mathlib.Core.List.{List, [], ◌∷◌}
use mathlib.Core.Logic.{◌⊎◌, inl, inr, ⊎_elim}
use Prim.Native.Nat.{ℕ, suc, ◌+◌, ◌*◌, ◌/◌, ◌%◌, ◌-◌, ◌^◌, ◌≤◌, ◌<◌}
use native.Mathlib.Omega.{arith}
use lib.Dec.{eqb}
use borrow.Author.Tests.{eq-eqb, eqb-true}
use Rattle.zuniq.specs.Cells.{lies_in}
use Rattle.zuniq.proofs.Basics.{and_is_true, is_false, le_or_lt}
use Rattle.zuniq.proofs.Ranges.{lies_in-iff, lies_in-self, lies_in-same_depth, lies_in-child_iff, lies_in-within}
use Rattle.build.specs.Map.{Entry, entry, Merger}
use Rattle.build.specs.Promises.{Has, start_of, end_of, Rises, total_under, Sums}
use Rattle.build.proofs.Entries.{below_four, entry-is}
use Rattle.build.proofs.Rising.{range_of, Rises-has}
use Rattle.build.proofs.Whole.{listed_has, not_listed, Whole, by_list, by_merging}

-- Of four tests for a number below 4 one passes.
one_of_four : (t : Bool) (r v : ℕ) → r < 4 → cond (t && eqb r 0) v 0 + cond (t && eqb r 1) v 0 + cond (t && eqb r 2) v 0 + cond (t && eqb r 3) v 0 ≡ cond t v 0
one_of_four false r v u = refl
one_of_four true r v u = below_four (λ r. cond (eqb r 0) v 0 + cond (eqb r 1) v 0 + cond (eqb r 2) v 0 + cond (eqb r 3) v 0 ≡ v) (omega arith) (omega arith) (omega arith) (omega arith) r u

-- A deeper cell lies in a child exactly if it lies in the parent and has the child's digit.
lies_in-child_is : (e g d h i : ℕ) → d < e → i < 4 → lies_in e g (suc d) (4 * h + i) ≡ (lies_in e g d h && eqb (g / 4 ^ (e - suc d) % 4) i)
lies_in-child_is e g d h i u v = go (lies_in e g (suc d) (4 * h + i)) refl
  where
    go : (t : Bool) → lies_in e g (suc d) (4 * h + i) ≡ t → t ≡ (lies_in e g d h && eqb (g / 4 ^ (e - suc d) % 4) i)
    go true q = let p = (lies_in-child_iff e g d h i u v).0 q in rw (p.0, eq-eqb _ i p.1)
    go false q = sym (is_false _ (λ t.
        let p = and_is_true (lies_in e g d h) (eqb (g / 4 ^ (e - suc d) % 4) i) t in
        false≢true (sym q ∙ (lies_in-child_iff e g d h i u v).1 (p.0, eqb-true _ i p.1))))

module _ {A : Type 0} (figure : A → ℕ) where
  -- what an entry adds to the total under (d, h)
  abbrev share : Entry A → ℕ → ℕ → ℕ
  share c d h = cond (lies_in c.depth c.hash d h) (figure c.value) 0

  -- An entry that does not lie in a cell adds nothing.
  share-none : (c : Entry A) (d h : ℕ) → (lies_in c.depth c.hash d h ≡ true → ⊥) → share c d h ≡ 0
  share-none c d h n = rw (is_false (lies_in c.depth c.hash d h) n)

  -- What is under a cell and is not that cell is under one of its children.
  share-four : (c : Entry A) (d h : ℕ) → (c.depth ≡ d → c.hash ≡ h → ⊥)
      → share c d h ≡ share c (suc d) (4 * h + 0) + share c (suc d) (4 * h + 1) + share c (suc d) (4 * h + 2) + share c (suc d) (4 * h + 3)
  share-four c d h n = ⊎_elim outside inside (le_or_lt c.depth d)
    where
      inside : d < c.depth → share c d h ≡ share c (suc d) (4 * h + 0) + share c (suc d) (4 * h + 1) + share c (suc d) (4 * h + 2) + share c (suc d) (4 * h + 3)
      inside u = rw (lies_in-child_is _ _ d h 0 u (omega arith), lies_in-child_is _ _ d h 1 u (omega arith), lies_in-child_is _ _ d h 2 u (omega arith), lies_in-child_is _ _ d h 3 u (omega arith))
          (sym (one_of_four (lies_in c.depth c.hash d h) (c.hash / 4 ^ (c.depth - suc d) % 4) (figure c.value) (omega arith)))

      not_itself : c.depth ≤ d → lies_in c.depth c.hash d h ≡ true → ⊥
      not_itself u t = let z : c.depth ≡ d = omega (arith, ((lies_in-iff _ _ d h).0 t).0) in n z (lies_in-same_depth d c.hash h (rw z at t))

      outside : c.depth ≤ d → share c d h ≡ share c (suc d) (4 * h + 0) + share c (suc d) (4 * h + 1) + share c (suc d) (4 * h + 2) + share c (suc d) (4 * h + 3)
      outside u =
          let low : (i : ℕ) → share c (suc d) (4 * h + i) ≡ 0 = λ i. share-none c (suc d) (4 * h + i) (λ t. omega (arith, ((lies_in-iff _ _ (suc d) (4 * h + i)).0 t).0)) in
          omega (arith, share-none c d h (not_itself u), low 0, low 1, low 2, low 3)

  -- The total under a cell that is not listed is that under its children.
  under_four : (l : List (Entry A)) (d h : ℕ) → ((c : Entry A) → Has l c → c.depth ≡ d → c.hash ≡ h → ⊥)
      → total_under figure l d h ≡ total_under figure l (suc d) (4 * h + 0) + total_under figure l (suc d) (4 * h + 1) + total_under figure l (suc d) (4 * h + 2) + total_under figure l (suc d) (4 * h + 3)
  unfolding total_under
  under_four [] d h n = refl
  under_four (c ∷ l) d h n = omega (arith, share-four c d h (n c (inl refl)), under_four l d h (λ e m. n e (inr m)))

  -- Nothing is under a cell that no entry lies in.
  under_none : (l : List (Entry A)) (d h : ℕ) → ((c : Entry A) → Has l c → lies_in c.depth c.hash d h ≡ true → ⊥) → total_under figure l d h ≡ 0
  unfolding total_under
  under_none [] d h n = refl
  under_none (c ∷ l) d h n = omega (arith, share-none c d h (n c (inl refl)), under_none l d h (λ e m. n e (inr m)))

  -- A cell that is apart from another does not lie in it.
  not_inside : (K : ℕ) (c e : Entry A) → c.depth ≤ K → (end_of K c ≤ start_of K e) ⊎ (end_of K e ≤ start_of K c) → lies_in c.depth c.hash e.depth e.hash ≡ true → ⊥
  not_inside K c e u apart t =
      let w = lies_in-within K c.depth c.hash e.depth e.hash u t in
      ⊎_elim (λ v. omega (arith, w, range_of K c)) (λ v. omega (arith, w, range_of K c)) apart

  -- In a list that rises only the cell itself is under a listed cell.
  under_listed : (K a b : ℕ) (l : List (Entry A)) (e : Entry A) → Rises K a b l → Has l e → total_under figure l e.depth e.hash ≡ figure e.value
  unfolding total_under
  under_listed K a b [] e r m = absurd m
  under_listed K a b (c ∷ l) e r (inl q) =
      let later : (y : Entry A) → Has l y → (y.depth ≤ K) × (end_of K e ≤ start_of K y) × (end_of K y ≤ b) = λ y m. Rises-has K (end_of K e) b l y (rw (← q) at r.2) m in
      let n = under_none l e.depth e.hash (λ y m. not_inside K y e (later y m).0 (inr (later y m).1)) in
      rw (← q, lies_in-self e.depth e.hash) (omega arith)
  under_listed K a b (c ∷ l) e r (inr m) =
      let n = share-none c e.depth e.hash (not_inside K c e r.0 (inl (Rises-has K (end_of K c) b l e r.2 m).1)) in
      omega (arith, under_listed K (end_of K c) b l e r.2 m)

  module _ (accept : Merger A) (sums : Sums accept figure) (K a b : ℕ) (l : List (Entry A)) (rises : Rises K a b l) where
    -- A whole cell has the total of the listed cells in it.
    pub whole_total : (n d h : ℕ) (x : A) → Whole accept l n d h x → figure x ≡ total_under figure l d h
    whole_total n d h x (by_list q) = sym (under_listed K a b l (entry d h x) rises (listed_has l d h x q))
    whole_total n d h x (by_merging {n = m} {a = v0} {b = v1} {c = v2} {e = v3} u w0 w1 w2 w3 q) =
        let four = under_four l d h (λ c m z g. not_listed l d h c.value u (rw (entry-is c d h c.value z g refl) at m)) in
        let t0 = whole_total m (suc d) (4 * h + 0) v0 w0 in
        let t1 = whole_total m (suc d) (4 * h + 1) v1 w1 in
        let t2 = whole_total m (suc d) (4 * h + 2) v2 w2 in
        let t3 = whole_total m (suc d) (4 * h + 3) v3 w3 in
        omega (arith, sums d h v0 v1 v2 v3 x q)
