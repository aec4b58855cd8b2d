-- What is in a list: a search in one that rises tells it. Assumes nothing.
use mathlib.Core.Path.{◌≡◌, refl, sym, ap, ◌∙◌}
use mathlib.Core.Bool.{Bool, true, false, ◌||◌, false≢true}
use mathlib.Core.List.{List, [], ◌∷◌}
use mathlib.Core.Logic.{⊎_elim}
use Prim.Native.Nat.{ℕ, zero, suc, ◌-◌, ◌≤◌, ◌<◌}
use native.Mathlib.Omega.{arith}
use lib.Dec.{eqb}
use lib.ListN.{length, get_or}
use borrow.Author.Tests.{eq-eqb, eqb-true, ne_eqb}
use Rattle.std.specs.Prelude.{map, Result, Ok, Err, MatchResult, is_ok}
use Rattle.std.specs.List.Sorted.{IsBinarySearchResult, IsSearchInRange}
use Rattle.std.specs.Ordering.{nat_cmp, ordering_index}
use Rattle.std.specs.declared.cmp.Ordering.{Ordering}
use Rattle.std.specs.declared.cmp.Ordering.TheVariants.{Less, Equal, Greater}
use Rattle.std.proofs.lemmas.List.{get_or-map, length-map}
use Rattle.std.proofs.lemmas.List.Sorted.{searched}
use Rattle.zuniq.proofs.Basics.{or_is_true, is_false, le_or_lt}
use Rattle.mom.specs.Search.{LowerBound}
use Rattle.protection.specs.Protected.{is_listed, is_protected, RisingList}

-- ---- in a list
-- What stands at a place is listed,
pub listed_at : (zs : List ℕ) (z i : ℕ) → i < length zs → get_or zs i 0 ≡ z → is_listed zs z ≡ true
unfolding is_listed
listed_at [] z i l e = absurd (omega arith)
listed_at (y ∷ ys) z zero l e = rw (eq-eqb y z e) refl
listed_at (y ∷ ys) z (suc i) l e = go (eqb y z) (listed_at ys z i (omega arith) e)
  where
    go : (b : Bool) → is_listed ys z ≡ true → (b || is_listed ys z) ≡ true
    go true m = refl
    go false m = m

-- and what is listed stands at one.
pub place_of_listed : (zs : List ℕ) (z : ℕ) → is_listed zs z ≡ true → (i : ℕ) × (i < length zs) × (get_or zs i 0 ≡ z)
unfolding is_listed
place_of_listed [] z e = let n : ◌≡◌ {A = ℕ} 0 1 = cc in absurd (omega arith)
place_of_listed (y ∷ ys) z e =
    ⊎_elim (λ m. (0, omega arith, eqb-true y z m)) (λ m. let p = place_of_listed ys z m in (suc p.0, omega (arith, p.1), p.2)) (or_is_true (eqb y z) (is_listed ys z) e)

-- An empty list has nothing in it.
pub nothing_protected : (K p h : ℕ) → is_protected K [] p h ≡ false
unfolding is_protected is_listed
nothing_protected K p h = refl

-- ---- the search
-- A search by the number of each element is one of the list of numbers.
module _ {Z : Type 0} (number : Z → ℕ) (z : ℕ) where
  -- an element's number, whatever stands for one past the end
  numbered : (xs : List Z) (k d : ℕ) (R : Ordering) → k < length xs → ((e : Z) → nat_cmp (number (get_or xs k e)) z ≡ R) → nat_cmp (get_or (map number xs) k d) z ≡ R
  numbered [] k d R l at = absurd (omega arith)
  numbered (x ∷ xs) k d R l at = rw (get_or-map number (x ∷ xs) k x d l) (at x)

  search_of_numbers : (xs : List Z) (r : Result ℕ ℕ) → IsSearchInRange r (length xs) → IsBinarySearchResult (λ y. nat_cmp (number y) z) xs r → IsBinarySearchResult (λ y. nat_cmp y z) (map number xs) r
  search_of_numbers xs (Ok i) l at = λ d. numbered xs i d Equal l at
  search_of_numbers xs (Err i) l parted = λ up.
      let at = λ (i : ℕ) (d : Z) (k : i < length xs). ap (λ n. ordering_index (nat_cmp n z)) (get_or-map number xs i d (number d) k) in
      let p = parted (λ a b d le lt. rw (← at a d (omega arith), ← at b d lt) (up a b (number d) le (rw (length-map xs number) lt))) in
      (λ k d from to. numbered xs k d Less (omega arith) (λ e. p.0 k e from to), λ k d from to. let m = rw (length-map xs number) at to in numbered xs k d Greater m (λ e. p.1 k e from m))

-- A place between the values below one and those that are not tells of a list that rises whether that one is in it.
module _ {zs : List ℕ} {z place : ℕ} (rises : RisingList zs) (found : LowerBound zs z place) where
  -- Before the place everything is below the value,
  not_before : (i : ℕ) → i < place → get_or zs i 0 ≡ z → ⊥
  not_before i k e =
      let last = found.below (omega (arith, k)) in
      ⊎_elim (λ q. let s : i ≡ place - 1 = omega (arith, k, q) in omega (arith, rw (← s) at last, e)) (λ q. omega (arith, rises i (place - 1) q (omega (arith, k, found.within)), last, e)) (le_or_lt (place - 1) i)

  -- so that past the end nothing is listed;
  pub search_past : length zs ≤ place → is_listed zs z ≡ false
  search_past l = is_false (is_listed zs z) (λ t. let p = place_of_listed zs z t in not_before p.0 (omega (arith, p.1, l)) p.2)

  -- else the value is there, if anywhere.
  pub search_at : place < length zs → eqb (get_or zs place 0) z ≡ is_listed zs z
  search_at l = go (eqb (get_or zs place 0) z) refl
    where
      there : (i : ℕ) → i < length zs → get_or zs i 0 ≡ z → i ≡ place
      there i m e = ⊎_elim (λ k. ⊎_elim (λ q. omega (arith, k, q)) (λ q. absurd (omega (arith, rises place i q m, found.above l, e))) (le_or_lt i place)) (λ k. absurd (not_before i k e)) (le_or_lt place i)

      go : (b : Bool) → eqb (get_or zs place 0) z ≡ b → b ≡ is_listed zs z
      go true t = sym (listed_at zs z place l (eqb-true (get_or zs place 0) z t))
      go false t = sym (is_false (is_listed zs z) (λ u.
          let p = place_of_listed zs z u in
          let e : get_or zs place 0 ≡ z = rw (← there p.0 p.1 p.2) p.2 in
          false≢true (sym t ∙ eq-eqb (get_or zs place 0) z e)))

-- So what a search in such a list finds, or doesn't, is listed, or isn't.
listed_if_found : (zs : List ℕ) → RisingList zs → (z : ℕ) (r : Result ℕ ℕ) → IsBinarySearchResult (λ y. nat_cmp y z) zs r → is_ok r ≡ is_listed zs z
listed_if_found zs rises z r h = go r (searched zs z r h rising)
  where
    rising : (i j : ℕ) → i ≤ j → j < length zs → get_or zs i 0 ≤ get_or zs j 0
    rising i j l m = ⊎_elim (λ k. let e : i ≡ j = omega (arith, k) in rw e (omega arith)) (λ k. omega (arith, rises i j k m)) (le_or_lt j i)

    go : (r : Result ℕ ℕ) → MatchResult r (λ i. (i < length zs) × (get_or zs i 0 ≡ z)) (λ i. (i ≤ length zs) × ((k : ℕ) → k < i → get_or zs k 0 < z) × ((k : ℕ) → i ≤ k → k < length zs → z < get_or zs k 0)) → is_ok r ≡ is_listed zs z
    go (Ok i) m = sym (listed_at zs z i m.0 m.1)
    go (Err i) m =
        let found : LowerBound zs z i = record { within = m.0; below = λ p. m.1 (i - 1) (omega arith); above = λ l. omega (arith, m.2 i (omega arith) l) } in
        ⊎_elim (λ l. sym (search_past rises found l)) (λ l. sym (ne_eqb (get_or zs i 0) z (λ e. omega (arith, m.2 i (omega arith) l, e))) ∙ search_at rises found l) (le_or_lt (length zs) i)

pub is_listed_if_found : {Z : Type 0} (number : Z → ℕ) (zs : List ℕ) (xs : List Z) → zs ≡ map number xs → RisingList zs → (z : ℕ) (r : Result ℕ ℕ)
    → IsSearchInRange r (length xs) → IsBinarySearchResult (λ y. nat_cmp (number y) z) xs r → is_ok r ≡ is_listed zs z
is_listed_if_found number zs xs e rises z r l h = listed_if_found zs rises z r (rw e (search_of_numbers number z xs r l h))
