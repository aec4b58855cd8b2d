-- The law of counting: for cells that rise, the settled entries and the live ones are as many as the entries of the map that
-- adding the cells makes. For every type of values and every merger. Assumes nothing.
use mathlib.Core.Path.{◌≡◌, refl, ap, sym, ◌∙◌}
use mathlib.Core.Bool.{Bool, true, false, cond, false≢true}
use mathlib.Core.List.{List, [], ◌∷◌}
use mathlib.Core.Logic.{◌⊎◌, inl, inr}
use Prim.Native.Nat.{ℕ, suc, ◌+◌, ◌*◌, ◌%◌, ◌≤◌, ◌<◌}
use native.Mathlib.Omega.{arith}
use native.Mathlib.Nat.{eq-or-lt_of_le}
use lib.ListN.{length, length-reverse}
use borrow.Author.Tests.{eqb-true, eqb-false, eq-eqb, lt-ltb, not-true}
use Rattle.zuniq.specs.Cells.{n_hash}
use Rattle.zuniq.proofs.Ranges.{end-child_is_next_start}
use Rattle.build.specs.Map.{Entry, Merger, defined_map}
use Rattle.build.specs.Stack.{child, collapse, run}
use Rattle.build.specs.Promises.{start_of, end_of, Rises, Falls}
use Rattle.build.proofs.Rising.{Falls-to, Falls-has}
use Rattle.build.proofs.Adding.{collapse-falls}
use Rattle.build.proofs.Law.{run-gives_defined_map}
use Rattle.tally.specs.Tally.{is_first, is_last, out_of_reach, meets, Tally, tally_of, entries_in, settle, reached, tallied, tally}
use Rattle.tally.proofs.Over.{Reaches, Shut, run-over_length}

-- A deeper cell whose hash divides by 4 is the first of four siblings.
pub is_first_lem : {A : Type 0} (e : Entry A) → 0 < e.depth → e.hash % 4 ≡ 0 → is_first e ≡ true
is_first_lem e u q = rw (lt-ltb 0 e.depth u, eq-eqb (e.hash % 4) 0 q)

module _ {A : Type 0} (accept : Merger A) (K : ℕ) where
  -- ---- entries that no step reaches
  -- What stands on top of the entries that are reached.
  top_is : (t s : List (Entry A)) (e : Entry A) (r : Reaches t (e ∷ s)) → e ≡ child r.d r.h r.i r.v
  top_is t s e r = let q = r.top in cc

  -- Behind the last of four siblings no other is to come.
  last_shut : (b : ℕ) (e : Entry A) (s : List (Entry A)) → is_last e ≡ true → Shut accept K b (e ∷ s)
  last_shut b e s q c t f r =
      let p : e.hash ≡ 4 * r.h + r.i = ap (λ (x : Entry A). x.hash) (top_is t s e r) in
      omega (arith, eqb-true (e.hash % 4) 3 q, r.sibling)

  -- An entry alone that is not the first of four siblings lacks the one before it.
  alone_shut : (b : ℕ) (e : Entry A) → is_first e ≡ false → Shut accept K b (e ∷ [])
  alone_shut b e q c t f r =
      let q' = r.top in
      let z : r.rest ≡ [] = cc in
      let i : r.i ≡ 0 = omega (arith, r.more, ap length z) in
      let d : e.depth ≡ suc r.d = ap (λ (x : Entry A). x.depth) (top_is t [] e r) in
      let h : e.hash ≡ 4 * r.h + r.i = ap (λ (x : Entry A). x.hash) (top_is t [] e r) in
      false≢true (sym q ∙ is_first_lem e (omega arith) (omega arith))

  -- The next sibling starts where the one before it ends.
  gap_shut : (b : ℕ) (e : Entry A) (s : List (Entry A)) → end_of K e < b → Shut accept K b (e ∷ s)
  gap_shut b e s u c t f r =
      let p : end_of K e ≡ end_of K (child r.d r.h r.i r.v) = ap (end_of K) (top_is t s e r) in
      omega (arith, (Falls-has K b c t _ f r.next).1, end-child_is_next_start K r.d r.h r.i)

  -- Entries that are said to be out of reach are.
  out_of_reach-shut : (b : ℕ) (s : List (Entry A)) → out_of_reach s ≡ true → Shut accept K b s
  unfolding out_of_reach
  out_of_reach-shut b [] q = absurd (false≢true q)
  out_of_reach-shut b (e ∷ []) q = alone_shut b e (not-true (is_first e) q)
  out_of_reach-shut b (e ∷ c ∷ s) q = last_shut b e (c ∷ s) q

  -- Entries are shut for a cell that starts after their end.
  apart_shut : (b : ℕ) (e : Entry A) (s : List (Entry A)) → Falls K 0 b s → b ≤ start_of K e → meets K e s ≡ false → Shut accept K (start_of K e) s
  unfolding meets
  apart_shut b e [] f u q = λ c t g r. let z = ap length r.top in omega arith
  apart_shut b e (y ∷ s) f u q = gap_shut (start_of K e) y s (go (eq-or-lt_of_le le))
    where
      le : end_of K y ≤ start_of K e
      le = omega (arith, f.1)

      go : (end_of K y ≡ start_of K e) ⊎ (end_of K y < start_of K e) → end_of K y < start_of K e
      go (inl p) = absurd (eqb-false _ _ q (sym p))
      go (inr v) = v

  -- ---- counting
  -- Settling changes nothing of the number of entries in the end.
  settle-counts : (b z n : ℕ) (s l : List (Entry A)) → Rises K b z l → (settle n s).settled + length (run accept (settle n s).live l) ≡ n + length (run accept s l)
  unfolding settle
  settle-counts b z n s l r = go (out_of_reach s) refl
    where
      go : (o : Bool) → out_of_reach s ≡ o → (cond o (tally_of (n + length s) []) (tally_of n s)).settled + length (run accept (cond o (tally_of (n + length s) []) (tally_of n s)).live l) ≡ n + length (run accept s l)
      go false q = refl
      go true q = omega (arith, run-over_length accept K b s (out_of_reach-shut b s q) z l r)

  settle-falls : (b n : ℕ) (s : List (Entry A)) → Falls K 0 b s → Falls K 0 b (settle n s).live
  unfolding settle
  settle-falls b n s f = go (out_of_reach s)
    where
      go : (o : Bool) → Falls K 0 b (cond o (tally_of (n + length s) []) (tally_of n s)).live
      go false = f
      go true = omega arith

  module _ (b z : ℕ) (t : Tally A) (e : Entry A) (l : List (Entry A)) (f : Falls K 0 b t.live) (r : Rises K b z (e ∷ l)) where
    -- Settling what the cell does not reach changes nothing either.
    reached-counts : (reached K t e).settled + length (run accept (reached K t e).live (e ∷ l)) ≡ t.settled + length (run accept t.live (e ∷ l))
    unfolding reached
    reached-counts = go (meets K e t.live) refl
      where
        go : (o : Bool) → meets K e t.live ≡ o → (cond o t (tally_of (entries_in t) [])).settled + length (run accept (cond o t (tally_of (entries_in t) [])).live (e ∷ l)) ≡ t.settled + length (run accept t.live (e ∷ l))
        go true q = refl
        go false q = omega (arith, run-over_length accept K (start_of K e) t.live (apart_shut b e t.live f r.1 q) z (e ∷ l) (r.0, omega arith, r.2))

    reached-falls : Falls K 0 b (reached K t e).live
    unfolding reached
    reached-falls = go (meets K e t.live)
      where
        go : (o : Bool) → Falls K 0 b (cond o t (tally_of (entries_in t) [])).live
        go true = f
        go false = omega arith

    -- What is appended changes the tally as it changes the map.
    tallied-counts : (tallied accept K t e).settled + length (run accept (tallied accept K t e).live l) ≡ t.settled + length (run accept t.live (e ∷ l))
    unfolding tallied run
    tallied-counts = settle-counts (end_of K e) z (reached K t e).settled (collapse accept (e ∷ (reached K t e).live)) l r.2 ∙ reached-counts

    tallied-falls : Falls K 0 (end_of K e) (tallied accept K t e).live
    unfolding tallied
    tallied-falls =
        let g : Falls K 0 (end_of K e) (e ∷ (reached K t e).live) = (r.0, omega arith, Falls-to K 0 b (start_of K e) (reached K t e).live r.1 reached-falls) in
        settle-falls (end_of K e) _ (collapse accept (e ∷ (reached K t e).live)) (collapse-falls accept K 0 (end_of K e) (e ∷ (reached K t e).live) g).0

  -- Cells that rise, tallied onto live entries that end where they start or before.
  pub tally-counts : (b z : ℕ) (t : Tally A) (l : List (Entry A)) → Falls K 0 b t.live → Rises K b z l → entries_in (tally accept K t l) ≡ t.settled + length (run accept t.live l)
  unfolding tally run
  tally-counts b z t [] f r = refl
  tally-counts b z t (e ∷ l) f r = tally-counts (end_of K e) z (tallied accept K t e) l (tallied-falls b z t e l f r) r.2 ∙ tallied-counts b z t e l f r

  -- From nothing, the tally counts what adding the cells to the empty map makes,
  pub tally-counts_run : (z : ℕ) (l : List (Entry A)) → Rises K 0 z l → entries_in (tally accept K (tally_of 0 []) l) ≡ length (run accept [] l)
  tally-counts_run z l r = tally-counts 0 z (tally_of 0 []) l (omega arith) r ∙ omega arith

  -- and so the entries of the defined map.
  pub tally-counts_map : (l : List (Entry A)) → Rises K 0 (n_hash K) l → entries_in (tally accept K (tally_of 0 []) l) ≡ length (defined_map accept K l)
  tally-counts_map l r = tally-counts_run (n_hash K) l r ∙ ap length (run-gives_defined_map accept K l r) ∙ length-reverse (defined_map accept K l)
