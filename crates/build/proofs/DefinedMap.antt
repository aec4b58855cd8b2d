-- What the defined map of a list that rises is: the paper's words of it, exact cover, no four siblings left that the merger
-- accepts, counts, and how it goes on when a batch is added. Assumes nothing.
use mathlib.Core.Path.{◌≡◌, refl, ap, sym, ◌∙◌}
use mathlib.Core.Bool.{true}
use mathlib.Core.List.{List, [], ◌++◌, reverse, reverse-reverse}
use mathlib.Core.Logic.{inr, ⊎_elim, ◌↔◌}
use mathlib.Core.Option.{Option, none, some, none-ne-some}
use Prim.Native.Nat.{ℕ, suc, ◌+◌, ◌*◌, ◌/◌, ◌-◌, ◌^◌, ◌≤◌, ◌<◌}
use native.Mathlib.Omega.{arith}
use native.Mathlib.Nat.{eq-or-lt_of_le}
use lib.ListN.{length, length-reverse}
use Rattle.zuniq.specs.Cells.{n_hash, lies_in}
use Rattle.zuniq.proofs.Ranges.{lies_in-iff, lies_in-trans, lies_in-parent_iff, lies_in-iff_some_child}
use Rattle.build.specs.Map.{Entry, Merger, whole, defined_map}
use Rattle.build.specs.Stack.{child, run}
use Rattle.build.specs.Promises.{Has, LiesIn, Covers, Rises, last_end, total, total_under, Sums, IsWhole, NoWholeParent}
use Rattle.build.proofs.Entries.{below_four, Any-reverse, total-reverse}
use Rattle.build.proofs.Rising.{Rises-in_range, Rises-append, Rises-to_last_end}
use Rattle.build.proofs.Adding.{run-append, run_length, run-total, run-covers, run-last_end}
use Rattle.build.proofs.Whole.{Whole, by_list, by_merging, whole_is, is_whole, whole_has_listed, listed-has_no_whole}
use Rattle.build.proofs.Tops.{base_lt, defined_map-has, defined_map-rises}
use Rattle.build.proofs.Settled.{Settled-quad}
use Rattle.build.proofs.Totals.{whole_total}
use Rattle.build.proofs.Law.{run-is_map, run-gives_defined_map}

-- An entry of the map is a cell of the sky, no deeper than the map.
pub defined_map-in_range : {A : Type 0} (accept : Merger A) (K : ℕ) (l : List (Entry A)) (e : Entry A) → Has (defined_map accept K l) e → (e.depth ≤ K) × (e.hash < n_hash e.depth)
defined_map-in_range accept K l e m = Rises-in_range K 0 (defined_map accept K l) e (defined_map-rises accept K l) m

-- What has no value has none.
none_of : {B : Type 0} (o : Option B) → ((y : B) → o ≡ some y → ⊥) → o ≡ none
none_of none n = refl
none_of (some y) n = absurd (n y refl)

module _ {A : Type 0} (accept : Merger A) (K : ℕ) (l : List (Entry A)) (rises : Rises K 0 (n_hash K) l) where
  -- ---- the paper's words
  -- Above a whole cell whose parent isn't whole there is no whole cell.
  none_above : (p g : ℕ) (x : A) → Whole accept l (K - suc p) (suc p) g x → whole accept l (K - p) p (g / 4) ≡ none
      → (n a b : ℕ) (y : A) → Whole accept l n a b y → a + n ≡ K → a ≤ p → lies_in (suc p) g a b ≡ true → ⊥
  none_above p g x w none_whole n a b y (by_list q) k u t = listed-has_no_whole accept l K 0 (n_hash K) rises a b y (K - suc p) (suc p) g x q w t (omega arith)
  none_above p g x w none_whole n a b y (by_merging {n = m} {a = v0} {b = v1} {c = v2} {e = v3} q w0 w1 w2 w3 r) k u t = ⊎_elim
      (λ z.
      let c : K - a ≡ suc m = omega arith in
      let h : g / 4 ≡ b = (lies_in-parent_iff p g b).0 (rw z at t) in
      none-ne-some _ (sym (rw (h, ← z, c) at none_whole) ∙ is_whole accept l (suc m) a b y (by_merging q w0 w1 w2 w3 r)))
      (λ v.
      let i = (lies_in-iff_some_child (suc p) g a b (omega arith)).0 t in
      let j : suc a + m ≡ K = omega arith in
      below_four (λ i. lies_in (suc p) g (suc a) (4 * b + i) ≡ true → ⊥)
      (none_above p g x w none_whole m (suc a) (4 * b + 0) v0 w0 j v) (none_above p g x w none_whole m (suc a) (4 * b + 1) v1 w1 j v)
      (none_above p g x w none_whole m (suc a) (4 * b + 2) v2 w2 j v) (none_above p g x w none_whole m (suc a) (4 * b + 3) v3 w3 j v) i.0 i.1 i.2)
      (eq-or-lt_of_le u)

  -- A whole cell is a cell of the sky, no deeper than K.
  whole_in_range : (n d h : ℕ) (x : A) → Whole accept l n d h x → (d ≤ K) × (h / 4 ^ (d - 0) < 12)
  whole_in_range n d h x w =
      let f = whole_has_listed accept l n d h x w in
      let c = f.0 in
      let r = Rises-in_range K 0 l c rises f.1 in
      let base = lies_in-trans c.depth c.hash d h 0 (h / 4 ^ (d - 0)) f.2 ((lies_in-iff d h 0 _).1 (omega arith, refl)) in
      let same : c.hash / 4 ^ (c.depth - 0) ≡ h / 4 ^ (d - 0) = ((lies_in-iff c.depth c.hash 0 _).0 base).1 in
      (omega (arith, r.0, ((lies_in-iff c.depth c.hash d h).0 f.2).0), rw same at (base_lt c.depth c.hash r.1))

  -- "The map is all whole cells whose parent isn't whole": an entry is in the map exactly if it is whole and its parent isn't.
  pub defined_map-has_iff : (e : Entry A) → Has (defined_map accept K l) e ↔ (IsWhole accept K l e × NoWholeParent accept K l e)
  defined_map-has_iff e = (there, back)
    where
      there : Has (defined_map accept K l) e → IsWhole accept K l e × NoWholeParent accept K l e
      there m =
          let t = ((defined_map-has accept K l e).0 m).2 in
          (t.is, λ p z. none_of _ (t.above p (e.hash / 4) (omega arith) (omega arith) (rw z ((lies_in-parent_iff p e.hash (e.hash / 4)).1 refl))))

      back : IsWhole accept K l e × NoWholeParent accept K l e → Has (defined_map accept K l) e
      back t = (defined_map-has accept K l e).1 (
        e.hash / 4 ^ (e.depth - 0),
        r.1,
        record {
          inside = (lies_in-iff _ _ 0 _).1 (omega arith, refl);
          deep = r.0;
          is = t.0;
          above = λ a b _ u v y q.
              let p = e.depth - 1 in
              let z : e.depth ≡ suc p = omega arith in
              none_above p e.hash e.value (rw z at w) (t.1 p z) (K - a) a b y (whole_is accept l _ _ _ _ q) (omega (arith, r.0)) (omega arith) (rw z at v);
        },
      )
        where
          w : Whole accept l (K - e.depth) e.depth e.hash e.value
          w = whole_is accept l _ _ _ _ t.0

          r : (e.depth ≤ K) × (e.hash / 4 ^ (e.depth - 0) < 12)
          r = whole_in_range (K - e.depth) e.depth e.hash e.value w

  -- ---- what it has from adding
  -- The map, last entry first, is what adding gives.
  as_added : reverse (defined_map accept K l) ≡ run accept [] l
  as_added = sym (run-gives_defined_map accept K l rises)

  Has-added : (e : Entry A) → Has (defined_map accept K l) e → Has (run accept [] l) e
  Has-added e m = rw as_added at ((Any-reverse (λ y. e ≡ y) (defined_map accept K l)).1 m)

  -- The map covers exactly the listed cells: a cell that is as deep as any of them lies in an entry exactly if it lies in one.
  pub defined_map-covers : (d h : ℕ) → K ≤ d → Covers (defined_map accept K l) d h ↔ Covers l d h
  defined_map-covers d h u =
      let c = run-covers accept K 0 0 (n_hash K) [] l (omega arith) rises d h u in
      let r = Any-reverse (LiesIn d h) (defined_map accept K l) in
      (λ t. ⊎_elim absurd (λ a. a) (c.0 (rw as_added at (r.1 t))), λ t. r.0 (rw as_added (c.1 (inr t))))

  -- No four siblings are left that the merger accepts.
  pub no_acceptable_quad_left : (d h : ℕ) (v0 v1 v2 v3 : A) → Has (defined_map accept K l) (child d h 0 v0) → Has (defined_map accept K l) (child d h 1 v1)
      → Has (defined_map accept K l) (child d h 2 v2) → Has (defined_map accept K l) (child d h 3 v3) → accept d h v0 v1 v2 v3 ≡ none
  no_acceptable_quad_left d h v0 v1 v2 v3 m0 m1 m2 m3 =
      let map = run-is_map accept K l rises in
      Settled-quad accept K d h v0 v1 v2 v3 0 (n_hash K) (run accept [] l) map.falls map.settled (Has-added _ m0) (Has-added _ m1) (Has-added _ m2) (Has-added _ m3)

  -- There are at most as many entries as cells.
  pub defined_map-length : length (defined_map accept K l) ≤ length l
  defined_map-length = omega (arith, length-reverse (defined_map accept K l), ap length as_added, run_length accept [] l)

  -- The map ends where the list ends.
  pub defined_map-last_end : last_end K (reverse (defined_map accept K l)) ≡ last_end K (reverse l)
  defined_map-last_end = ap (last_end K) as_added ∙ run-last_end accept K 0 0 (n_hash K) [] l (omega arith) rises

  -- ---- counts
  module _ (figure : A → ℕ) (sums : Sums accept figure) where
    -- An entry holds the total of the listed cells that lie in it.
    pub defined_map-counts : (e : Entry A) → Has (defined_map accept K l) e → figure e.value ≡ total_under figure l e.depth e.hash
    defined_map-counts e m = whole_total figure accept sums K 0 (n_hash K) l rises _ _ _ _ (whole_is accept l _ _ _ _ ((defined_map-has accept K l e).0 m).2.is)

    -- The total of the map is that of the list.
    pub defined_map-total : total figure (defined_map accept K l) ≡ total figure l
    defined_map-total = sym (total-reverse figure (defined_map accept K l)) ∙ ap (total figure) as_added ∙ omega (arith, run-total accept figure sums [] l)

-- ---- batches
module _ {A : Type 0} (accept : Merger A) (K : ℕ) where
  -- "Empty list, empty map"
  pub defined_map-nil : defined_map accept K [] ≡ []
  unfolding run
  defined_map-nil = sym (reverse-reverse (defined_map accept K [])) ∙ ap reverse (as_added accept K [] (omega arith))

  -- Adding a batch to the defined map of the joined batches gives that of all of them joined.
  pub run-onto_defined_map : (l m : List (Entry A)) → Rises K 0 (n_hash K) l → Rises K 0 (n_hash K) (l ++ m) → run accept (reverse (defined_map accept K l)) m ≡ reverse (defined_map accept K (l ++ m))
  run-onto_defined_map l m r t = rw (as_added accept K l r, ← (run-append accept [] l m)) (run-gives_defined_map accept K (l ++ m) t)

  -- A batch that rises from where the defined map ends makes, joined, a list that rises.
  pub Rises-append_from_map_end : (l m : List (Entry A)) → Rises K 0 (n_hash K) l → Rises K (last_end K (reverse (defined_map accept K l))) (n_hash K) m → Rises K 0 (n_hash K) (l ++ m)
  Rises-append_from_map_end l m r t = Rises-append K 0 _ (n_hash K) l m (Rises-to_last_end K (n_hash K) l r) (rw (defined_map-last_end accept K l r) at t)
