-- How a defined map hangs on its merger: on what that makes of four whole children, and on nothing else; what a parent whose children it
-- always keeps leaves apart; and that who merges less has the longer map, and another one where he keeps what would be swallowed. Over any
-- type of values. Assumes nothing.
use mathlib.Core.Path.{◌≡◌, refl, ap, ap₂, sym, ◌∙◌, subst}
use mathlib.Core.Bool.{Bool, true, false, cond}
use mathlib.Core.List.{List, [], ◌∷◌, ◌++◌}
use mathlib.Core.Logic.{◌↔◌, ⊎_elim}
use mathlib.Core.Option.{Option, none, some, none-ne-some}
use Prim.Native.Nat.{ℕ, zero, suc, ◌+◌, ◌*◌, ◌-◌, ◌≤◌, ◌<◌}
use native.Mathlib.Omega.{arith}
use native.Mathlib.Nat.{eq-or-lt_of_le, le_of_suc-le-suc}
use lib.ListN.{length, length-append}
use Rattle.refusal.specs.Checks.{or_else}
use Rattle.zuniq.specs.Cells.{n_hash, lies_in, start}
use Rattle.zuniq.proofs.Basics.{le_or_lt}
use Rattle.zuniq.proofs.Ranges.{lies_in-iff, lies_in-self, lies_in-same_depth, lies_in-through, lies_in-trans, child_lies_in_parent, lies_in-iff_some_child, lies_in-iff_in_range, start-lt_end}
use Rattle.build.specs.Map.{Entry, entry, is_cell, Merger, joined, listed, itself_or, merged, whole, tops, defined_map}
use Rattle.build.specs.Promises.{Has, LiesIn, Rises, WholeChildren}
use Rattle.build.proofs.Entries.{below_four, joined-ext, Any-of_has, Has-of_any}
use Rattle.build.proofs.Whole.{listed_has, listed-of_has, Whole, by_list, by_merging, whole_is, is_whole, whole-listed, whole-merged, whole_has_listed, listed-has_no_whole}
use Rattle.build.proofs.Rising.{Rises-has}
use Rattle.build.proofs.Tops.{defined_map-has}
use Rattle.build.proofs.DefinedMap.{defined_map-covers}

-- ---- two mergers
-- Both make the same of any four whole children.
abbrev pub Alike : {A : Type 0} → (f g : Merger A) → ℕ → List (Entry A) → Type 0
Alike {A} f g D l = (d h : ℕ) (a b c e : A) → WholeChildren f D l d h a b c e → f d h a b c e ≡ g d h a b c e

module _ {A : Type 0} (f g : Merger A) (D : ℕ) (l : List (Entry A)) (alike : Alike f g D l) where
  -- The same cells are whole, with the same values;
  pub whole-alike : (n d h : ℕ) → d + n ≡ D → whole f l n d h ≡ whole g l n d h
  unfolding whole
  whole-alike zero d h k = refl
  whole-alike (suc n) d h k =
      let below : (i : ℕ) → whole f l n (suc d) (4 * h + i) ≡ whole g l n (suc d) (4 * h + i) = λ i. whole-alike n (suc d) (4 * h + i) (omega arith) in
      rw (← below 0, ← below 1, ← below 2, ← below 3) (ap (or_else (listed l d h)) (four _ _ _ _ refl refl refl refl))
    where
      z : D - suc d ≡ n
      z = omega arith

      four : (o0 o1 o2 o3 : Option A) → whole f l n (suc d) (4 * h + 0) ≡ o0 → whole f l n (suc d) (4 * h + 1) ≡ o1 → whole f l n (suc d) (4 * h + 2) ≡ o2 → whole f l n (suc d) (4 * h + 3) ≡ o3
          → merged f d h o0 o1 o2 o3 ≡ merged g d h o0 o1 o2 o3
      four none o1 o2 o3 q0 q1 q2 q3 = refl
      four (some a) none o2 o3 q0 q1 q2 q3 = refl
      four (some a) (some b) none o3 q0 q1 q2 q3 = refl
      four (some a) (some b) (some c) none q0 q1 q2 q3 = refl
      four (some a) (some b) (some c) (some e) q0 q1 q2 q3 = alike d h a b c e (rw z (q0, q1, q2, q3))

  tops-alike : (n d h : ℕ) → d + n ≡ D → tops f l n d h ≡ tops g l n d h
  unfolding tops
  tops-alike zero d h k = ap (λ (o : Option A). itself_or d h o []) (whole-alike zero d h k)
  tops-alike (suc n) d h k = ap₂ (itself_or d h) (whole-alike (suc n) d h k) (joined-ext 4 _ _ (λ i. tops-alike n (suc d) (4 * h + i) (omega arith)))

  -- the maps are the same.
  pub map_alike : defined_map f D l ≡ defined_map g D l
  unfolding defined_map
  map_alike = joined-ext 12 _ _ (λ h. tops-alike D 0 h (omega arith))

  -- So are four whole children.
  pub children_alike : (d h : ℕ) (a b c e : A) → WholeChildren f D l d h a b c e ↔ WholeChildren g D l d h a b c e
  children_alike d h a b c e = (
    λ w. (sym (below 0) ∙ w.0, sym (below 1) ∙ w.1, sym (below 2) ∙ w.2, sym (below 3) ∙ w.3),
    λ w. (below 0 ∙ w.0, below 1 ∙ w.1, below 2 ∙ w.2, below 3 ∙ w.3),
  )
    where
      deepest : (n k : ℕ) → n ≡ 0 → whole f l n (suc d) k ≡ whole g l n (suc d) k
      deepest n k z = rw z (unfold whole in refl)

      below : (i : ℕ) → whole f l (D - suc d) (suc d) (4 * h + i) ≡ whole g l (D - suc d) (suc d) (4 * h + i)
      below i = ⊎_elim (λ u. whole-alike (D - suc d) (suc d) (4 * h + i) (omega (arith, u))) (λ u. deepest (D - suc d) (4 * h + i) (omega (arith, u))) (le_or_lt (suc d) D)

-- ---- a list that grows
module _ {A : Type 0} where
  listed-grows : (l m : List (Entry A)) (d h : ℕ) (x : A) → listed l d h ≡ some x → listed (l ++ m) d h ≡ some x
  unfolding listed
  listed-grows [] m d h x q = absurd (none-ne-some _ q)
  listed-grows (e ∷ l) m d h x q = go (is_cell d h e) q (listed-grows l m d h x)
    where
      go : (t : Bool) → cond t (some e.value) (listed l d h) ≡ some x → (listed l d h ≡ some x → listed (l ++ m) d h ≡ some x) → cond t (some e.value) (listed (l ++ m) d h) ≡ some x
      go true q more = q
      go false q more = more q

  module _ (K a b : ℕ) (l m : List (Entry A)) (rises : Rises K a b (l ++ m)) where
    -- Cells that are whole stay so, with their values.
    whole_grows : (accept : Merger A) (n d h : ℕ) (x : A) → Whole accept l n d h x → Whole accept (l ++ m) n d h x
    whole_grows accept n d h x (by_list q) = by_list (listed-grows l m d h x q)
    whole_grows accept n d h x (by_merging {n = k} {a = v0} {b = v1} {c = v2} {e = v3} u w0 w1 w2 w3 q) =
        go (listed (l ++ m) d h) refl (whole_grows accept k _ _ v0 w0) (whole_grows accept k _ _ v1 w1) (whole_grows accept k _ _ v2 w2) (whole_grows accept k _ _ v3 w3)
      where
        go : (o : Option A) → listed (l ++ m) d h ≡ o
            → Whole accept (l ++ m) k (suc d) (4 * h + 0) v0 → Whole accept (l ++ m) k (suc d) (4 * h + 1) v1 → Whole accept (l ++ m) k (suc d) (4 * h + 2) v2 → Whole accept (l ++ m) k (suc d) (4 * h + 3) v3
            → Whole accept (l ++ m) n d h x
        go none t w0 w1 w2 w3 = by_merging t w0 w1 w2 w3 q
        go (some y) t w0 w1 w2 w3 = absurd (listed-has_no_whole accept (l ++ m) K a b rises d h y k (suc d) (4 * h + 0) v0 t w0 (child_lies_in_parent d h 0 (omega arith)) (omega arith))

    -- Mergers that are alike over a list are so over what it grew from.
    pub Alike-before : (f g : Merger A) (D : ℕ) → Alike f g D (l ++ m) → Alike f g D l
    Alike-before f g D alike d h v0 v1 v2 v3 w = alike d h v0 v1 v2 v3 (grown _ v0 w.0, grown _ v1 w.1, grown _ v2 w.2, grown _ v3 w.3)
      where
        grown : (k : ℕ) (x : A) → whole f l (D - suc d) (suc d) k ≡ some x → whole f (l ++ m) (D - suc d) (suc d) k ≡ some x
        grown k x q = is_whole f (l ++ m) _ _ _ x (whole_grows f _ _ _ x (whole_is f l _ _ _ x q))

-- ---- a parent whose children are always kept
-- a listed cell that (p, q) lies in, and that lies in (d, h)
pub record Between {A : Type 0} (l : List (Entry A)) (p q d h : ℕ) : Type 0 where
  pub cell : Entry A
  pub has : Has l cell
  pub above : LiesIn p q cell
  pub inside : lies_in cell.depth cell.hash d h ≡ true

module _ {A : Type 0} (accept : Merger A) (l : List (Entry A)) (p q : ℕ) (keeps : (a b c e : A) → accept p q a b c e ≡ none) where
  -- A whole cell that lies above its children was listed, or has such a listed cell in it.
  whole_above_kept : (n d h : ℕ) (x : A) → Whole accept l n d h x → lies_in p q d h ≡ true → Between l p q d h
  whole_above_kept n d h x (by_list s) t = record { cell = entry d h x; has = listed_has l d h x s; above = t; inside = lies_in-self d h }
  whole_above_kept n d h x (by_merging {n = m} {a = v0} {b = v1} {c = v2} {e = v3} u w0 w1 w2 w3 s) t =
      ⊎_elim
      (λ k. absurd (itself k))
      (λ k.
      let i = (lies_in-iff_some_child p q d h k).0 t in
      below_four (λ i. lies_in p q (suc d) (4 * h + i) ≡ true → Between l p q d h)
      (λ c. up 0 (omega arith) (whole_above_kept m (suc d) (4 * h + 0) v0 w0 c)) (λ c. up 1 (omega arith) (whole_above_kept m (suc d) (4 * h + 1) v1 w1 c))
      (λ c. up 2 (omega arith) (whole_above_kept m (suc d) (4 * h + 2) v2 w2 c)) (λ c. up 3 (omega arith) (whole_above_kept m (suc d) (4 * h + 3) v3 w3 c))
      i.0 i.1 i.2)
      (eq-or-lt_of_le ((lies_in-iff p q d h).0 t).0)
    where
      itself : d ≡ p → ⊥
      itself k =
          let g : q ≡ h = lies_in-same_depth p q h (rw k at t) in
          none-ne-some x (sym (keeps v0 v1 v2 v3) ∙ rw (← k, g) s)

      up : (i : ℕ) → i < 4 → Between l p q (suc d) (4 * h + i) → Between l p q d h
      up i k b = record { cell = b.cell; has = b.has; above = b.above; inside = lies_in-trans _ _ (suc d) (4 * h + i) d h b.inside (child_lies_in_parent d h i k) }

  -- So it is with an entry of the map.
  pub entry_above_kept : (D : ℕ) (e : Entry A) → Has (defined_map accept D l) e → LiesIn p q e → Between l p q e.depth e.hash
  entry_above_kept D e m t = whole_above_kept _ e.depth e.hash e.value (whole_is accept l _ _ _ _ ((defined_map-has accept D l e).0 m).2.is) t

-- ---- who merges less
-- One of the lists is no longer than all joined,
one_of_joined : {B : Type 0} (n : ℕ) (k : ℕ → List B) (i : ℕ) → i < n → length (k i) ≤ length (joined n k)
unfolding joined
one_of_joined zero k i u = absurd (omega arith)
one_of_joined (suc n) k i u = ⊎_elim
    (λ (q : suc i ≡ suc n). let z : i ≡ n = omega arith in rw z (omega (arith, length-append (joined n k) (k n))))
    (λ v. omega (arith, one_of_joined n k i (le_of_suc-le-suc v), length-append (joined n k) (k n)))
    (eq-or-lt_of_le u)

-- and lists that are no longer one by one are no longer joined.
joined-longer : {B : Type 0} (n : ℕ) (k m : ℕ → List B) → ((i : ℕ) → length (k i) ≤ length (m i)) → length (joined n k) ≤ length (joined n m)
unfolding joined
joined-longer zero k m le = omega arith
joined-longer (suc n) k m le = omega (arith, joined-longer n k m le, le n, length-append (joined n k) (k n), length-append (joined n m) (m n))

-- What f merges g merges, to the same value.
abbrev pub Within : {A : Type 0} → (f g : Merger A) → Type 0
Within {A} f g = (d h : ℕ) (a b c e x : A) → f d h a b c e ≡ some x → g d h a b c e ≡ some x

module _ {A : Type 0} (f g : Merger A) (l : List (Entry A)) (within : Within f g) where
  -- What f has whole g has, with the same value.
  whole_within : (n d h : ℕ) (x : A) → Whole f l n d h x → Whole g l n d h x
  whole_within n d h x (by_list q) = by_list q
  whole_within n d h x (by_merging {n = m} {a = v0} {b = v1} {c = v2} {e = v3} u w0 w1 w2 w3 q) =
      by_merging u (whole_within m _ _ v0 w0) (whole_within m _ _ v1 w1) (whole_within m _ _ v2 w2) (whole_within m _ _ v3 w3) (within d h v0 v1 v2 v3 x q)

  -- Where g has one entry f has at least one.
  at_least_one : (n d h : ℕ) (x : A) → Whole g l n d h x → 1 ≤ length (tops f l n d h)
  unfolding tops
  at_least_one zero d h x (by_list q) = rw (whole-listed f l zero d h x q) (omega arith)
  at_least_one (suc n) d h x (by_list q) = rw (whole-listed f l (suc n) d h x q) (omega arith)
  at_least_one (suc n) d h x (by_merging {a = v0} u w0 w1 w2 w3 q) = go (whole f l (suc n) d h) (at_least_one n (suc d) (4 * h + 0) v0 w0)
    where
      below : ℕ → List (Entry A)
      below i = tops f l n (suc d) (4 * h + i)

      go : (o : Option A) → 1 ≤ length (below 0) → 1 ≤ length (itself_or d h o (joined 4 below))
      go (some y) one = omega arith
      go none one = omega (arith, one, one_of_joined 4 below 0 (omega arith))

  tops-longer : (n d h : ℕ) → length (tops g l n d h) ≤ length (tops f l n d h)
  unfolding tops whole
  tops-longer zero d h = omega arith
  tops-longer (suc n) d h = go (whole g l (suc n) d h) refl (joined-longer 4 _ _ (λ i. tops-longer n (suc d) (4 * h + i)))
    where
      below : Merger A → ℕ → List (Entry A)
      below accept i = tops accept l n (suc d) (4 * h + i)

      kept : whole g l (suc n) d h ≡ none → (o : Option A) → whole f l (suc n) d h ≡ o → length (joined 4 (below g)) ≤ length (joined 4 (below f)) → length (joined 4 (below g)) ≤ length (itself_or d h o (joined 4 (below f)))
      kept s none t le = le
      kept s (some y) t le = absurd (none-ne-some y (sym s ∙ is_whole g l (suc n) d h y (whole_within (suc n) d h y (whole_is f l (suc n) d h y t))))

      go : (o : Option A) → whole g l (suc n) d h ≡ o → length (joined 4 (below g)) ≤ length (joined 4 (below f)) → length (itself_or d h o (joined 4 (below g))) ≤ length (tops f l (suc n) d h)
      go (some y) s le = at_least_one (suc n) d h y (whole_is g l (suc n) d h y s)
      go none s le = kept s (whole f l (suc n) d h) refl le

  -- The map of who merges less is the longer one, or as long.
  pub map_longer : (D : ℕ) → length (defined_map g D l) ≤ length (defined_map f D l)
  unfolding defined_map
  map_longer D = joined-longer 12 _ _ (λ h. tops-longer D 0 h)

-- ---- a parent that one merger keeps and another swallows
module _ {A : Type 0} (f g : Merger A) (within : Within f g) (D : ℕ) (l : List (Entry A)) (rises : Rises D 0 (n_hash D) l)
    (p q : ℕ) (v0 v1 v2 v3 x : A) (four : WholeChildren f D l p q v0 v1 v2 v3) (keeps : (a b c e : A) → f p q a b c e ≡ none) (swallows : g p q v0 v1 v2 v3 ≡ some x) where
  first_child : Whole f l (D - suc p) (suc p) (4 * q + 0) v0
  first_child = whole_is f l _ _ _ _ four.0

  -- No listed cell lies at or above it.
  none_given : (c : Entry A) → Has l c → LiesIn p q c → ⊥
  none_given c m t =
      listed-has_no_whole f l D 0 (n_hash D) rises c.depth c.hash c.value (D - suc p) (suc p) (4 * q + 0) v0 (listed-of_has D 0 (n_hash D) l c rises m) first_child
      (lies_in-trans (suc p) (4 * q + 0) p q c.depth c.hash (child_lies_in_parent p q 0 (omega arith)) t) (omega (arith, ((lies_in-iff p q c.depth c.hash).0 t).0))

  -- By g it is whole.
  swallowed : suc p ≤ D → whole g l (D - p) p q ≡ some x
  swallowed u =
      let z : D - p ≡ suc (D - suc p) = omega arith in
      let w : (k : ℕ) (v : A) → whole f l (D - suc p) (suc p) k ≡ some v → whole g l (D - suc p) (suc p) k ≡ some v = λ k v s. is_whole g l _ _ _ v (whole_within f g l within _ _ _ v (whole_is f l _ _ _ v s)) in
      rw z (go (listed l p q) refl ∙ rw (w _ v0 four.0, w _ v1 four.1, w _ v2 four.2, w _ v3 four.3) swallows)
    where
      go : (o : Option A) → listed l p q ≡ o
          → whole g l (suc (D - suc p)) p q ≡ merged g p q (whole g l (D - suc p) (suc p) (4 * q + 0)) (whole g l (D - suc p) (suc p) (4 * q + 1)) (whole g l (D - suc p) (suc p) (4 * q + 2)) (whole g l (D - suc p) (suc p) (4 * q + 3))
      go none s = whole-merged g l (D - suc p) p q s
      go (some y) s = absurd (none_given (entry p q y) (listed_has l p q y s) (lies_in-self p q))

  -- An entry of both maps does not meet it: at or above it the one has none, and inside it the other.
  no_entry : (k : ℕ) (e : Entry A) → lies_in D k p q ≡ true → LiesIn D k e → suc p ≤ D → Has (defined_map f D l) e → Has (defined_map g D l) e → ⊥
  no_entry k e in_p in_e u m n = ⊎_elim
      (λ above. let b = entry_above_kept f l p q keeps D e m (sym (lies_in-through D k p q e.depth e.hash in_p above) ∙ in_e) in none_given b.cell b.has b.above)
      (λ below. ((defined_map-has g D l e).0 n).2.above p q (omega arith) below (sym (lies_in-through D k e.depth e.hash p q in_e (omega (arith, below))) ∙ in_p) x (swallowed u))
      (le_or_lt e.depth p)

  -- So the two maps differ: that of g has an entry which does.
  pub maps_differ : defined_map f D l ≡ defined_map g D l → ⊥
  maps_differ same =
      let r = whole_has_listed f l _ _ _ v0 first_child in
      differ r.0 r.1 r.2 (Rises-has D 0 (n_hash D) l r.0 rises r.1).0
    where
      differ : (c : Entry A) → Has l c → lies_in c.depth c.hash (suc p) (4 * q + 0) ≡ true → c.depth ≤ D → ⊥
      differ c m t deep =
          let k = start D c.depth c.hash in
          let in_c : LiesIn D k c = (lies_in-iff_in_range D k c.depth c.hash deep).1 (omega arith, start-lt_end D c.depth c.hash) in
          let in_p = lies_in-trans D k (suc p) (4 * q + 0) p q (lies_in-trans D k c.depth c.hash (suc p) (4 * q + 0) in_c t) (child_lies_in_parent p q 0 (omega arith)) in
          let e = Has-of_any (LiesIn D k) (defined_map g D l) ((defined_map-covers g D l rises D k (omega arith)).1 (Any-of_has (LiesIn D k) l c m in_c)) in
          no_entry k e.0 in_p e.2 (omega (arith, deep, ((lies_in-iff c.depth c.hash (suc p) (4 * q + 0)).0 t).0)) (subst (λ (l : List (Entry A)). Has l e.0) (sym same) e.1) e.1
