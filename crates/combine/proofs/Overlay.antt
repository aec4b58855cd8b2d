-- The overlay of two maps, by its definition: it rises, and its cells are the largest that qualify. Assumes nothing.
use mathlib.Core.Path.{◌≡◌, refl, sym, ◌∙◌}
use mathlib.Core.Bool.{Bool, true, false, ◌&&◌, cond, true≢false}
use mathlib.Core.List.{List, [], ◌∷◌}
use mathlib.Core.Logic.{◌⊎◌, inl, inr, ⊎_elim, ⊎_map, ◌↔◌}
use mathlib.Core.Option.{Option, none, some}
use Prim.Native.Nat.{ℕ, zero, suc, ◌+◌, ◌*◌, ◌/◌, ◌-◌, ◌^◌, ◌≤◌, ◌<◌}
use native.Mathlib.Omega.{arith}
use native.Mathlib.Nat.{eq-or-lt_of_le, add-suc, sub-zero}
use lib.ListN.{length}
use Rattle.zuniq.specs.Cells.{n_hash, lies_in, start, end}
use Rattle.zuniq.proofs.Basics.{and_is_true}
use Rattle.zuniq.proofs.Ranges.{lies_in-iff, lies_in-self, lies_in-same_depth, lies_in-trans, child_lies_in_parent, lies_in-iff_some_child, start-lt_end, lies_in-within, lies_in-iff_in_range, start-first_child, end-last_child, end-is_next_start}
use Rattle.build.specs.Map.{Entry, itself_or, joined}
use Rattle.build.specs.Promises.{Has, LiesIn, Covers, start_of, end_of, Rises}
use Rattle.build.proofs.Entries.{entry-is, Any-of_has, Has-of_any, Any-joined}
use Rattle.build.proofs.Rising.{range_of, Rises-le, Rises-has, Rises-in_range, Rises-joined}
use Rattle.build.proofs.Tops.{base_lt}
use Rattle.combine.specs.Overlay.{Seen, fits, Split, seen_at, overlay_in, overlay}
use Rattle.combine.specs.Promises.{Qualifies, OverlayCell}
use Rattle.combine.proofs.Fits.{lies_in-of_overlap, fits-of_touches, Covers-above, Covers-of_seen, unseen_covers_none}

-- ---- lists down the tree
-- The twelve base cells part the sky.
sky_start : (K : ℕ) → start K 0 0 ≡ 0
unfolding start
sky_start K = omega arith

sky_end : (K : ℕ) → start K 0 12 ≡ n_hash K
unfolding start n_hash
sky_end K = rw sub-zero

module _ {B : Type 0} (K : ℕ) where
  -- Four lists that rise, one in each child, make one that rises in the parent.
  pub Rises-children : (d h : ℕ) (g : ℕ → List (Entry B)) → d < K → ((i : ℕ) → i < 4 → Rises K (start K (suc d) (4 * h + i)) (end K (suc d) (4 * h + i)) (g i)) → Rises K (start K d h) (end K d h) (joined 4 g)
  Rises-children d h g u r =
      let next : (i : ℕ) → end K (suc d) (4 * h + i) ≡ start K (suc d) (4 * h + suc i) = λ i. rw add-suc (end-is_next_start K (suc d) (4 * h + i)) in
      let first = start-first_child K d h u in
      let last : start K (suc d) (4 * h + 4) ≡ end K d h = sym (next 3) ∙ end-last_child K d h u in
      rw (first, last) at (Rises-joined K 4 (λ i. start K (suc d) (4 * h + i)) g (λ i v. rw (next i) at (r i v)))

  -- Twelve lists that rise, one in each base cell, make one that rises within the sky.
  pub Rises-sky : (g : ℕ → List (Entry B)) → ((h : ℕ) → h < 12 → Rises K (start K 0 h) (end K 0 h) (g h)) → Rises K 0 (n_hash K) (joined 12 g)
  Rises-sky g r = rw (sky_start, sky_end) at (Rises-joined K 12 (start K 0) g (λ h u. rw (end-is_next_start K 0 h) at (r h u)))

  -- A list that rises has no more entries than there are places in its range.
  pub Rises-length : (a b : ℕ) (l : List (Entry B)) → Rises K a b l → a + length l ≤ b
  Rises-length a b [] r = omega arith
  Rises-length a b (e ∷ l) r = omega (arith, range_of K e, Rises-length (end_of K e) b l r.2)

module _ {A : Type 0} (split : Split A) (K : ℕ) (l r : List (Entry A)) where
  -- the overlay cells in (d, h), if those in its children are `inside`
  abbrev here : ℕ → ℕ → List (Entry (Seen A)) → List (Entry (Seen A))
  here d h inside = cond (fits l d h && fits r d h) (itself_or d h (seen_at split l r d h) []) inside

  -- ---- rising
  here-rises : (d h : ℕ) (inside : List (Entry (Seen A))) → d ≤ K → Rises K (start K d h) (end K d h) inside → Rises K (start K d h) (end K d h) (here d h inside)
  here-rises d h inside u rises = go (fits l d h && fits r d h) (seen_at split l r d h)
    where
      go : (t : Bool) (o : Option (Seen A)) → Rises K (start K d h) (end K d h) (cond t (itself_or d h o []) inside)
      go false o = rises
      go true none = omega (arith, start-lt_end K d h)
      go true (some s) = (u, omega arith, omega arith)

  overlay_in-rises : (n d h : ℕ) → d + n ≡ K → Rises K (start K d h) (end K d h) (overlay_in split l r n d h)
  unfolding overlay_in
  overlay_in-rises zero d h k = here-rises d h [] (omega arith) (omega (arith, start-lt_end K d h))
  overlay_in-rises (suc n) d h k =
      here-rises d h _ (omega arith) (Rises-children K d h (λ i. overlay_in split l r n (suc d) (4 * h + i)) (omega arith) (λ i u. overlay_in-rises n (suc d) (4 * h + i) (omega arith)))

  -- The overlay rises: no two of its cells overlap.
  pub overlay-rises : Rises K 0 (n_hash K) (overlay split K l r)
  unfolding overlay
  overlay-rises = Rises-sky K (λ h. overlay_in split l r K 0 h) (λ h u. overlay_in-rises K 0 h (omega arith))

  -- It has no more cells than the depth K has.
  pub overlay-length : length (overlay split K l r) ≤ n_hash K
  overlay-length = omega (arith, Rises-length K 0 (n_hash K) (overlay split K l r) overlay-rises)

  -- ---- the largest cells
  -- e is one of the largest cells that qualify, of those in the cell (d, h)
  record Largest (d h : ℕ) (e : Entry (Seen A)) : Type 0 where
    inside : lies_in e.depth e.hash d h ≡ true
    deep : e.depth ≤ K
    qualifies : Qualifies l r e.depth e.hash
    sees : seen_at split l r e.depth e.hash ≡ some e.value
    above : (a b : ℕ) → d ≤ a → a < e.depth → lies_in e.depth e.hash a b ≡ true → Qualifies l r a b → ⊥

  unfit_unqualified : (d h : ℕ) → (fits l d h && fits r d h) ≡ false → Qualifies l r d h → ⊥
  unfit_unqualified d h f q = true≢false (rw (q.1, q.2) at f)

  -- One of the largest cells in (d, h) is (d, h) itself or deeper.
  itself_or_deeper : (d h : ℕ) (e : Entry (Seen A)) → Largest d h e → ((e.depth ≡ d) × (e.hash ≡ h)) ⊎ (d < e.depth)
  itself_or_deeper d h e t = ⊎_elim (λ q. inl (sym q, lies_in-same_depth d e.hash h (rw (sym q) at t.inside))) inr (eq-or-lt_of_le ((lies_in-iff e.depth e.hash d h).0 t.inside).0)

  has_here : (d h : ℕ) (e : Entry (Seen A)) (inside : List (Entry (Seen A))) → d ≤ K → ((fits l d h && fits r d h) ≡ false → Has inside e ↔ Largest d h e)
      → Has (here d h inside) e ↔ Largest d h e
  has_here d h e inside u more = go (fits l d h && fits r d h) refl (seen_at split l r d h) refl
    where
      covers : (fits l d h && fits r d h) ≡ true → Largest d h e → Covers l d h ⊎ Covers r d h
      covers f t =
          let p = and_is_true (fits l d h) (fits r d h) f in
          ⊎_map (λ c. Covers-above l d h e.depth e.hash t.inside c p.0) (λ c. Covers-above r d h e.depth e.hash t.inside c p.1) t.qualifies.0

      go : (f : Bool) → (fits l d h && fits r d h) ≡ f → (o : Option (Seen A)) → seen_at split l r d h ≡ o → Has (cond f (itself_or d h o []) inside) e ↔ Largest d h e
      go false f o q = more f
      go true f none q = (absurd, λ t. unseen_covers_none split l r d h q (covers f t))
      go true f (some s) q =
          let p = and_is_true (fits l d h) (fits r d h) f in (
            ⊎_elim
                (λ z. rw z (record {
                  inside = lies_in-self d h;
                  deep = u;
                  qualifies = (Covers-of_seen split l r d h s q, p.0, p.1);
                  sees = q;
                  above = λ a b v w. absurd (omega arith);
                })) absurd,
            λ t. inl (⊎_elim
                (λ z. entry-is e d h s z.0 z.1 (let w = rw (z.0, z.1) at t.sees in cc))
                (λ v. absurd (t.above d h (omega arith) v t.inside (covers f t, p.0, p.1)))
                (itself_or_deeper d h e t)),
          )

  -- One of the largest in a child is one in the parent, if the parent does not fit both maps.
  child_largest : (d h i : ℕ) (e : Entry (Seen A)) → (fits l d h && fits r d h) ≡ false → i < 4 → Largest (suc d) (4 * h + i) e → Largest d h e
  child_largest d h i e f u t = record {
    inside = inside;
    deep = t.deep;
    qualifies = t.qualifies;
    sees = t.sees;
    above = λ a b v w c q. ⊎_elim
        (λ z.
        let p = ((lies_in-iff e.depth e.hash a b).0 c).1 in
        let g : b ≡ h = sym p ∙ rw z at ((lies_in-iff e.depth e.hash d h).0 inside).1 in
        unfit_unqualified d h f (rw (← z, g) at q))
        (λ v. t.above a b v w c q)
        (eq-or-lt_of_le v);
  }
    where
      inside : lies_in e.depth e.hash d h ≡ true
      inside = lies_in-trans _ _ (suc d) (4 * h + i) d h t.inside (child_lies_in_parent d h i u)

  Has-overlay_in : (n d h : ℕ) (e : Entry (Seen A)) → d + n ≡ K → Has (overlay_in split l r n d h) e ↔ Largest d h e
  unfolding overlay_in
  Has-overlay_in zero d h e k = has_here d h e [] (omega arith) (λ f. (
    absurd,
    λ t. ⊎_elim (λ z. unfit_unqualified d h f (rw (z.0, z.1) at t.qualifies)) (λ v. absurd (omega (arith, t.deep))) (itself_or_deeper d h e t),
  ))
  Has-overlay_in (suc n) d h e k = has_here d h e _ (omega arith) (λ f. (
    λ m.
        let c = (Any-joined (λ y. e ≡ y) 4 (λ i. overlay_in split l r n (suc d) (4 * h + i))).0 m in
        child_largest d h c.0 e f c.1 ((Has-overlay_in n (suc d) (4 * h + c.0) e (omega arith)).0 c.2),
    λ t. ⊎_elim
        (λ z. absurd (unfit_unqualified d h f (rw (z.0, z.1) at t.qualifies)))
        (λ v.
        let c = (lies_in-iff_some_child e.depth e.hash d h v).0 t.inside in
        (Any-joined (λ y. e ≡ y) 4 (λ i. overlay_in split l r n (suc d) (4 * h + i))).1 (
          c.0,
          c.1,
          (Has-overlay_in n (suc d) (4 * h + c.0) e (omega arith)).1 (record {
            inside = c.2;
            deep = t.deep;
            qualifies = t.qualifies;
            sees = t.sees;
            above = λ a b u. t.above a b (omega arith);
          }),
        ))
        (itself_or_deeper d h e t),
  ))

  -- "the largest cells that lie in an entry of at least one map and, for each map, lie in one of its entries or overlap none":
  -- the overlay has exactly these.
  pub overlay-has_iff : (e : Entry (Seen A)) → Has (overlay split K l r) e ↔ OverlayCell split K l r e
  unfolding overlay
  overlay-has_iff e = (there, back)
    where
      there : Has (overlay split K l r) e → OverlayCell split K l r e
      there m =
          let c = (Any-joined (λ y. e ≡ y) 12 (λ h. overlay_in split l r K 0 h)).0 m in
          let t = (Has-overlay_in K 0 c.0 e (omega arith)).0 c.2 in
          record { deep = t.deep; sky = (Rises-in_range K 0 (overlay split K l r) e overlay-rises m).1; qualifies = t.qualifies; sees = t.sees; largest = λ a b. t.above a b (omega arith) }

      back : OverlayCell split K l r e → Has (overlay split K l r) e
      back t = (Any-joined (λ y. e ≡ y) 12 (λ h. overlay_in split l r K 0 h)).1 (
        e.hash / 4 ^ (e.depth - 0),
        base_lt e.depth e.hash t.sky,
        (Has-overlay_in K 0 _ e (omega arith)).1 (record { inside = (lies_in-iff _ _ 0 _).1 (omega arith, refl); deep = t.deep; qualifies = t.qualifies; sees = t.sees; above = λ a b _. t.largest a b }),
      )

  -- An overlay cell starts where the maps do, or later.
  pub overlay-rises_from : (a : ℕ) → Rises K a (n_hash K) l → Rises K a (n_hash K) r → Rises K a (n_hash K) (overlay split K l r)
  overlay-rises_from a p q = from (overlay split K l r) overlay-rises (λ e m.
      let t = (overlay-has_iff e).0 m in
      ⊎_elim (starts l p e t.deep) (starts r q e t.deep) t.qualifies.0)
    where
      starts : (m : List (Entry A)) → Rises K a (n_hash K) m → (e : Entry (Seen A)) → e.depth ≤ K → Covers m e.depth e.hash → a ≤ start_of K e
      starts m p e u c =
          let g = Has-of_any (LiesIn e.depth e.hash) m c in
          omega (arith, Rises-has K a (n_hash K) m g.0 p g.1, lies_in-within K e.depth e.hash g.0.depth g.0.hash u g.2)

      from : (o : List (Entry (Seen A))) → Rises K 0 (n_hash K) o → ((e : Entry (Seen A)) → Has o e → a ≤ start_of K e) → Rises K a (n_hash K) o
      from [] t b = Rises-le K a (n_hash K) l p
      from (e ∷ o) t b = (t.0, b e (inl refl), t.2)

-- ---- cover
module _ {A : Type 0} (split : Split A) (K : ℕ) where
  -- A cell of the largest depth fits.
  deepest_fits : (a b : ℕ) (l : List (Entry A)) (k : ℕ) → Rises K a b l → fits l K k ≡ true
  deepest_fits a b l k r = fits-of_touches l K k (λ t.
      let g = Has-of_any _ l t in
      Any-of_has (LiesIn K k) l g.0 g.1 (lies_in-of_overlap K k g.0.depth g.0.hash (Rises-has K a b l g.0 r g.1).0 g.2))

  module _ (l r : List (Entry A)) (p : Rises K 0 (n_hash K) l) (q : Rises K 0 (n_hash K) r) where
    covered_here : (d h k : ℕ) (inside : List (Entry (Seen A))) → lies_in K k d h ≡ true → Covers l K k ⊎ Covers r K k → ((fits l d h && fits r d h) ≡ false → Covers inside K k) → Covers (here split K l r d h inside) K k
    covered_here d h k inside t c more = go (fits l d h && fits r d h) refl (seen_at split l r d h) refl
      where
        go : (f : Bool) → (fits l d h && fits r d h) ≡ f → (o : Option (Seen A)) → seen_at split l r d h ≡ o → Covers (cond f (itself_or d h o []) inside) K k
        go false f o s = more f
        go true f none s =
            let b = and_is_true (fits l d h) (fits r d h) f in
            absurd (unseen_covers_none split l r d h s (⊎_map (λ c. Covers-above l d h K k t c b.0) (λ c. Covers-above r d h K k t c b.1) c))
        go true f (some x) s = inl t

    covered_in : (n d h k : ℕ) → d + n ≡ K → lies_in K k d h ≡ true → Covers l K k ⊎ Covers r K k → Covers (overlay_in split l r n d h) K k
    unfolding overlay_in
    covered_in zero d h k e t c = covered_here d h k [] t c (λ f.
        let z : d ≡ K = omega arith in
        true≢false (rw (z, deepest_fits 0 (n_hash K) l h p, deepest_fits 0 (n_hash K) r h q) at f))
    covered_in (suc n) d h k e t c = covered_here d h k _ t c (λ f.
        let i = (lies_in-iff_some_child K k d h (omega arith)).0 t in
        (Any-joined (LiesIn K k) 4 (λ i. overlay_in split l r n (suc d) (4 * h + i))).1 (i.0, i.1, covered_in n (suc d) (4 * h + i.0) k (omega arith) i.2 c))

    -- What lies in an overlay cell lies in an entry of a map that this cell lies in.
    Covers-through : (m : List (Entry A)) (d h k : ℕ) → lies_in K k d h ≡ true → Covers m d h → Covers m K k
    Covers-through m d h k t c =
        let g = Has-of_any (LiesIn d h) m c in
        Any-of_has (LiesIn K k) m g.0 g.1 (lies_in-trans K k d h g.0.depth g.0.hash t g.2)

    -- What lies in an entry is a cell of the sky.
    covered_in_sky : (m : List (Entry A)) (k : ℕ) → Rises K 0 (n_hash K) m → Covers m K k → k < n_hash K
    covered_in_sky m k t c =
        let g = Has-of_any (LiesIn K k) m c in
        let w = Rises-has K 0 (n_hash K) m g.0 t g.1 in
        omega (arith, w.2, (lies_in-iff_in_range K k g.0.depth g.0.hash w.0).0 g.2)

    -- The overlay covers exactly what an entry of at least one map covers.
    pub overlay-covers : (k : ℕ) → Covers (overlay split K l r) K k ↔ (Covers l K k ⊎ Covers r K k)
    unfolding overlay
    overlay-covers k = (
      λ c.
          let g = Has-of_any (LiesIn K k) (overlay split K l r) c in
          ⊎_map (Covers-through l _ _ k g.2) (Covers-through r _ _ k g.2) ((overlay-has_iff split K l r g.0).0 g.1).qualifies.0,
      λ c.
          let h = k / 4 ^ (K - 0) in
          let u = ⊎_elim (covered_in_sky l k p) (covered_in_sky r k q) c in
          (Any-joined (LiesIn K k) 12 (λ h. overlay_in split l r K 0 h)).1 (h, base_lt K k u, covered_in K 0 h k (omega arith) ((lies_in-iff K k 0 h).1 (omega arith, refl)) c),
    )
