-- What one turn of the walk does to the overlay: a cell that ends before the rest of both maps starts is the first overlay cell,
-- and a cell that has one strictly inside it may be split. Assumes nothing.
use mathlib.Core.Path.{◌≡◌, refl, ap, sym, ◌∙◌}
use mathlib.Core.Bool.{Bool, true, false, ◌&&◌, cond, and-false, true≢false}
use mathlib.Core.List.{List, [], ◌∷◌, ◌++◌, map}
use mathlib.Core.Logic.{◌⊎◌, inl, inr, ⊎_elim, ⊎_map}
use mathlib.Core.Option.{Option, none, some}
use Prim.Native.Nat.{ℕ, zero, suc, ◌+◌, ◌*◌, ◌/◌, ◌%◌, ◌-◌, ◌^◌, ◌≤◌, ◌<◌}
use native.Mathlib.Omega.{arith}
use native.Mathlib.Nat.{eq-or-lt_of_le, pow-suc, div-one, div-div-eq-div-mul, mul_comm}
use Rattle.zuniq.specs.Cells.{n_hash, lies_in, overlap, start, end}
use Rattle.zuniq.proofs.Basics.{le_or_lt}
use Rattle.zuniq.proofs.Ranges.{lies_in-iff, lies_in-self, lies_in-same_depth, lies_in-trans, overlap-iff_lies_in, overlap-sym, overlap-iff_meets, apart_iff_end_le_start, lies_in-within, child_lies_in_parent, lies_in-child_iff, lies_in-iff_some_child, start-first_child, end-child_is_next_start, end-last_child}
use Rattle.build.specs.Map.{Entry, entry, itself_or}
use Rattle.build.specs.Stack.{child}
use Rattle.build.specs.Promises.{Any, Has, LiesIn, Covers, Rises}
use Rattle.build.proofs.Entries.{below_four, joined-ext, entry-is, Any-of_has, Has-of_any}
use Rattle.build.proofs.Rising.{range_of, Rises-has, Rises-unique}
use Rattle.combine.specs.Overlay.{Seen, seen_by, fits, Split, part, value_in, seen_at, overlay_in, overlay, swapped}
use Rattle.combine.specs.Promises.{Qualifies, OverlayCell}
use Rattle.combine.specs.Walk.{Inner, children}
use Rattle.combine.proofs.Fits.{lies_in-of_overlap, apart_of_lies_in, fits-of_covers, fits-of_touches, Covers-of_fits, value_of_none, value_of_has, Alike, Alike-without, Covers-of_seen}
use Rattle.combine.proofs.Overlay.{overlay-rises, overlay-rises_from, overlay-has_iff}
use Rattle.combine.proofs.Swap.{overlay-swap}

-- A cell overlaps one that it lies in.
overlap-of_lies_in : (d h e g : ℕ) → lies_in d h e g ≡ true → overlap d h e g ≡ true
overlap-of_lies_in d h e g t = (overlap-iff_lies_in d h e g).1 (inl t)

-- ---- a cell in front
-- the list with the cell (d, h) in front, if that has a value
abbrev pub onto : {A : Type 0} → ℕ → ℕ → Option A → List (Entry A) → List (Entry A)
onto d h x l = itself_or d h x [] ++ l

module _ {A : Type 0} (split : Split A) (d h : ℕ) where
  onto-alike : (x : Option A) (l : List (Entry A)) (a b : ℕ) → overlap a b d h ≡ false → Alike split (onto d h x l) l a b
  onto-alike none l a b o = (refl, refl)
  onto-alike (some v) l a b o = Alike-without split (entry d h v) l a b o

  onto-covers : (x : Option A) (l : List (Entry A)) (a b : ℕ) → Covers (onto d h x l) a b → (lies_in a b d h ≡ true) ⊎ Covers l a b
  onto-covers none l a b c = inr c
  onto-covers (some v) l a b c = c

  Covers-onto : (x : Option A) (l : List (Entry A)) (a b : ℕ) → Covers l a b → Covers (onto d h x l) a b
  Covers-onto none l a b c = c
  Covers-onto (some v) l a b c = inr c

  module _ (K : ℕ) (u : d ≤ K) (l : List (Entry A)) (rises : Rises K (end K d h) (n_hash K) l) where
    -- What lies in an entry behind the cell does not overlap it.
    behind_apart : (a b : ℕ) → a ≤ K → Covers l a b → overlap a b d h ≡ false
    behind_apart a b v c =
        let g = Has-of_any (LiesIn a b) l c in
        (apart_iff_end_le_start K a b d h v u).1 (inr (omega (arith, Rises-has K _ _ l g.0 rises g.1, lies_in-within K a b g.0.depth g.0.hash v g.2)))

    front_apart : Any (λ e. overlap d h e.depth e.hash ≡ true) l → ⊥
    front_apart t =
        let g = Has-of_any _ l t in
        let p = Rises-has K _ _ l g.0 rises g.1 in
        omega (arith, p.1, (overlap-iff_meets K d h g.0.depth g.0.hash u p.0).0 g.2)

    -- From the cell itself, its value is seen, and it fits.
    onto-value : (x : Option A) → value_in split (onto d h x l) d h ≡ x
    unfolding value_in part
    onto-value none = value_of_none split l d h (λ c. true≢false (sym (overlap-of_lies_in d h d h (lies_in-self d h)) ∙ behind_apart d h u c))
    onto-value (some v) = let z : d - d ≡ 0 = omega arith in rw (lies_in-self d h, z)

    onto-fits : (x : Option A) → fits (onto d h x l) d h ≡ true
    onto-fits none = fits-of_touches l d h (λ t. absurd (front_apart t))
    onto-fits (some v) = fits-of_covers (onto d h (some v) l) d h (inl (lies_in-self d h))

-- ---- giving a cell
module _ {A : Type 0} (split : Split A) (K d h : ℕ) (x y : Option A) (s : Seen A) (l r : List (Entry A))
    (u : d ≤ K) (v : h < n_hash d) (sees : seen_by x y ≡ some s) (p : Rises K (end K d h) (n_hash K) l) (q : Rises K (end K d h) (n_hash K) r) where
  -- What lies in an entry behind the cell qualifies with the cell in front exactly if it does without.
  apart : (a b : ℕ) → a ≤ K → Covers l a b ⊎ Covers r a b → overlap a b d h ≡ false
  apart a b m = ⊎_elim (behind_apart split d h K u l p a b m) (behind_apart split d h K u r q a b m)

  with_front : (a b : ℕ) → a ≤ K → Qualifies l r a b → Qualifies (onto d h x l) (onto d h y r) a b
  with_front a b m t =
      let o = apart a b m t.0 in
      (⊎_map (Covers-onto split d h x l a b) (Covers-onto split d h y r a b) t.0, (onto-alike split d h x l a b o).1 ∙ t.1, (onto-alike split d h y r a b o).1 ∙ t.2)

  -- Of what qualifies with the cell in front, some lies in that, and the rest qualifies without and does not overlap it.
  without_front : (a b : ℕ) → a ≤ K → Qualifies (onto d h x l) (onto d h y r) a b → (lies_in a b d h ≡ true) ⊎ ((overlap a b d h ≡ false) × Qualifies l r a b)
  without_front a b m t = ⊎_elim inl
      (λ c. let o = apart a b m c in inr (o, (c, sym (onto-alike split d h x l a b o).1 ∙ t.1, sym (onto-alike split d h y r a b o).1 ∙ t.2)))
      (⊎_elim (λ c. ⊎_map (λ t. t) inl (onto-covers split d h x l a b c)) (λ c. ⊎_map (λ t. t) inr (onto-covers split d h y r a b c)) t.0)

  seen_without : (a b : ℕ) → overlap a b d h ≡ false → seen_at split (onto d h x l) (onto d h y r) a b ≡ seen_at split l r a b
  seen_without a b o = rw ((onto-alike split d h x l a b o).0, (onto-alike split d h y r a b o).0)

  seen_front : seen_at split (onto d h x l) (onto d h y r) d h ≡ some s
  seen_front = rw (onto-value split d h K u l p x, onto-value split d h K u r q y) sees

  front_qualifies : Qualifies (onto d h x l) (onto d h y r) d h
  front_qualifies = (Covers-of_seen split (onto d h x l) (onto d h y r) d h s seen_front, onto-fits split d h K u l p x, onto-fits split d h K u r q y)

  overlapping : (a b : ℕ) → lies_in d h a b ≡ true → overlap a b d h ≡ true
  overlapping a b t = overlap-sym a b d h ∙ overlap-of_lies_in d h a b t

  front_is : OverlayCell split K (onto d h x l) (onto d h y r) (entry d h s)
  front_is = record {
    deep = u;
    sky = v;
    qualifies = front_qualifies;
    sees = seen_front;
    largest = λ a b m t c. ⊎_elim (λ i. absurd (omega (arith, ((lies_in-iff a b d h).0 i).0))) (λ i. true≢false (sym (overlapping a b t) ∙ i.0)) (without_front a b (omega arith) c);
  }

  rest_is : (e : Entry (Seen A)) → OverlayCell split K l r e → OverlayCell split K (onto d h x l) (onto d h y r) e
  rest_is e t =
      let o = apart e.depth e.hash t.deep t.qualifies.0 in
      record {
        deep = t.deep;
        sky = t.sky;
        qualifies = with_front e.depth e.hash t.deep t.qualifies;
        sees = seen_without e.depth e.hash o ∙ t.sees;
        largest = λ a b m i c. ⊎_elim
            (λ j. true≢false (sym (overlap-of_lies_in _ _ d h (lies_in-trans _ _ a b d h i j)) ∙ o))
            (λ j. t.largest a b m i j.1)
            (without_front a b (omega (arith, t.deep)) c);
      }

  front_or_rest : (e : Entry (Seen A)) → OverlayCell split K (onto d h x l) (onto d h y r) e → (e ≡ entry d h s) ⊎ OverlayCell split K l r e
  front_or_rest e t = ⊎_elim (λ i. inl (front i)) (λ j. inr (rest j)) (without_front e.depth e.hash t.deep t.qualifies)
    where
      front : lies_in e.depth e.hash d h ≡ true → e ≡ entry d h s
      front i = ⊎_elim
          (λ z.
          let f : e.depth ≡ d = sym z in
          let g : e.hash ≡ h = lies_in-same_depth d e.hash h (rw f at i) in
          entry-is e d h s f g (let w = rw (f, g) at t.sees in let w' = seen_front in cc))
          (λ m. absurd (t.largest d h m i front_qualifies))
          (eq-or-lt_of_le ((lies_in-iff e.depth e.hash d h).0 i).0)

      rest : (overlap e.depth e.hash d h ≡ false) × Qualifies l r e.depth e.hash → OverlayCell split K l r e
      rest j = record {
        deep = t.deep;
        sky = t.sky;
        qualifies = j.1;
        sees = sym (seen_without e.depth e.hash j.0) ∙ t.sees;
        largest = λ a b m i c. t.largest a b m i (with_front a b (omega (arith, t.deep)) c);
      }

  -- A cell of one or both maps that ends before all else starts is the first cell of their overlay.
  pub overlay-gives : overlay split K (onto d h x l) (onto d h y r) ≡ entry d h s ∷ overlay split K l r
  overlay-gives =
      let has = overlay-has_iff split K (onto d h x l) (onto d h y r) in
      Rises-unique K 0 (n_hash K) 0 (n_hash K) _ (entry d h s ∷ overlay split K l r)
      (overlay-rises split K (onto d h x l) (onto d h y r)) (u, omega arith, overlay-rises_from split K l r (end K d h) p q)
      (λ e m. ⊎_map (λ z. z) (overlay-has_iff split K l r e).1 (front_or_rest e ((has e).0 m)))
      (λ e m. ⊎_elim (λ z. rw z ((has (entry d h s)).1 front_is)) (λ n. (has e).1 (rest_is e ((overlay-has_iff split K l r e).0 n))) m)

-- ---- splitting a cell
-- Going up one level and then n is going up one more.
ancestor_of_parent : (n h : ℕ) → h / 4 / 4 ^ n ≡ h / 4 ^ suc n
ancestor_of_parent n h = div-div-eq-div-mul h 4 (4 ^ n) ∙ ap (λ (w : ℕ). h / w) (mul_comm 4 (4 ^ n) ∙ sym (pow-suc 4 n))

module _ {A : Type 0} (split : Split A) where
  -- Splitting level by level may start with the level at the top.
  part-from_top : (n d h : ℕ) (v : A) → part split (suc n) d h v ≡ part split n d h (split (d - suc n) (h / 4 ^ suc n) v (h / 4 ^ n % 4))
  unfolding part
  part-from_top zero d h v = rw div-one
  part-from_top (suc n) d h v =
      let z : d - 1 - suc n ≡ d - suc (suc n) = omega arith in
      ap (λ (w : A). split (d - 1) (h / 4) w (h % 4)) (part-from_top n (d - 1) (h / 4) v ∙ rw (z, ancestor_of_parent (suc n) h, ancestor_of_parent n h))

  -- A cell strictly inside another has the same value from the child that it lies in.
  part-of_child : (a b d h i : ℕ) (v : A) → d < a → i < 4 → lies_in a b (suc d) (4 * h + i) ≡ true → part split (a - suc d) a b (split d h v i) ≡ part split (a - d) a b v
  part-of_child a b d h i v m j t =
      let p = (lies_in-child_iff a b d h i m j).0 t in
      let n : a - d ≡ suc (a - suc d) = omega arith in
      let z : a - suc (a - suc d) ≡ d = omega arith in
      let g : b / 4 ^ suc (a - suc d) ≡ h = rw n at ((lies_in-iff a b d h).0 p.0).1 in
      rw (n, part-from_top (a - suc d) a b v, z, g, p.1)

  module _ (K : ℕ) where
    -- A list that rises still does when its first cell is split.
    pub Rises-open : (a b : ℕ) (e : Entry A) (l : List (Entry A)) → e.depth < K → Rises K a b (e ∷ l) → Rises K a b (children split e ++ l)
    Rises-open a b e l u r =
        let d = e.depth in
        let h = e.hash in
        let first = start-first_child K d h u in
        let next : (i : ℕ) → end K (suc d) (4 * h + i) ≤ start K (suc d) (4 * h + (i + 1)) = λ i. omega (arith, end-child_is_next_start K d h i) in
        (u, omega (arith, r.1), (u, next 0, (u, next 1, (u, next 2, rw (end-last_child K d h u) r.2))))

    module _ (l m r : List (Entry A)) (alike : (a b : ℕ) → a ≤ K → fits r a b ≡ true → Alike split l m a b) where
      alike_here : (d h : ℕ) (o p : List (Entry (Seen A))) → d ≤ K → o ≡ p
          → cond (fits l d h && fits r d h) (itself_or d h (seen_at split l r d h) []) o ≡ cond (fits m d h && fits r d h) (itself_or d h (seen_at split m r d h) []) p
      alike_here d h o p u q = go (fits r d h) refl
        where
          go : (f : Bool) → fits r d h ≡ f → cond (fits l d h && fits r d h) (itself_or d h (seen_at split l r d h) []) o ≡ cond (fits m d h && fits r d h) (itself_or d h (seen_at split m r d h) []) p
          go true f = let s = alike d h u f in rw (s.0, s.1, q)
          go false f = rw (f, and-false (fits l d h), and-false (fits m d h)) q

      alike_in : (n d h : ℕ) → d + n ≡ K → overlay_in split l r n d h ≡ overlay_in split m r n d h
      unfolding overlay_in
      alike_in zero d h k = alike_here d h [] [] (omega arith) refl
      alike_in (suc n) d h k = alike_here d h _ _ (omega arith) (joined-ext 4 _ _ (λ i. alike_in n (suc d) (4 * h + i) (omega arith)))

      -- The overlay is the same if the left maps look alike from each cell that fits the right one.
      overlay-alike : overlay split K l r ≡ overlay split K m r
      unfolding overlay
      overlay-alike = joined-ext 12 _ _ (λ h. alike_in K 0 h (omega arith))

    module _ (e c : Entry A) (l r : List (Entry A)) (p : Rises K 0 (n_hash K) (e ∷ l)) (q : Rises K 0 (n_hash K) (c ∷ r)) (inner : Inner c e) where
      -- A cell in which the outer one lies does not fit.
      outer_unfit : (a b : ℕ) → fits (c ∷ r) a b ≡ true → lies_in e.depth e.hash a b ≡ true → ⊥
      outer_unfit a b f t = ⊎_elim
          (λ i. omega (arith, inner.0, ((lies_in-iff e.depth e.hash a b).0 t).0, ((lies_in-iff a b c.depth c.hash).0 i).0))
          (λ i.
          let g = Has-of_any (LiesIn a b) r i in
          let w = lies_in-within K c.depth c.hash g.0.depth g.0.hash q.0 (lies_in-trans _ _ a b _ _ inside g.2) in
          omega (arith, (Rises-has K _ _ r g.0 q.2 g.1).1, range_of K c))
          (Covers-of_fits (c ∷ r) a b f (inl (overlap-sym a b c.depth c.hash ∙ overlap-of_lies_in c.depth c.hash a b inside)))
        where
          inside : lies_in c.depth c.hash a b ≡ true
          inside = lies_in-trans _ _ e.depth e.hash a b inner.1 t

      above_deepest : e.depth < K
      above_deepest = omega (arith, inner.0, q.0)

      open_alike : (a b : ℕ) → a ≤ K → fits (c ∷ r) a b ≡ true → Alike split (children split e ++ l) (e ∷ l) a b
      open_alike a b u f = go (overlap a b e.depth e.hash) refl (le_or_lt a e.depth)
        where
          d : ℕ
          d = e.depth

          h : ℕ
          h = e.hash

          part_at : ℕ → Entry A
          part_at i = child d h i (split d h e.value i)

          go : (t : Bool) → overlap a b d h ≡ t → (a ≤ d) ⊎ (d < a) → Alike split (children split e ++ l) (e ∷ l) a b
          go false o x =
              let without : (i : ℕ) (m : List (Entry A)) → i < 4 → Alike split (part_at i ∷ m) m a b
              = λ i m j. Alike-without split (part_at i) m a b (apart_of_lies_in K a b (suc d) (4 * h + i) d h u above_deepest (omega (arith, above_deepest)) (child_lies_in_parent d h i j) o) in
              let w0 = without 0 (part_at 1 ∷ part_at 2 ∷ part_at 3 ∷ l) (omega arith) in
              let w1 = without 1 (part_at 2 ∷ part_at 3 ∷ l) (omega arith) in
              let w2 = without 2 (part_at 3 ∷ l) (omega arith) in
              let w3 = without 3 l (omega arith) in
              let w = Alike-without split e l a b o in
              (w0.0 ∙ w1.0 ∙ w2.0 ∙ w3.0 ∙ sym w.0, w0.1 ∙ w1.1 ∙ w2.1 ∙ w3.1 ∙ sym w.1)
          go true o (inl m) = absurd (outer_unfit a b f (lies_in-of_overlap d h a b m (overlap-sym d h a b ∙ o)))
          go true o (inr m) =
              let t = lies_in-of_overlap a b d h (omega arith) o in
              let i = (lies_in-iff_some_child a b d h m).0 t in
              let has = below_four (λ i. Has (children split e ++ l) (part_at i)) (inl refl) (inr (inl refl)) (inr (inr (inl refl))) (inr (inr (inr (inl refl)))) i.0 i.1 in (
                value_of_has split K 0 (n_hash K) (children split e ++ l) a b (part_at i.0) (Rises-open 0 (n_hash K) e l above_deepest p) u has i.2
                    ∙ ap some (part-of_child a b d h i.0 e.value m i.1 i.2) ∙ sym (value_of_has split K 0 (n_hash K) (e ∷ l) a b e p u (inl refl) t),
                fits-of_covers (children split e ++ l) a b (Any-of_has (LiesIn a b) (children split e ++ l) (part_at i.0) has i.2) ∙ sym (fits-of_covers (e ∷ l) a b (inl t)),
              )

      -- A cell with another one strictly inside it may be split.
      pub overlay-open_left : overlay split K (children split e ++ l) (c ∷ r) ≡ overlay split K (e ∷ l) (c ∷ r)
      overlay-open_left = overlay-alike _ _ (c ∷ r) open_alike

      pub overlay-open_right : overlay split K (c ∷ r) (children split e ++ l) ≡ overlay split K (c ∷ r) (e ∷ l)
      overlay-open_right = overlay-swap split _ (c ∷ r) K ∙ ap (map swapped) overlay-open_left ∙ sym (overlay-swap split (e ∷ l) (c ∷ r) K)
