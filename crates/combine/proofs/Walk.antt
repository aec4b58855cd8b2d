-- The walk of two maps by their heads gives their overlay. What a turn does to the overlay stands first, by what the turn finds at
-- the heads; then that each turn lightens what is left, and how many cells wait. Assumes nothing.
use mathlib.Core.Path.{◌≡◌, refl, sym, ◌∙◌}
use mathlib.Core.Bool.{true}
use mathlib.Core.List.{List, [], ◌∷◌, ◌++◌}
use mathlib.Core.Logic.{inl, ⊎_elim}
use mathlib.Core.Option.{none, some}
use Prim.Native.Nat.{ℕ, zero, suc, ◌+◌, ◌*◌, ◌-◌, ◌^◌, ◌≤◌, ◌<◌}
use native.Mathlib.Omega.{arith}
use native.Mathlib.Nat.{eq-or-lt_of_le, one-le-pow, pow-suc}
use lib.ListN.{length}
use Rattle.zuniq.specs.Cells.{n_hash, overlap}
use Rattle.zuniq.proofs.Basics.{le_or_lt}
use Rattle.zuniq.proofs.Ranges.{valid_iff_end_le, overlap-sym, overlap-iff_meets, lies_in-same_depth}
use Rattle.build.specs.Map.{Entry, entry}
use Rattle.build.specs.Promises.{start_of, end_of, Rises, total}
use Rattle.build.proofs.Entries.{entry-is}
use Rattle.build.proofs.Rising.{Rises-le, Rises-from}
use Rattle.combine.specs.Overlay.{Seen, left, right, both, Split, overlay}
use Rattle.combine.specs.Promises.{amount, Shares}
use Rattle.combine.specs.Walk.{Before, Inner, Piled, weight, children, Walk, stop, give_left, give_right, give_both, open_left, open_right}
use Rattle.combine.proofs.Fits.{lies_in-of_overlap}
use Rattle.combine.proofs.Overlay.{overlay-has_iff}
use Rattle.combine.proofs.Turns.{overlay-gives, Rises-open, overlay-open_left, overlay-open_right}

module _ {A : Type 0} (split : Split A) (K : ℕ) where
  -- ---- turns that give a cell
  -- Two empty maps have an empty overlay.
  pub overlay-nil : overlay split K [] [] ≡ []
  overlay-nil = go (overlay split K [] []) refl
    where
      go : (o : List (Entry (Seen A))) → overlay split K [] [] ≡ o → o ≡ []
      go [] q = refl
      go (e ∷ o) q = absurd (⊎_elim absurd absurd ((overlay-has_iff split K [] [] e).0 (rw q (inl refl))).qualifies.0)

  Rises-behind : (e : Entry A) (l : List (Entry A)) → end_of K e ≤ n_hash K → Before K e l → Rises K 0 (n_hash K) l → Rises K (end_of K e) (n_hash K) l
  Rises-behind e [] u b r = u
  Rises-behind e (c ∷ l) u b r = (r.0, b, r.2)

  sky_of_first : (e : Entry A) (l : List (Entry A)) → Rises K 0 (n_hash K) (e ∷ l) → e.hash < n_hash e.depth
  sky_of_first e l p = (valid_iff_end_le K e.depth e.hash p.0).1 (Rises-le K _ _ l p.2)

  module _ (e : Entry A) (l r : List (Entry A)) (p : Rises K 0 (n_hash K) (e ∷ l)) (q : Rises K 0 (n_hash K) r) (b : Before K e r) where
    -- A left cell before all of the right is seen as left only.
    pub overlay-give_left : overlay split K (e ∷ l) r ≡ entry e.depth e.hash (left e.value) ∷ overlay split K l r
    overlay-give_left =
        overlay-gives split K e.depth e.hash (some e.value) none (left e.value) l r p.0 (sky_of_first e l p) refl p.2 (Rises-behind e r (Rises-le K _ _ l p.2) b q)

    -- A right cell before all of the left is seen as right only.
    pub overlay-give_right : overlay split K r (e ∷ l) ≡ entry e.depth e.hash (right e.value) ∷ overlay split K r l
    overlay-give_right =
        overlay-gives split K e.depth e.hash none (some e.value) (right e.value) r l p.0 (sky_of_first e l p) refl (Rises-behind e r (Rises-le K _ _ l p.2) b q) p.2

  -- The same cell at both heads is seen as both.
  pub overlay-give_both : (d h : ℕ) (x y : A) (l r : List (Entry A)) → Rises K 0 (n_hash K) (entry d h x ∷ l) → Rises K 0 (n_hash K) (entry d h y ∷ r)
      → overlay split K (entry d h x ∷ l) (entry d h y ∷ r) ≡ entry d h (both x y) ∷ overlay split K l r
  overlay-give_both d h x y l r p q = overlay-gives split K d h (some x) (some y) (both x y) l r p.0 (sky_of_first (entry d h x) l p) refl p.2 q.2

  -- ---- the walk
  Rises-rest : (e : Entry A) (l : List (Entry A)) → Rises K 0 (n_hash K) (e ∷ l) → Rises K 0 (n_hash K) l
  Rises-rest e l p = Rises-from K 0 (end_of K e) (n_hash K) l (omega arith) p.2

  -- What the walk gives is the overlay.
  pub Walk-is_overlay : {l r : List (Entry A)} {w : List (Entry (Seen A))} → Walk split K l r w → Rises K 0 (n_hash K) l → Rises K 0 (n_hash K) r → w ≡ overlay split K l r
  Walk-is_overlay stop p q = sym overlay-nil
  Walk-is_overlay (give_left {e = e} {l = l} {r = r} b k) p q = rw (overlay-give_left e l r p q b, Walk-is_overlay k (Rises-rest e l p) q)
  Walk-is_overlay (give_right {e = e} {l = l} {r = r} b k) p q = rw (overlay-give_right e r l q p b, Walk-is_overlay k p (Rises-rest e r q))
  Walk-is_overlay (give_both {d = d} {h = h} {x = x} {y = y} {l = l} {r = r} k) p q =
      rw (overlay-give_both d h x y l r p q, Walk-is_overlay k (Rises-rest (entry d h x) l p) (Rises-rest (entry d h y) r q))
  Walk-is_overlay (open_left {e = e} {c = c} {l = l} {r = r} i k) p q =
      Walk-is_overlay k (Rises-open split K 0 (n_hash K) e l (omega (arith, i.0, q.0)) p) q ∙ overlay-open_left split K e c l r p q i
  Walk-is_overlay (open_right {e = e} {c = c} {l = l} {r = r} i k) p q =
      Walk-is_overlay k p (Rises-open split K 0 (n_hash K) e r (omega (arith, i.0, p.0)) q) ∙ overlay-open_right split K e c r l q p i

  -- ---- the measure
  -- A cell is not without weight.
  weight_pos : (d : ℕ) → 0 < 8 ^ (K - d)
  weight_pos d = one-le-pow (K - d) 8 (omega arith)

  -- A cell outweighs its four children.
  pub weight-open : (e : Entry A) (l : List (Entry A)) → e.depth < K → weight K (children split e ++ l) < weight K (e ∷ l)
  weight-open e l u =
      let z : K - e.depth ≡ suc (K - suc e.depth) = omega arith in
      let s = weight_pos (suc e.depth) in
      rw (z, pow-suc 8 (K - suc e.depth)) (omega arith)

  -- Two cells are apart, the same, or one lies strictly inside the other.
  data Heads (e c : Entry A) : Type 0 where
    before : end_of K e ≤ start_of K c → Heads e c
    after : end_of K c ≤ start_of K e → Heads e c
    same : e.depth ≡ c.depth → e.hash ≡ c.hash → Heads e c
    inside : Inner c e → Heads e c
    around : Inner e c → Heads e c

  heads : (e c : Entry A) → e.depth ≤ K → c.depth ≤ K → Heads e c
  heads e c u v = ⊎_elim before (λ m. ⊎_elim after (λ n. meet ((overlap-iff_meets K _ _ _ _ u v).1 (n, m))) (le_or_lt (end_of K c) (start_of K e))) (le_or_lt (end_of K e) (start_of K c))
    where
      meet : overlap e.depth e.hash c.depth c.hash ≡ true → Heads e c
      meet o = ⊎_elim
          (λ m.
          let t = lies_in-of_overlap e.depth e.hash c.depth c.hash m o in
          ⊎_elim (λ z. same (sym z) (lies_in-same_depth e.depth e.hash c.hash (rw z at t))) (λ n. around (n, t)) (eq-or-lt_of_le m))
          (λ m. inside (m, lies_in-of_overlap c.depth c.hash e.depth e.hash (omega arith) (overlap-sym _ _ _ _ ∙ o)))
          (le_or_lt c.depth e.depth)

  -- Two maps have a walk.
  walk_of_lists : (n : ℕ) (l r : List (Entry A)) → weight K l + weight K r ≤ n → Rises K 0 (n_hash K) l → Rises K 0 (n_hash K) r → Walk split K l r (overlay split K l r)
  walk_of_lists zero [] [] u p q = rw overlay-nil stop
  walk_of_lists zero [] (c ∷ r) u p q = absurd (omega (arith, weight_pos c.depth))
  walk_of_lists zero (e ∷ l) r u p q = absurd (omega (arith, weight_pos e.depth))
  walk_of_lists (suc n) [] [] u p q = rw overlay-nil stop
  walk_of_lists (suc n) [] (c ∷ r) u p q = rw (overlay-give_right c r [] q p tt) (give_right tt (walk_of_lists n [] r (omega (arith, weight_pos c.depth)) p (Rises-rest c r q)))
  walk_of_lists (suc n) (e ∷ l) [] u p q = rw (overlay-give_left e l [] p q tt) (give_left tt (walk_of_lists n l [] (omega (arith, weight_pos e.depth)) (Rises-rest e l p) q))
  walk_of_lists (suc n) (e ∷ l) (c ∷ r) u p q = go (heads e c p.0 q.0) (walk_of_lists n)
    where
      go : Heads e c → ((l r : List (Entry A)) → weight K l + weight K r ≤ n → Rises K 0 (n_hash K) l → Rises K 0 (n_hash K) r → Walk split K l r (overlay split K l r))
          → Walk split K (e ∷ l) (c ∷ r) (overlay split K (e ∷ l) (c ∷ r))
      go (before b) more = rw (overlay-give_left e l (c ∷ r) p q b) (give_left b (more l (c ∷ r) (omega (arith, weight_pos e.depth)) (Rises-rest e l p) q))
      go (after b) more = rw (overlay-give_right c r (e ∷ l) q p b) (give_right b (more (e ∷ l) r (omega (arith, weight_pos c.depth)) p (Rises-rest c r q)))
      go (same f g) more =
          let z : c ≡ entry e.depth e.hash c.value = entry-is c _ _ _ (sym f) (sym g) refl in
          let s = weight_pos e.depth in
          rw (z, overlay-give_both _ _ e.value c.value l r p (rw z at q)) (give_both (more l r (omega arith) (Rises-rest e l p) (Rises-rest c r q)))
      go (inside i) more =
          let v : e.depth < K = omega (arith, i.0, q.0) in
          rw (← (overlay-open_left split K e c l r p q i)) (open_left i (more (children split e ++ l) (c ∷ r) (omega (arith, weight-open e l v)) (Rises-open split K 0 (n_hash K) e l v p) q))
      go (around i) more =
          let v : c.depth < K = omega (arith, i.0, p.0) in
          rw (← (overlay-open_right split K c e r l q p i)) (open_right i (more (e ∷ l) (children split c ++ r) (omega (arith, weight-open c r v)) p (Rises-open split K 0 (n_hash K) c r v q)))

  -- The walk of two maps gives their overlay: there is one, and it gives nothing else.
  pub overlay-is_walked : (l r : List (Entry A)) → Rises K 0 (n_hash K) l → Rises K 0 (n_hash K) r → Walk split K l r (overlay split K l r)
  overlay-is_walked l r p q = walk_of_lists (weight K l + weight K r) l r (omega arith) p q

  -- ---- pending cells
  -- Splitting the head leaves room for three cells more.
  pub Piled-room : (e : Entry A) (p : List (Entry A)) → e.depth < K → Piled (e ∷ p) → length p + 3 ≤ 3 * K
  Piled-room e p u t = omega (arith, t.0)

  -- So "an array of 87 pending ones for each side" is enough: 3 × 29.
  pub Piled-length : (e : Entry A) (p : List (Entry A)) → e.depth ≤ K → Piled (e ∷ p) → length p ≤ 3 * K
  Piled-length e p u t = omega (arith, t.0)

  pub Piled-open : (e : Entry A) (p : List (Entry A)) → Piled (e ∷ p) → Piled (children split e ++ p)
  Piled-open e p t = (omega (arith, t.0), (omega (arith, t.0), (omega (arith, t.0), (omega (arith, t.0), t.1))))

  -- ---- figures
  module _ (figure : A → ℕ) (shares : Shares split figure) where
    -- The children of a cell have its figure, in total.
    children-total : (e : Entry A) (l : List (Entry A)) → total figure (children split e ++ l) ≡ total figure (e ∷ l)
    children-total e l = omega (arith, shares e.depth e.hash e.value)

    -- The walk loses nothing of a figure that splitting shares out.
    Walk-total : {l r : List (Entry A)} {w : List (Entry (Seen A))} → Walk split K l r w → total (amount figure) w ≡ total figure l + total figure r
    Walk-total stop = refl
    Walk-total (give_left b k) = omega (arith, Walk-total k)
    Walk-total (give_right b k) = omega (arith, Walk-total k)
    Walk-total (give_both k) = omega (arith, Walk-total k)
    Walk-total (open_left {e = e} {l = l} i k) = omega (arith, Walk-total k, children-total e l)
    Walk-total (open_right {e = e} {r = r} i k) = omega (arith, Walk-total k, children-total e r)

    -- Nor does the overlay: it has what the two maps have together.
    pub overlay-total : (l r : List (Entry A)) → Rises K 0 (n_hash K) l → Rises K 0 (n_hash K) r → total (amount figure) (overlay split K l r) ≡ total figure l + total figure r
    overlay-total l r p q = Walk-total (overlay-is_walked l r p q)
