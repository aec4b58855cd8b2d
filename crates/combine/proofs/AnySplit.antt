-- Which cells the overlay has does not depend on how values are split; the values do, and only on how those cells are that are split. Assumes nothing.
use mathlib.Core.Path.{◌≡◌, refl, ap, sym, ◌∙◌}
use mathlib.Core.Bool.{Bool, true, false, ◌&&◌, cond}
use mathlib.Core.List.{List, [], ◌∷◌, map}
use mathlib.Core.Logic.{◌⊎◌, inl, inr}
use mathlib.Core.Option.{Option, none, some}
use Prim.Native.Nat.{ℕ, zero, suc, ◌+◌, ◌*◌, ◌/◌, ◌%◌, ◌-◌, ◌<◌}
use native.Mathlib.Omega.{arith}
use lib.ListN.{length, length-map}
use Rattle.zuniq.specs.Cells.{lies_in}
use Rattle.zuniq.proofs.Ranges.{lies_in-through, lies_in-parent_iff}
use Rattle.build.specs.Map.{Entry, entry, itself_or, joined}
use Rattle.build.specs.Promises.{LiesIn, Covers}
use Rattle.build.proofs.Entries.{joined-below, joined-ext}
use Rattle.combine.specs.Overlay.{Seen, left, right, both, seen_by, fits, Split, part, value_in, seen_at, overlay_in, overlay}
use Rattle.combine.specs.Promises.{IsSplit}
use Rattle.combine.proofs.Swap.{map-joined}

module _ {A : Type 0} where
  -- that there is a value, and not which
  abbrev there : Option A → Option (Unit {0})
  there none = none
  there (some x) = some tt

  -- the maps that an overlay cell lies in
  abbrev sides : Seen A → Seen (Unit {0})
  sides (left x) = left tt
  sides (right y) = right tt
  sides (both x y) = both tt tt

  -- an overlay cell without its values
  abbrev pub cell_seen : Entry (Seen A) → Entry (Seen (Unit {0}))
  cell_seen e = entry e.depth e.hash (sides e.value)

  module _ (s t : Split A) where
    value_there : (l : List (Entry A)) (d h : ℕ) → there (value_in s l d h) ≡ there (value_in t l d h)
    unfolding value_in
    value_there [] d h = refl
    value_there (e ∷ l) d h = go (lies_in d h e.depth e.hash) (part s (d - e.depth) d h e.value) (part t (d - e.depth) d h e.value) (value_in s l d h) (value_in t l d h) (value_there l d h)
      where
        go : (b : Bool) (x y : A) (p q : Option A) → there p ≡ there q → there (cond b (some x) p) ≡ there (cond b (some y) q)
        go true x y p q k = refl
        go false x y p q k = k

    module _ (l r : List (Entry A)) where
      cells_here : (d h : ℕ) (o p : List (Entry (Seen A))) → map cell_seen o ≡ map cell_seen p
          → map cell_seen (cond (fits l d h && fits r d h) (itself_or d h (seen_at s l r d h) []) o) ≡ map cell_seen (cond (fits l d h && fits r d h) (itself_or d h (seen_at t l r d h) []) p)
      cells_here d h o p q = go (fits l d h && fits r d h) (value_in s l d h) (value_in s r d h) (value_in t l d h) (value_in t r d h) (value_there l d h) (value_there r d h)
        where
          bare : (x y : Option A) → map cell_seen (itself_or d h (seen_by x y) []) ≡ itself_or d h (seen_by (there x) (there y)) []
          bare none none = refl
          bare (some x) none = refl
          bare none (some y) = refl
          bare (some x) (some y) = refl

          go : (f : Bool) (x y v w : Option A) → there x ≡ there v → there y ≡ there w
              → map cell_seen (cond f (itself_or d h (seen_by x y) []) o) ≡ map cell_seen (cond f (itself_or d h (seen_by v w) []) p)
          go false x y v w j k = q
          go true x y v w j k = rw (bare x y, bare v w, j, k) refl

      cells_in : (n d h : ℕ) → map cell_seen (overlay_in s l r n d h) ≡ map cell_seen (overlay_in t l r n d h)
      unfolding overlay_in
      cells_in zero d h = cells_here d h [] [] refl
      cells_in (suc n) d h =
          cells_here d h _ _ (map-joined cell_seen 4 (λ i. overlay_in s l r n (suc d) (4 * h + i)) ∙ joined-ext 4 _ _ (λ i. cells_in n (suc d) (4 * h + i)) ∙ sym (map-joined cell_seen 4 (λ i. overlay_in t l r n (suc d) (4 * h + i))))

      -- The overlay has the same cells, each in the same maps,
      pub overlay-cells : (K : ℕ) → map cell_seen (overlay s K l r) ≡ map cell_seen (overlay t K l r)
      unfolding overlay
      overlay-cells K = map-joined cell_seen 12 (λ h. overlay_in s l r K 0 h) ∙ joined-ext 12 _ _ (λ h. cells_in K 0 h) ∙ sym (map-joined cell_seen 12 (λ h. overlay_in t l r K 0 h))

      -- and so as many.
      pub overlay-number : (K : ℕ) → length (overlay s K l r) ≡ length (overlay t K l r)
      overlay-number K = sym (length-map (overlay s K l r) cell_seen) ∙ ap length (overlay-cells K) ∙ length-map (overlay t K l r) cell_seen

      -- ---- two ways to split that are alike wherever a cell is split
      module _ (alike : (d h : ℕ) → IsSplit l r d h → (v : A) (i : ℕ) → i < 4 → s d h v i ≡ t d h v i) where
        -- no cell above (d, h) fits both maps
        abbrev Reached : ℕ → ℕ → Type 0
        Reached zero h = Unit {0}
        Reached (suc d) h = ((fits l d (h / 4) && fits r d (h / 4)) ≡ false) × Reached d (h / 4)

        part-alike : (e : Entry A) → ((d h : ℕ) → LiesIn d h e → Covers l d h ⊎ Covers r d h) → (n d h : ℕ) → n ≡ d - e.depth → LiesIn d h e → Reached d h
            → part s n d h e.value ≡ part t n d h e.value
        unfolding part
        part-alike e covers zero d h q u m = refl
        part-alike e covers (suc n) zero h q u m = absurd (omega arith)
        part-alike e covers (suc n) (suc d) h q u m =
            let above : LiesIn d (h / 4) e = sym (lies_in-through (suc d) h d (h / 4) e.depth e.hash ((lies_in-parent_iff d h (h / 4)).1 refl) (omega arith)) ∙ u in
            let one : suc d - 1 ≡ d = omega arith in
            rw one (alike d (h / 4) (covers d (h / 4) above, m.0) (part s n d (h / 4) e.value) (h % 4) (omega arith) ∙ ap (λ (v : A). t d (h / 4) v (h % 4)) (part-alike e covers n d (h / 4) (omega arith) above m.1))

        value_alike : (m : List (Entry A)) → ((d h : ℕ) → Covers m d h → Covers l d h ⊎ Covers r d h) → (d h : ℕ) → Reached d h → value_in s m d h ≡ value_in t m d h
        unfolding value_in
        value_alike [] covers d h u = refl
        value_alike (e ∷ m) covers d h u = go (lies_in d h e.depth e.hash) refl (value_alike m (λ a b k. covers a b (inr k)) d h u)
          where
            go : (b : Bool) → lies_in d h e.depth e.hash ≡ b → value_in s m d h ≡ value_in t m d h → cond b (some (part s (d - e.depth) d h e.value)) (value_in s m d h) ≡ cond b (some (part t (d - e.depth) d h e.value)) (value_in t m d h)
            go true q k = ap some (part-alike e (λ a b k. covers a b (inl k)) (d - e.depth) d h refl q u)
            go false q k = k

        seen_alike : (d h : ℕ) → Reached d h → seen_at s l r d h ≡ seen_at t l r d h
        seen_alike d h u = rw (value_alike l (λ a b k. inl k) d h u, value_alike r (λ a b k. inr k) d h u) refl

        in_alike : (n d h : ℕ) → Reached d h → overlay_in s l r n d h ≡ overlay_in t l r n d h
        unfolding overlay_in
        in_alike zero d h u = ap (λ (x : Option (Seen A)). cond (fits l d h && fits r d h) (itself_or d h x []) []) (seen_alike d h u)
        in_alike (suc n) d h u = go (fits l d h && fits r d h) refl (in_alike n (suc d))
          where
            go : (f : Bool) → (fits l d h && fits r d h) ≡ f → ((k : ℕ) → Reached (suc d) k → overlay_in s l r n (suc d) k ≡ overlay_in t l r n (suc d) k)
                → cond f (itself_or d h (seen_at s l r d h) []) (joined 4 (λ i. overlay_in s l r n (suc d) (4 * h + i))) ≡ cond f (itself_or d h (seen_at t l r d h) []) (joined 4 (λ i. overlay_in t l r n (suc d) (4 * h + i)))
            go true q below = ap (λ (x : Option (Seen A)). itself_or d h x []) (seen_alike d h u)
            go false q below = joined-below 4 _ _ (λ i k. let p : (4 * h + i) / 4 ≡ h = omega arith in below (4 * h + i) (rw p (q, u)))

        -- They have the same overlay, values and all.
        pub overlay-alike : (K : ℕ) → overlay s K l r ≡ overlay t K l r
        unfolding overlay
        overlay-alike K = joined-ext 12 _ _ (λ h. in_alike K 0 h tt)
