-- The overlay is the same over any depth that no entry exceeds. Assumes nothing.
use mathlib.Core.Path.{◌≡◌, refl, ap, sym, ◌∙◌}
use mathlib.Core.Bool.{true, ◌&&◌, cond}
use mathlib.Core.List.{List, [], ◌∷◌}
use mathlib.Core.Logic.{inl, inr, ⊎_elim}
use Prim.Native.Nat.{ℕ, zero, suc, ◌+◌, ◌*◌, ◌-◌, ◌≤◌}
use native.Mathlib.Omega.{arith}
use Rattle.build.specs.Map.{Entry, itself_or}
use Rattle.build.specs.Promises.{Has, Covers}
use Rattle.build.proofs.Entries.{joined-ext}
use Rattle.combine.specs.Overlay.{Seen, Split, fits, seen_at, overlay_in, overlay}
use Rattle.combine.proofs.Fits.{lies_in-of_overlap, Touches, fits-of_touches}

-- no entry is deeper than D
abbrev pub Shallow : {A : Type 0} → ℕ → List (Entry A) → Type 0
Shallow {A} D l = (e : Entry A) → Has l e → e.depth ≤ D

module _ {A : Type 0} where
  Touches-covers : (l : List (Entry A)) (d h : ℕ) → Shallow d l → Touches l d h → Covers l d h
  Touches-covers [] d h low t = t
  Touches-covers (e ∷ l) d h low t = ⊎_elim (λ o. inl (lies_in-of_overlap d h e.depth e.hash (low e (inl refl)) o)) (λ m. inr (Touches-covers l d h (λ c k. low c (inr k)) m)) t

  -- A cell that no entry is deeper than fits.
  pub fits-deepest : (l : List (Entry A)) (d h : ℕ) → Shallow d l → fits l d h ≡ true
  fits-deepest l d h low = fits-of_touches l d h (Touches-covers l d h low)

  module _ (split : Split A) (l r : List (Entry A)) (D : ℕ) (low : Shallow D l) (lower : Shallow D r) where
    -- At depth D no cell is opened, however many depths there are below it.
    in_deepest : (n d h : ℕ) → d ≡ D → overlay_in split l r n d h ≡ itself_or d h (seen_at split l r d h) []
    unfolding overlay_in
    in_deepest zero d h q = rw (fits-deepest l d h (λ e m. omega (arith, low e m)), fits-deepest r d h (λ e m. omega (arith, lower e m)))
    in_deepest (suc n) d h q = rw (fits-deepest l d h (λ e m. omega (arith, low e m)), fits-deepest r d h (λ e m. omega (arith, lower e m)))

    in_deeper : (n j d h : ℕ) → d + n ≡ D → overlay_in split l r (n + j) d h ≡ overlay_in split l r n d h
    unfolding overlay_in
    in_deeper zero j d h q = in_deepest (0 + j) d h (omega arith) ∙ sym (in_deepest 0 d h (omega arith))
    in_deeper (suc n) j d h q =
        ap (λ (k : ℕ). overlay_in split l r k d h) (suc-plus n j)
        ∙ ap (λ (o : List (Entry (Seen A))). cond (fits l d h && fits r d h) (itself_or d h (seen_at split l r d h) []) o) (joined-ext 4 _ _ (λ i. in_deeper n j (suc d) (4 * h + i) (omega arith)))
      where
        suc-plus : (n j : ℕ) → suc n + j ≡ suc (n + j)
        suc-plus n j = omega arith

    pub overlay-deeper : (K : ℕ) → D ≤ K → overlay split K l r ≡ overlay split D l r
    unfolding overlay
    overlay-deeper K u = joined-ext 12 _ _ (λ h. ap (λ (k : ℕ). overlay_in split l r k 0 h) (split_up u) ∙ in_deeper D (K - D) 0 h (omega arith))
      where
        split_up : D ≤ K → K ≡ D + (K - D)
        split_up v = omega arith
