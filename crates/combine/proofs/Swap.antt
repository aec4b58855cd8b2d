-- The overlay with left and right swapped is the overlay of the maps swapped. Assumes nothing.
use mathlib.Core.Path.{◌≡◌, refl, ap, sym, ◌∙◌}
use mathlib.Core.Bool.{Bool, true, false, ◌&&◌, cond, and_comm}
use mathlib.Core.List.{List, [], ◌++◌, map, map-append}
use mathlib.Core.Option.{Option, none, some}
use Prim.Native.Nat.{ℕ, zero, suc, ◌+◌, ◌*◌}
use Rattle.build.specs.Map.{Entry, itself_or, joined}
use Rattle.build.proofs.Entries.{joined-ext}
use Rattle.combine.specs.Overlay.{Seen, seen_by, fits, Split, value_in, seen_at, overlay_in, overlay, swapped}

-- What is done to each member is done to each list.
pub map-joined : {B C : Type 0} (f : B → C) (n : ℕ) (g : ℕ → List B) → map f (joined n g) ≡ joined n (λ i. map f (g i))
unfolding joined
map-joined f zero g = refl
map-joined f (suc n) g = map-append f (joined n g) (g n) ∙ ap (λ x. x ++ map f (g n)) (map-joined f n g)

module _ {A : Type 0} (split : Split A) (l r : List (Entry A)) where
  swap_here : (d h : ℕ) (o p : List (Entry (Seen A))) → o ≡ map swapped p
      → cond (fits r d h && fits l d h) (itself_or d h (seen_at split r l d h) []) o ≡ map swapped (cond (fits l d h && fits r d h) (itself_or d h (seen_at split l r d h) []) p)
  swap_here d h o p q = rw (and_comm (fits r d h) (fits l d h)) (go (fits l d h && fits r d h) (value_in split l d h) (value_in split r d h))
    where
      go : (f : Bool) (x y : Option A) → cond f (itself_or d h (seen_by y x) []) o ≡ map swapped (cond f (itself_or d h (seen_by x y) []) p)
      go false x y = q
      go true none none = refl
      go true (some x) none = refl
      go true none (some y) = refl
      go true (some x) (some y) = refl

  swap_in : (n d h : ℕ) → overlay_in split r l n d h ≡ map swapped (overlay_in split l r n d h)
  unfolding overlay_in
  swap_in zero d h = swap_here d h [] [] refl
  swap_in (suc n) d h = swap_here d h _ _ (joined-ext 4 _ _ (λ i. swap_in n (suc d) (4 * h + i)) ∙ sym (map-joined swapped 4 (λ i. overlay_in split l r n (suc d) (4 * h + i))))

  -- Swapped maps have the same overlay, with left and right swapped.
  pub overlay-swap : (K : ℕ) → overlay split K r l ≡ map swapped (overlay split K l r)
  unfolding overlay
  overlay-swap K = joined-ext 12 _ _ (λ h. swap_in K 0 h) ∙ sym (map-joined swapped 12 (λ h. overlay_in split l r K 0 h))
