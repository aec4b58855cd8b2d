-- The cells that a rule keeps of an overlay, and the map that merging makes of them: the defined pool and the defined product.
-- Assumes nothing.
use mathlib.Core.Path.{◌≡◌, refl, ap, ◌∙◌}
use mathlib.Core.List.{List, [], ◌∷◌, ◌++◌, map, reverse}
use mathlib.Core.Logic.{◌⊎◌, ⊎_map, ◌↔◌}
use mathlib.Core.Option.{Option, none, some}
use Prim.Native.Nat.{ℕ, suc, ◌+◌, ◌≤◌}
use native.Mathlib.Omega.{arith}
use lib.ListN.{length}
use Rattle.zuniq.specs.Cells.{n_hash}
use Rattle.build.specs.Map.{Entry, itself_or, Merger, defined_map}
use Rattle.build.specs.Stack.{run}
use Rattle.build.specs.Promises.{Covers, end_of, Rises, total, Sums}
use Rattle.build.proofs.Rising.{range_of, Rises-from}
use Rattle.build.proofs.Law.{run-gives_defined_map}
use Rattle.build.proofs.DefinedMap.{defined_map-covers, defined_map-total}
use Rattle.combine.specs.Overlay.{Seen, left, right, both, Split, overlay, swap, swapped}
use Rattle.combine.specs.Rules.{Rule, kept, combined, split_count, pooled_count, pool_rule, defined_pool}
use Rattle.combine.specs.Promises.{amount}
use Rattle.combine.proofs.Overlay.{overlay-rises, overlay-covers}
use Rattle.combine.proofs.Sharing.{split_count-shares}
use Rattle.combine.proofs.Swap.{overlay-swap}
use Rattle.combine.proofs.Walk.{overlay-total}

module _ {A : Type 0} (rule : Rule A) where
  -- ---- kept cells
  -- What is kept of cells that rise rises.
  pub kept-rises : (K a b : ℕ) (o : List (Entry (Seen A))) → Rises K a b o → Rises K a b (kept rule o)
  unfolding kept
  kept-rises K a b [] r = r
  kept-rises K a b (e ∷ o) r = go (rule e) (kept-rises K (end_of K e) b o r.2)
    where
      go : (x : Option A) → Rises K (end_of K e) b (kept rule o) → Rises K a b (itself_or e.depth e.hash x [] ++ kept rule o)
      go none t = Rises-from K a (end_of K e) b (kept rule o) (omega (arith, range_of K e, r.1)) t
      go (some x) t = (r.0, r.1, t)

  -- No more cells are kept than there are.
  pub kept-length : (o : List (Entry (Seen A))) → length (kept rule o) ≤ length o
  unfolding kept
  kept-length [] = omega arith
  kept-length (e ∷ o) = go (rule e) (kept-length o)
    where
      go : (x : Option A) → length (kept rule o) ≤ length o → length (itself_or e.depth e.hash x [] ++ kept rule o) ≤ length (e ∷ o)
      go none t = omega arith
      go (some x) t = omega arith

  -- A rule for which left and right are alike keeps the same of an overlay and of the swapped one.
  pub kept-swapped : ((e : Entry (Seen A)) → rule (swapped e) ≡ rule e) → (o : List (Entry (Seen A))) → kept rule (map swapped o) ≡ kept rule o
  unfolding kept
  kept-swapped alike [] = refl
  kept-swapped alike (e ∷ o) = rw (alike e, kept-swapped alike o)

  module _ (accept : Merger A) (split : Split A) (K : ℕ) (l r : List (Entry A)) where
    -- The cells that are kept of an overlay rise.
    pub kept-overlay_rises : Rises K 0 (n_hash K) (kept rule (overlay split K l r))
    kept-overlay_rises = kept-rises K 0 (n_hash K) (overlay split K l r) (overlay-rises split K l r)

    -- Adding them one by one to the empty map gives the defined pool or product, last entry first.
    pub run-gives_combined : run accept [] (kept rule (overlay split K l r)) ≡ reverse (combined accept split rule K l r)
    unfolding combined
    run-gives_combined = run-gives_defined_map accept K (kept rule (overlay split K l r)) kept-overlay_rises

    -- "Swapped, with all else handed in alike, they give the same": for a rule for which left and right are alike.
    pub combined-swap : ((e : Entry (Seen A)) → rule (swapped e) ≡ rule e) → combined accept split rule K r l ≡ combined accept split rule K l r
    unfolding combined
    combined-swap alike = ap (defined_map accept K) (ap (kept rule) (overlay-swap split l r K) ∙ kept-swapped alike (overlay split K l r))

-- ---- the pool
-- Left and right are alike for the pool.
pub pool_rule-swapped : (e : Entry (Seen ℕ)) → pool_rule (swapped e) ≡ pool_rule e
pool_rule-swapped e = ap some (go e.value)
  where
    go : (s : Seen ℕ) → pooled_count (swap s) ≡ pooled_count s
    go (left m) = refl
    go (right n) = refl
    go (both m n) = omega arith

-- The pool keeps all cells,
pub pool_keeps_length : (o : List (Entry (Seen ℕ))) → length (kept pool_rule o) ≡ length o
unfolding kept
pool_keeps_length [] = refl
pool_keeps_length (e ∷ o) = ap suc (pool_keeps_length o)

-- all that they cover,
pool_keeps_cover : (o : List (Entry (Seen ℕ))) (d h : ℕ) → Covers (kept pool_rule o) d h ↔ Covers o d h
unfolding kept
pool_keeps_cover [] d h = (λ c. c, λ c. c)
pool_keeps_cover (e ∷ o) d h = let r = pool_keeps_cover o d h in (⊎_map (λ t. t) r.0, ⊎_map (λ t. t) r.1)

-- and all counts.
pool_keeps_total : (o : List (Entry (Seen ℕ))) → total (λ n. n) (kept pool_rule o) ≡ total (amount (λ n. n)) o
unfolding kept
pool_keeps_total [] = refl
pool_keeps_total (e ∷ o) = omega (arith, pooled_is_amount e.value, pool_keeps_total o)
  where
    pooled_is_amount : (s : Seen ℕ) → pooled_count s ≡ amount (λ n. n) s
    pooled_is_amount (left m) = refl
    pooled_is_amount (right n) = refl
    pooled_is_amount (both m n) = refl

module _ (K : ℕ) (l r : List (Entry ℕ)) where
  -- The count pool is the same in either order.
  pub pool_swap : (accept : Merger ℕ) → defined_pool accept K r l ≡ defined_pool accept K l r
  pool_swap accept = combined-swap pool_rule accept split_count K l r pool_rule-swapped

  module _ (p : Rises K 0 (n_hash K) l) (q : Rises K 0 (n_hash K) r) where
    -- The pool covers exactly what an entry of at least one map covers.
    pub pool_covers : (accept : Merger ℕ) (k : ℕ) → Covers (defined_pool accept K l r) K k ↔ (Covers l K k ⊎ Covers r K k)
    unfolding combined
    pool_covers accept k =
        let m = defined_map-covers accept K _ (kept-overlay_rises pool_rule accept split_count K l r) K k (omega arith) in
        let o = pool_keeps_cover (overlay split_count K l r) K k in
        let c = overlay-covers split_count K l r p q k in
        (λ t. c.0 (o.0 (m.0 t)), λ t. m.1 (o.1 (c.1 t)))

    -- The cells before merging have the two totals together.
    pub kept-pool_total : total (λ n. n) (kept pool_rule (overlay split_count K l r)) ≡ total (λ n. n) l + total (λ n. n) r
    kept-pool_total = pool_keeps_total (overlay split_count K l r) ∙ overlay-total split_count K (λ n. n) split_count-shares l r p q

    -- So does the pool.
    pub pool_total : (accept : Merger ℕ) → Sums accept (λ n. n) → total (λ n. n) (defined_pool accept K l r) ≡ total (λ n. n) l + total (λ n. n) r
    unfolding combined
    pool_total accept sums = defined_map-total accept K _ (kept-overlay_rises pool_rule accept split_count K l r) (λ n. n) sums ∙ kept-pool_total
