-- What the requests of document 02 left as it was: laws against the former definitions (specs/Former). Assumes nothing.
use mathlib.Core.Path.{◌≡◌, refl, ap, sym, ◌∙◌}
use mathlib.Core.Bool.{true, cond}
use mathlib.Core.List.{List, []}
use mathlib.Core.Option.{Option, none}
use Prim.Native.Nat.{ℕ, ◌+◌, ◌/◌, ◌%◌, ◌≤◌, ◌<◌}
use native.Mathlib.Omega.{arith}
use lib.Dec.{ltb}
use lib.Ieee.{Float, lt}
use lib.ListN.{length}
use borrow.Author.Tests.{ne_eqb, le-ltb}
use Rattle.refusal.specs.declared.Refusal.{Refusal}
use Rattle.refusal.specs.Checks.{or_else}
use Rattle.merger.specs.Floats.{0·0}
use Rattle.merger.specs.Merge.{accept_counts, accept_by_chi}
use Rattle.merger.proofs.Blank.{accepts_as_before}
use Rattle.build.specs.Map.{Entry, defined_map}
use Rattle.build.specs.Calls.{Buffers, Batch, Answer, Calls, add_call}
use Rattle.build.specs.Counts.{count_calls}
use Rattle.combine.specs.Overlay.{overlay}
use Rattle.combine.specs.Rules.{combined, split_count, defined_pool}
use Rattle.combine.specs.Promises.{IsSplit}
use Rattle.combine.specs.Pool.{Given, entries, result_depth, places_refusal, pool_input_refusal, pool_refusal, pool_over, pool_counts}
use Rattle.combine.proofs.Sharing.{split_count-by_turn}
use Rattle.combine.proofs.AnySplit.{overlay-number, overlay-alike}
use Rattle.combine.proofs.Kept.{pool_keeps_length}
use Rattle.claims.specs.Former.{former_row1, with_former_row1, with_merger, former_split_count, pool_refusal_with, pool_over_with, pool_counts_with}

-- ---- note 1
former_row_passes : (D : ℕ) → 0 < D → D ≤ 29 → former_row1 D ≡ none
former_row_passes D p q = rw (ne_eqb D 0 (λ e. omega arith), le-ltb 29 D q) refl

module _ {A X : Type 0} (g : Calls A Refusal X) (b : Buffers A) (c : Batch A) where
  -- "Every answer given at depths 1 to 29 is as before": the answer and both buffers, of every add call.
  pub depths_1_to_29_as_before : 0 < g.D → g.D ≤ 29 → add_call g b c ≡ add_call (with_former_row1 g) b c
  unfolding add_call
  depths_1_to_29_as_before p q = rw (former_row_passes g.D p q) refl

  -- At depth 0 that row refused every call.
  pub depth_0_was_refused : g.D ≡ 0 → add_call (with_former_row1 g) b c ≡ (b, Answer.refused Refusal.DepthOutOfRange)
  unfolding add_call
  depth_0_was_refused q = rw q refl

-- ---- note 4, where nothing is protected (note 7)
module _ (M : ℕ) (T : Float) (t : lt 0·0 T ≡ true) where
  -- Wherever T is above 0 every call that adds counts answers and leaves what it did before blank sky was merged at any T,
  pub adding_above_0_as_before : (K D : ℕ) (b : Buffers ℕ) (c : Batch ℕ) → add_call (count_calls K [] D M T) b c ≡ add_call (with_merger (accept_by_chi M T) (count_calls K [] D M T)) b c
  adding_above_0_as_before K D b c = ap (λ (accept : ℕ → ℕ → ℕ → ℕ → ℕ → ℕ → Option ℕ). add_call (with_merger accept (count_calls K [] D M T)) b c) (accepts_as_before K M T t)

  -- every defined map is as it was, and so is every defined pool.
  pub map_above_0_as_before : (D : ℕ) (l : List (Entry ℕ)) → defined_map (accept_counts 29 [] M T) D l ≡ defined_map (accept_by_chi M T) D l
  map_above_0_as_before D l = ap (λ (accept : ℕ → ℕ → ℕ → ℕ → ℕ → ℕ → Option ℕ). defined_map accept D l) (accepts_as_before 29 M T t)

  pub pool_above_0_as_before : (D : ℕ) (l r : List (Entry ℕ)) → defined_pool (accept_counts 29 [] M T) D l r ≡ defined_pool (accept_by_chi M T) D l r
  pool_above_0_as_before D l r = ap (λ (accept : ℕ → ℕ → ℕ → ℕ → ℕ → ℕ → Option ℕ). defined_pool accept D l r) (accepts_as_before 29 M T t)

-- ---- note 10
-- Where h mod 4 is 0 the parts are the former ones.
pub split_as_before : (d h v i : ℕ) → h % 4 ≡ 0 → i < 4 → split_count d h v i ≡ former_split_count d h v i
unfolding former_split_count
split_as_before d h v i z u = split_count-by_turn d h v i u ∙ ap (λ (k : ℕ). v / 4 + cond (ltb k (v % 4)) 1 0) (omega arith)

-- An overlay has as many cells as before,
pub cells_as_before : (l r : Given ℕ) → length (overlay split_count (result_depth l r) (entries l) (entries r)) ≡ length (overlay former_split_count (result_depth l r) (entries l) (entries r))
cells_as_before l r = overlay-number split_count former_split_count (entries l) (entries r) (result_depth l r)

module _ (P : List ℕ) (l r : Given ℕ) (M : ℕ) (T : Float) where
  -- so that every pool is refused when, and as, it was.
  pub pool_refused_as_before : (places values : ℕ) → pool_refusal P l r M T places values ≡ pool_refusal_with former_split_count P l r M T places values
  unfolding pool_refusal pool_refusal_with
  pool_refused_as_before places values =
      ap (λ (n : ℕ). or_else (pool_input_refusal P l r M T places values) (places_refusal places n))
      (pool_keeps_length (overlay split_count (result_depth l r) (entries l) (entries r)) ∙ cells_as_before l r ∙ sym (pool_keeps_length (overlay former_split_count (result_depth l r) (entries l) (entries r))))

  -- "unchanged, since the only h split is 0": a pool in which no cell is split whose h mod 4 is not 0 answers and leaves what it did.
  pub pool_as_before : ((d h : ℕ) → IsSplit (entries l) (entries r) d h → h % 4 ≡ 0) → (zs vs : List ℕ) → pool_counts P l r M T zs vs ≡ pool_counts_with former_split_count P l r M T zs vs
  unfolding pool_counts pool_over pool_refusal pool_counts_with pool_over_with pool_refusal_with combined
  pool_as_before only zs vs =
      rw (overlay-alike split_count former_split_count (entries l) (entries r) (λ d h s v i u. split_as_before d h v i (only d h s) u) (result_depth l r)) refl
