-- Note 7 of 02: "An empty list changes nothing." A law for every call that takes a list, against the former definitions (specs/Unlisted).
-- Assumes nothing.
use Rattle.std.specs.Prelude as Prelude
use Rattle.std.specs.Prelude.{None, Some, Result, Ok, Err}
use mathlib.Core.Path.{◌≡◌, refl, ap, fun_ext}
use mathlib.Core.Bool.{Bool, true, false, cond}
use mathlib.Core.List.{List, [], reverse}
use mathlib.Core.Option.{Option, none, some}
use Prim.Native.Nat.{ℕ, ◌+◌, ◌<◌}
use lib.Dec.{ltb}
use lib.Ieee.{Float, is_nan}
use lib.ListN.{length, take}
use borrow.Author.Tests.{lt-leb}
use Rattle.refusal.specs.Checks.{or_else, refused_if, ok_unless}
use Rattle.refusal.specs.declared.Refusal.{Refusal}
use Rattle.zuniq.specs.Cells.{n_hash}
use Rattle.protection.proofs.Listed.{nothing_protected}
use Rattle.protection.proofs.Lists.{empty_list_accepted}
use Rattle.merger.specs.Merge.{merge_by_chi, merge_counts, merged, accept_counts, quad_refusal, count_merger, unit_density, merge_densities_by_chi, merge_densities_with, merge_densities, accept_densities, first_invalid, invalid_child, density_merger}
use Rattle.merger.specs.declared.Merge.{Merge}
use Rattle.build.specs.Map.{Entry}
use Rattle.build.specs.Buffers.{held, batch}
use Rattle.build.specs.Stack.{run}
use Rattle.build.specs.Calls.{Buffers, Answer, answered, add_call}
use Rattle.build.specs.Counts.{counts_refusal, count_calls, Report, counts_added, add_counts}
use Rattle.build.specs.Densities.{densities_refusal, density_calls, densities_added, add_densities}
use Rattle.build.specs.declared.counts.Added.{Added as CountsAdded}
use Rattle.combine.specs.Rules.{defined_pool, defined_product}
use Rattle.combine.specs.Pool.{Given, entries, result_depth, pool_input_refusal, pool_refusal, pool_over, pool_counts, product_input_refusal, product_refusal, product_over, product_densities}
use Rattle.claims.specs.Unlisted.{former_merge_counts, former_accept_counts, former_accept_densities, former_count_merger, former_density_merger, former_counts_refusal, former_count_calls, former_add_counts, former_densities_refusal, former_density_calls, former_add_densities, former_pool_refusal, former_pool_counts, former_product_refusal, former_product_densities}

-- ---- the mergers
module _ (K M : ℕ) (T : Float) where
  merges_as_before : (p h n0 n1 n2 n3 : ℕ) → merge_counts K [] M T p h n0 n1 n2 n3 ≡ former_merge_counts M T p h n0 n1 n2 n3
  unfolding merge_counts former_merge_counts
  merges_as_before p h n0 n1 n2 n3 = rw (nothing_protected K p h)

  pub accepts_counts_as_before : accept_counts K [] M T ≡ former_accept_counts M T
  unfolding accept_counts former_accept_counts
  accepts_counts_as_before =
      fun_ext (λ p. fun_ext (λ h. fun_ext (λ n0. fun_ext (λ n1. fun_ext (λ n2. fun_ext (λ n3. ap merged (merges_as_before p h n0 n1 n2 n3)))))))

module _ (M : ℕ) (T : Float) where
  densities_as_before : (p h : ℕ) (m0 m1 m2 m3 : Float) → merge_densities [] M T p h m0 m1 m2 m3 ≡ merge_densities_by_chi (unit_density p) M T p h m0 m1 m2 m3
  unfolding merge_densities_with
  densities_as_before p h m0 m1 m2 m3 = rw (nothing_protected 29 p h)

  pub accepts_densities_as_before : accept_densities [] M T ≡ former_accept_densities M T
  unfolding accept_densities former_accept_densities
  accepts_densities_as_before =
      fun_ext (λ p. fun_ext (λ h. fun_ext (λ m0. fun_ext (λ m1. fun_ext (λ m2. fun_ext (λ m3. ap merged (densities_as_before p h m0 m1 m2 m3)))))))

  -- The calls, of a parent whose hash is one of its depth.
  pub count_merger-as_before : (p h n0 n1 n2 n3 : ℕ) → h < n_hash p → count_merger [] M T p h n0 n1 n2 n3 ≡ former_count_merger M T p n0 n1 n2 n3
  unfolding count_merger quad_refusal former_count_merger
  count_merger-as_before p h n0 n1 n2 n3 l =
      rw (empty_list_accepted 29, lt-leb (n_hash p) h l, merges_as_before 29 M T p h n0 n1 n2 n3) (go (ltb 28 p) (ltb 29 M) (is_nan T) (ltb 4294967295 (n0 + n1 + n2 + n3)))
    where
      hash_unseen : former_merge_counts M T p h n0 n1 n2 n3 ≡ former_merge_counts M T p 0 n0 n1 n2 n3
      hash_unseen = unfold former_merge_counts in unfold merge_by_chi in refl

      go : (a b c d : Bool)
          → ok_unless (or_else (or_else (refused_if a Refusal.DepthOutOfRange) (or_else (refused_if b Refusal.DepthThresholdOutOfRange) (or_else (refused_if c Refusal.Chi2ThresholdIsNan) none))) (refused_if d (Refusal.CountOverflow 0))) (former_merge_counts M T p h n0 n1 n2 n3)
          ≡ cond a (Err Refusal.DepthOutOfRange) (cond b (Err Refusal.DepthThresholdOutOfRange) (cond c (Err Refusal.Chi2ThresholdIsNan) (cond d (Err (Refusal.CountOverflow 0)) (Ok (former_merge_counts M T p 0 n0 n1 n2 n3)))))
      go true b c d = refl
      go false true c d = refl
      go false false true d = refl
      go false false false true = refl
      go false false false false = ap (λ (m : Merge ℕ). Ok m) hash_unseen

  pub density_merger-as_before : (p h : ℕ) (m0 m1 m2 m3 : Float) → h < n_hash p → density_merger [] M T p h m0 m1 m2 m3 ≡ former_density_merger M T p m0 m1 m2 m3
  unfolding density_merger quad_refusal former_density_merger
  density_merger-as_before p h m0 m1 m2 m3 l =
      rw (empty_list_accepted 29, lt-leb (n_hash p) h l, densities_as_before p h m0 m1 m2 m3) (go (ltb 28 p) (ltb 29 M) (is_nan T) (first_invalid m0 m1 m2 m3))
    where
      hash_unseen : merge_densities_by_chi (unit_density p) M T p h m0 m1 m2 m3 ≡ merge_densities_by_chi (unit_density p) M T p 0 m0 m1 m2 m3
      hash_unseen = unfold merge_densities_by_chi in refl

      go : (a b c : Bool) (child : Prelude.Option ℕ)
          → ok_unless (or_else (or_else (refused_if a Refusal.DepthOutOfRange) (or_else (refused_if b Refusal.DepthThresholdOutOfRange) (or_else (refused_if c Refusal.Chi2ThresholdIsNan) none))) (invalid_child child)) (merge_densities_by_chi (unit_density p) M T p h m0 m1 m2 m3)
          ≡ cond a (Err Refusal.DepthOutOfRange) (cond b (Err Refusal.DepthThresholdOutOfRange) (cond c (Err Refusal.Chi2ThresholdIsNan) (ok_unless (invalid_child child) (merge_densities_by_chi (unit_density p) M T p 0 m0 m1 m2 m3))))
      go true b c child = refl
      go false true c child = refl
      go false false true child = refl
      go false false false (Some child) = refl
      go false false false None = ap (λ (m : Merge Float). Ok m) hash_unseen

-- ---- adding
-- Two calls that lay out and report alike answer alike.
counts_alike : (K D M : ℕ) (T : Float) (o : Option Refusal) (b : Buffers ℕ) (s : List (Entry ℕ)) → answered (count_calls K [] D M T) o b s ≡ answered (former_count_calls K D M T) o b s
counts_alike K D M T none b s = refl
counts_alike K D M T (some r) b s = refl

densities_alike : (D M : ℕ) (T : Float) (o : Option Refusal) (b : Buffers Float) (s : List (Entry Float)) → answered (density_calls [] D M T) o b s ≡ answered (former_density_calls D M T) o b s
densities_alike D M T none b s = refl
densities_alike D M T (some r) b s = refl

abbrev counts_told : Buffers ℕ × Answer Refusal Report → Result CountsAdded Refusal × List ℕ × List ℕ
counts_told t = (counts_added t.1, t.0.zuniqs, t.0.values)

abbrev densities_told : Buffers Float × Answer Refusal ℕ → Result ℕ Refusal × List ℕ × List Float
densities_told t = (densities_added t.1, t.0.zuniqs, t.0.values)

-- Adding counts, to wide and to narrow maps.
pub adding_counts_as_before : (K D M : ℕ) (T : Float) (m : ℕ) (zs vs hs ns : List ℕ) → add_counts K [] D M T m zs vs hs ns ≡ former_add_counts K D M T m zs vs hs ns
unfolding add_counts former_add_counts add_call counts_refusal former_counts_refusal
adding_counts_as_before K D M T m zs vs hs ns =
    rw (empty_list_accepted K, accepts_counts_as_before K M T)
    (ap counts_told (counts_alike K D M T (former_counts_refusal K D M T m (length zs) (length vs) (take m zs) (take m vs) hs ns) (record { number = m; zuniqs = zs; values = vs }) (run (former_accept_counts M T) (held K m zs vs) (batch D hs ns))))

-- Adding densities.
pub adding_densities_as_before : (D M : ℕ) (T : Float) (m : ℕ) (zs : List ℕ) (vs : List Float) (hs : List ℕ) (xs : List Float) → add_densities [] D M T m zs vs hs xs ≡ former_add_densities D M T m zs vs hs xs
unfolding add_densities former_add_densities add_call densities_refusal former_densities_refusal
adding_densities_as_before D M T m zs vs hs xs =
    rw (empty_list_accepted 29, accepts_densities_as_before M T)
    (ap densities_told (densities_alike D M T (former_densities_refusal D M T m (length zs) (length vs) (take m zs) (take m vs) hs xs) (record { number = m; zuniqs = zs; values = vs }) (run (former_accept_densities M T) (held 29 m zs vs) (batch D hs xs))))

-- ---- combining
pub pool_as_before : (l r : Given ℕ) (M : ℕ) (T : Float) (zs vs : List ℕ) → pool_counts [] l r M T zs vs ≡ former_pool_counts l r M T zs vs
unfolding pool_counts pool_over pool_refusal pool_input_refusal former_pool_counts former_pool_refusal
pool_as_before l r M T zs vs =
    let K = result_depth l r in
    rw (empty_list_accepted 29, accepts_counts_as_before 29 M T)
    (ap counts_told (counts_alike 29 K M T (former_pool_refusal l r M T (length zs) (length vs)) (record { number = 0; zuniqs = zs; values = vs }) (reverse (defined_pool (former_accept_counts M T) K (entries l) (entries r)))))

pub product_as_before : (l r : Given Float) (M : ℕ) (T k : Float) (zs : List ℕ) (vs : List Float) → product_densities [] l r M T k zs vs ≡ former_product_densities l r M T k zs vs
unfolding product_densities product_over product_refusal product_input_refusal former_product_densities former_product_refusal
product_as_before l r M T k zs vs =
    let K = result_depth l r in
    rw (empty_list_accepted 29, accepts_densities_as_before M T)
    (ap densities_told (densities_alike K M T (former_product_refusal l r M T k (length zs) (length vs)) (record { number = 0; zuniqs = zs; values = vs }) (reverse (defined_product (former_accept_densities M T) k K (entries l) (entries r)))))
