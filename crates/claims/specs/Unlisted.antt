-- The calls as they were before note 7 of document 02, when none took a list of protected parents: what the laws of proofs/Unlisted compare
-- with. What a later note moved is here as it is now: counts are split by the parent's hash (note 10).
use Rattle.std.specs.Prelude.{Result, Ok, Err, ◌&&◌, cond, List, reverse, ℕ, ◌+◌, leb, ltb, Float, length}
use Rattle.std.proofs.Math.Option.{Option}
use Rattle.std.specs.Float.Ieee.{is_nan}
use Rattle.refusal.specs.Checks.{or_else, ok_unless}
use Rattle.refusal.specs.declared.Refusal.{Refusal}
use Rattle.merger.specs.Floats.{0·0, invalid_density}
use Rattle.merger.specs.Merge.{blank, merge_by_chi, merged, unit_density, merge_densities_by_chi, first_invalid, invalid_child}
use Rattle.merger.specs.declared.Merge.{Merge}
use Rattle.mom.specs.Map.{first_fault}
use Rattle.build.specs.Calls.{Calls, add_call, answered}
use Rattle.build.specs.Add.{settings_refusal, lengths_refusal, map_refusal, map_end, cells_refusal, sum_of, total_refusal, space_refusal}
use Rattle.build.specs.Counts.{total_of, never, Report, counts_added}
use Rattle.build.specs.Densities.{density_refusal, densities_added}
use Rattle.build.specs.declared.counts.Added.{Added as CountsAdded}
use Rattle.combine.specs.Rules.{defined_pool, defined_product}
use Rattle.combine.specs.Pool as Combining
use Rattle.combine.specs.Pool.{Given, entries, result_depth, pool_kept, product_kept}

-- ---- the mergers, which took no hash of the parent
unfoldable pub former_merge_counts : (M : ℕ) (T : Float) (p h n0 n1 n2 n3 : ℕ) → Merge ℕ
former_merge_counts M T p h n0 n1 n2 n3 = cond (leb M p && blank n0 n1 n2 n3) (Merge.Merged 0) (merge_by_chi M T p h n0 n1 n2 n3)

unfoldable pub former_accept_counts : (M : ℕ) (T : Float) (p h n0 n1 n2 n3 : ℕ) → Option ℕ
former_accept_counts M T p h n0 n1 n2 n3 = merged (former_merge_counts M T p h n0 n1 n2 n3)

unfoldable pub former_accept_densities : (M : ℕ) (T : Float) (p h : ℕ) (m0 m1 m2 m3 : Float) → Option Float
former_accept_densities M T p h m0 m1 m2 m3 = merged (merge_densities_by_chi (unit_density p) M T p h m0 m1 m2 m3)

unfoldable pub former_count_merger : (M : ℕ) (T : Float) (p n0 n1 n2 n3 : ℕ) → Result (Merge ℕ) Refusal
former_count_merger M T p n0 n1 n2 n3 =
    cond (ltb 28 p) (Err Refusal.DepthOutOfRange)
    (cond (ltb 29 M) (Err Refusal.DepthThresholdOutOfRange)
    (cond (is_nan T) (Err Refusal.Chi2ThresholdIsNan)
    (cond (ltb 4294967295 (n0 + n1 + n2 + n3)) (Err (Refusal.CountOverflow 0))
    (Ok (former_merge_counts M T p 0 n0 n1 n2 n3)))))

unfoldable pub former_density_merger : (M : ℕ) (T : Float) (p : ℕ) (m0 m1 m2 m3 : Float) → Result (Merge Float) Refusal
former_density_merger M T p m0 m1 m2 m3 =
    cond (ltb 28 p) (Err Refusal.DepthOutOfRange)
    (cond (ltb 29 M) (Err Refusal.DepthThresholdOutOfRange)
    (cond (is_nan T) (Err Refusal.Chi2ThresholdIsNan)
    (ok_unless (invalid_child (first_invalid m0 m1 m2 m3)) (merge_densities_by_chi (unit_density p) M T p 0 m0 m1 m2 m3))))

-- ---- adding counts, wide and narrow
unfoldable pub former_counts_refusal : ℕ → ℕ → ℕ → Float → ℕ → ℕ → ℕ → List ℕ → List ℕ → List ℕ → List ℕ → Option Refusal
former_counts_refusal K D M T m places values zs vs hs ns =
    or_else (settings_refusal K D M T)
    (or_else (lengths_refusal m places values (length hs) (length ns))
    (or_else (map_refusal (first_fault K D zs))
    (or_else (cells_refusal never D (map_end K D zs) 0 hs ns)
    (or_else (total_refusal (sum_of vs) ns)
    (space_refusal places m (length hs))))))

abbrev pub former_count_calls : ℕ → ℕ → ℕ → Float → Calls ℕ Refusal Report
former_count_calls K D M T = record {
  largest = K;
  D = D;
  filler = 0;
  accept = former_accept_counts M T;
  refusal = λ m places values zs vs c. former_counts_refusal K D M T m places values zs vs c.hashes c.values;
  report = λ s. record { entries = length s; sum = total_of s };
}

unfoldable pub former_add_counts : ℕ → ℕ → ℕ → Float → ℕ → List ℕ → List ℕ → List ℕ → List ℕ → Result CountsAdded Refusal × List ℕ × List ℕ
former_add_counts K D M T m zs vs hs ns =
    let t = add_call (former_count_calls K D M T) (record { number = m; zuniqs = zs; values = vs }) (record { hashes = hs; values = ns }) in
    (counts_added t.1, t.0.zuniqs, t.0.values)

-- ---- adding densities
unfoldable pub former_densities_refusal : ℕ → ℕ → Float → ℕ → ℕ → ℕ → List ℕ → List Float → List ℕ → List Float → Option Refusal
former_densities_refusal D M T m places values zs vs hs xs =
    or_else (settings_refusal 29 D M T)
    (or_else (lengths_refusal m places values (length hs) (length xs))
    (or_else (map_refusal (first_fault 29 D zs))
    (or_else (density_refusal 0 vs)
    (or_else (cells_refusal invalid_density D (map_end 29 D zs) 0 hs xs)
    (space_refusal places m (length hs))))))

abbrev pub former_density_calls : ℕ → ℕ → Float → Calls Float Refusal ℕ
former_density_calls D M T = record {
  largest = 29;
  D = D;
  filler = 0·0;
  accept = former_accept_densities M T;
  refusal = λ m places values zs vs c. former_densities_refusal D M T m places values zs vs c.hashes c.values;
  report = length;
}

unfoldable pub former_add_densities : ℕ → ℕ → Float → ℕ → List ℕ → List Float → List ℕ → List Float → Result ℕ Refusal × List ℕ × List Float
former_add_densities D M T m zs vs hs xs =
    let t = add_call (former_density_calls D M T) (record { number = m; zuniqs = zs; values = vs }) (record { hashes = hs; values = xs }) in
    (densities_added t.1, t.0.zuniqs, t.0.values)

-- ---- pool
unfoldable pub former_pool_refusal : Given ℕ → Given ℕ → ℕ → Float → ℕ → ℕ → Option Refusal
former_pool_refusal l r M T places values =
    or_else (or_else (Combining.settings_refusal l.depth r.depth M T)
    (or_else (Combining.pairs_refusal (length l.zuniqs) (length l.values) (length r.zuniqs) (length r.values) places values)
    (or_else (Combining.maps_refusal l r)
    (Combining.sums_refusal (sum_of l.values) (sum_of r.values)))))
    (Combining.places_refusal places (length (pool_kept l r)))

unfoldable pub former_pool_counts : Given ℕ → Given ℕ → ℕ → Float → List ℕ → List ℕ → Result CountsAdded Refusal × List ℕ × List ℕ
former_pool_counts l r M T zs vs =
    let K = result_depth l r in
    let pool = reverse (defined_pool (former_accept_counts M T) K (entries l) (entries r)) in
    let t = answered (former_count_calls 29 K M T) (former_pool_refusal l r M T (length zs) (length vs)) (record { number = 0; zuniqs = zs; values = vs }) pool in
    (counts_added t.1, t.0.zuniqs, t.0.values)

-- ---- product
unfoldable pub former_product_refusal : Given Float → Given Float → ℕ → Float → Float → ℕ → ℕ → Option Refusal
former_product_refusal l r M T k places values =
    or_else (or_else (Combining.settings_refusal l.depth r.depth M T)
    (or_else (Combining.factor_refusal k)
    (or_else (Combining.pairs_refusal (length l.zuniqs) (length l.values) (length r.zuniqs) (length r.values) places values)
    (or_else (Combining.maps_refusal l r)
    (Combining.map_densities_refusal l r)))))
    (or_else (Combining.finite_refusal (product_kept k l r))
    (Combining.places_refusal places (length (product_kept k l r))))

unfoldable pub former_product_densities : Given Float → Given Float → ℕ → Float → Float → List ℕ → List Float → Result ℕ Refusal × List ℕ × List Float
former_product_densities l r M T k zs vs =
    let K = result_depth l r in
    let product = reverse (defined_product (former_accept_densities M T) k K (entries l) (entries r)) in
    let t = answered (former_density_calls K M T) (former_product_refusal l r M T k (length zs) (length vs)) (record { number = 0; zuniqs = zs; values = vs }) product in
    (densities_added t.1, t.0.zuniqs, t.0.values)
