-- Section 5 of the scope: the pool and product calls. A call's refusals are one definition, the first that applies in the order of
-- the table "Refusals in checking order", "in each row left map before right"; its answer and the output afterwards are another.
use Rattle.std.specs.Prelude.{Result, ◌||◌, not, List, reverse, ℕ, ◌+◌, max, eqb, ltb, Float, length}
use Rattle.std.proofs.Math.Option.{Option}
use Rattle.std.specs.Float.Ieee.{is_nan}
use Rattle.refusal.specs.declared.Refusal.{Refusal}
use Rattle.protection.specs.Protected.{protected_refusal}
use Rattle.merger.specs.Floats.{invalid_density}
use Rattle.merger.specs.Merge.{accept_counts, accept_densities}
use Rattle.mom.specs.Map.{first_fault}
use Rattle.refusal.specs.Checks.{or_else, refused_if}
use Rattle.build.specs.Map.{Entry}
use Rattle.build.specs.Calls.{answered}
use Rattle.build.specs.Add.{map_refusal, sum_of}
use Rattle.build.specs.Counts.{count_calls, counts_added}
use Rattle.build.specs.Densities.{density_refusal, density_calls, densities_added}
use Rattle.build.specs.declared.counts.Added.{Added}
use Rattle.combine.specs.Overlay.{overlay}
use Rattle.combine.specs.Rules.{kept, split_count, pool_rule, defined_pool, copy_density, product_rule, defined_product}
use Rattle.combine.specs.Slices.{entries_of}
use Rattle.combine.specs.Densities.{some_not_finite}

-- "A map of depth D is m zuniqs with m values."
pub record Given (A : Type 0) : Type 0 where
  pub depth : ℕ
  pub zuniqs : List ℕ
  pub values : List A

abbrev pub entries : {A : Type 0} → Given A → List (Entry A)
entries m = entries_of m.zuniqs m.values

-- "Result depth is the larger."
abbrev pub result_depth : {A : Type 0} → Given A → Given A → ℕ
result_depth l r = max l.depth r.depth

-- "1. The depth is over 29", of both maps; "2. M is over 29"; "3. T is NaN"
unfoldable pub settings_refusal : ℕ → ℕ → ℕ → Float → Option Refusal
settings_refusal Dl Dr M T =
    or_else (refused_if (ltb 29 Dl || ltb 29 Dr) Refusal.DepthOutOfRange)
    (or_else (refused_if (ltb 29 M) Refusal.DepthThresholdOutOfRange)
    (refused_if (is_nan T) Refusal.Chi2ThresholdIsNan))

-- "4. Paired buffers differ in length": those of both maps, and of the output
unfoldable pub pairs_refusal : ℕ → ℕ → ℕ → ℕ → ℕ → ℕ → Option Refusal
pairs_refusal lz lv rz rv places values = refused_if (not (eqb lz lv) || (not (eqb rz rv) || not (eqb places values))) Refusal.LengthMismatch

-- rows 5 of both maps
unfoldable pub maps_refusal : {A : Type 0} → Given A → Given A → Option Refusal
maps_refusal l r = or_else (map_refusal (first_fault 29 l.depth l.zuniqs)) (map_refusal (first_fault 29 r.depth r.zuniqs))

-- "10. [..] both pooled maps [..] exceed 4,294,967,295"
unfoldable pub sums_refusal : ℕ → ℕ → Option Refusal
sums_refusal l r = refused_if (ltb 4294967295 (l + r)) (Refusal.CountOverflow 0)

-- "11. The output has fewer places than [..] overlay cells kept by the rule"
unfoldable pub places_refusal : ℕ → ℕ → Option Refusal
places_refusal places cells = refused_if (ltb places cells) Refusal.NoSpace

-- ---- pool
-- the "overlay cells kept by the rule"
abbrev pub pool_kept : Given ℕ → Given ℕ → List (Entry ℕ)
pool_kept l r = kept pool_rule (overlay split_count (result_depth l r) (entries l) (entries r))

-- Rows 1 to 3, 15, 4, 5 and 10: P is the list of protected parents, the output has `places` zuniqs and `values` counts.
unfoldable pub pool_input_refusal : List ℕ → Given ℕ → Given ℕ → ℕ → Float → ℕ → ℕ → Option Refusal
pool_input_refusal P l r M T places values =
    or_else (settings_refusal l.depth r.depth M T)
    (or_else (protected_refusal 29 P)
    (or_else (pairs_refusal (length l.zuniqs) (length l.values) (length r.zuniqs) (length r.values) places values)
    (or_else (maps_refusal l r)
    (sums_refusal (sum_of l.values) (sum_of r.values)))))

-- All rows: 11 too.
unfoldable pub pool_refusal : List ℕ → Given ℕ → Given ℕ → ℕ → Float → ℕ → ℕ → Option Refusal
pool_refusal P l r M T places values = or_else (pool_input_refusal P l r M T places values) (places_refusal places (length (pool_kept l r)))

-- "Answer and places after it are as for add": the answer, and the output buffers afterwards, which held zs and vs. K is the result's
-- depth, the refusal is given if there is one.
unfoldable pub pool_over : List ℕ → ℕ → Option Refusal → List (Entry ℕ) → List (Entry ℕ) → ℕ → Float → List ℕ → List ℕ → Result Added Refusal × List ℕ × List ℕ
pool_over P K refusal l r M T zs vs =
    let t = answered (count_calls 29 P K M T) refusal (record { number = 0; zuniqs = zs; values = vs }) (reverse (defined_pool (accept_counts 29 P M T) K l r)) in
    (counts_added t.1, t.0.zuniqs, t.0.values)

-- the call
unfoldable pub pool_counts : List ℕ → Given ℕ → Given ℕ → ℕ → Float → List ℕ → List ℕ → Result Added Refusal × List ℕ × List ℕ
pool_counts P l r M T zs vs = pool_over P (result_depth l r) (pool_refusal P l r M T (length zs) (length vs)) (entries l) (entries r) M T zs vs

-- ---- product
abbrev pub product_kept : Float → Given Float → Given Float → List (Entry Float)
product_kept k l r = kept (product_rule k) (overlay copy_density (result_depth l r) (entries l) (entries r))

-- "3. [..] k is NaN, infinite or below 0"
unfoldable pub factor_refusal : Float → Option Refusal
factor_refusal k = refused_if (invalid_density k) Refusal.InvalidFactor

-- rows 6 of both maps
unfoldable pub map_densities_refusal : Given Float → Given Float → Option Refusal
map_densities_refusal l r = or_else (density_refusal 0 l.values) (density_refusal 0 r.values)

-- "10. [..] the product of an overlay cell, before merging, is not finite"
unfoldable pub finite_refusal : List (Entry Float) → Option Refusal
finite_refusal l = refused_if (some_not_finite l) Refusal.ProductNotFinite

-- Rows 1 to 3, 15 and 4 to 6.
unfoldable pub product_input_refusal : List ℕ → Given Float → Given Float → ℕ → Float → Float → ℕ → ℕ → Option Refusal
product_input_refusal P l r M T k places values =
    or_else (settings_refusal l.depth r.depth M T)
    (or_else (factor_refusal k)
    (or_else (protected_refusal 29 P)
    (or_else (pairs_refusal (length l.zuniqs) (length l.values) (length r.zuniqs) (length r.values) places values)
    (or_else (maps_refusal l r)
    (map_densities_refusal l r)))))

-- All rows: 10 and 11 too.
unfoldable pub product_refusal : List ℕ → Given Float → Given Float → ℕ → Float → Float → ℕ → ℕ → Option Refusal
product_refusal P l r M T k places values =
    or_else (product_input_refusal P l r M T k places values)
    (or_else (finite_refusal (product_kept k l r))
    (places_refusal places (length (product_kept k l r))))

unfoldable pub product_over : List ℕ → ℕ → Option Refusal → List (Entry Float) → List (Entry Float) → ℕ → Float → Float → List ℕ → List Float → Result ℕ Refusal × List ℕ × List Float
product_over P K refusal l r M T k zs vs =
    let t = answered (density_calls P K M T) refusal (record { number = 0; zuniqs = zs; values = vs }) (reverse (defined_product (accept_densities P M T) k K l r)) in
    (densities_added t.1, t.0.zuniqs, t.0.values)

-- the call
unfoldable pub product_densities : List ℕ → Given Float → Given Float → ℕ → Float → Float → List ℕ → List Float → Result ℕ Refusal × List ℕ × List Float
product_densities P l r M T k zs vs = product_over P (result_depth l r) (product_refusal P l r M T k (length zs) (length vs)) (entries l) (entries r) M T k zs vs
