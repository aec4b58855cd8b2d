-- Section 2 of the scope, and notes 4, 7 and 11 of 02: what the two mergers make of four children. "M (0 to 29) is the shallowest parent depth
-- at which merging is allowed; T is an f64." p and h are the parent's depth and hash, P the protected parents: zuniqs of the largest depth K.
use Rattle.std.specs.Prelude.{ℕ, ◌+◌, Bool, Option as Answer, Some, None, Result, cond, ◌&&◌, List, ◌==◌, is_nan, nat_le, nat_lt, Float}
use Rattle.std.proofs.Math.Option.{Option, none, some}
use Rattle.std.specs.Float.Ieee.{lt}
use Rattle.refusal.specs.Checks.{or_else, refused_if, ok_unless}
use Rattle.refusal.specs.declared.Refusal.{Refusal}
use Rattle.zuniq.specs.Cells.{n_hash}
use Rattle.protection.specs.Protected.{is_protected, protected_refusal}
use Rattle.merger.specs.Floats.{◌⊕◌, ◌⊖◌, ◌⊗◌, ◌⊘◌, float, 1·0, 4·0, π, max, invalid_density}
use Rattle.merger.specs.declared.Merge.{Merge}

-- ---- what both have in common
-- "sum = ((n0+n1)+n2)+n3"
abbrev pub sum_of : (x0 x1 x2 x3 : Float) → Float
sum_of x0 x1 x2 x3 = ((x0 ⊕ x1) ⊕ x2) ⊕ x3

-- "w = ((1/n0+1/n1)+1/n2)+1/n3"
abbrev pub w_of : (x0 x1 x2 x3 : Float) → Float
w_of x0 x1 x2 x3 = ((1·0 ⊘ x0 ⊕ 1·0 ⊘ x1) ⊕ 1·0 ⊘ x2) ⊕ 1·0 ⊘ x3

-- "sum − 4×(4/w)"
abbrev pub excess : (sum w : Float) → Float
excess sum w = sum ⊖ 4·0 ⊗ (4·0 ⊘ w)

-- "If parent depth ≥ M and chi < T"
abbrev pub merges : (M : ℕ) (T : Float) (p : ℕ) (chi : Float) → Bool
merges M T p chi = nat_le M p && lt chi T

-- the refusals that both merger calls have, in the order of the table. 1: "a merger's parent depth is over 28"; 2; 3; note 7 of 02: 15,
-- "tried after 3"; "A merger call now takes the parent's hash too, 7 if out of range"
unfoldable pub quad_refusal : (P : List ℕ) (M : ℕ) (T : Float) (p h : ℕ) → Option Refusal
quad_refusal P M T p h =
    or_else (refused_if (nat_lt 28 p) Refusal.DepthOutOfRange)
    (or_else (refused_if (nat_lt 29 M) Refusal.DepthThresholdOutOfRange)
    (or_else (refused_if (is_nan T) Refusal.Chi2ThresholdIsNan)
    (or_else (protected_refusal 29 P)
    (refused_if (nat_le (n_hash p) h) (Refusal.HashOutOfRange 0)))))

-- the parent's value, if the four are merged
abbrev pub merged : {V : Type 0} → Merge V → Option V
merged (Merge.Merged v) = some v
merged (Merge.Kept chi) = none

-- ---- counts
-- "chi = sum − 4×(4/w). A zero makes w infinite and chi = sum", by `w_infinite` and `chi_of_zero` of proofs/Counts
unfoldable pub chi_of_counts : (n0 n1 n2 n3 : ℕ) → Float
chi_of_counts n0 n1 n2 n3 = excess (sum_of (float n0) (float n1) (float n2) (float n3)) (w_of (float n0) (float n1) (float n2) (float n3))

-- "the parent's count is the whole-number sum"; the four are kept, "carrying the chi it found, which is worked out even where
-- the parent depth is below M"
unfoldable pub merge_by_chi : (M : ℕ) (T : Float) (p h n0 n1 n2 n3 : ℕ) → Merge ℕ
merge_by_chi M T p h n0 n1 n2 n3 =
    let chi = chi_of_counts n0 n1 n2 n3 in
    cond (merges M T p chi) (Merge.Merged (n0 + n1 + n2 + n3)) (Merge.Kept chi)

-- note 4 of 02: "Four siblings of count 0"
abbrev pub blank : (n0 n1 n2 n3 : ℕ) → Bool
blank n0 n1 n2 n3 = n0 == 0 && (n1 == 0 && (n2 == 0 && n3 == 0))

-- they "now merge at any T, where the parent depth is at least M"; all else is merged by chi, as ever. Note 7: "A quad whose parent is
-- listed is kept"; note 11: "protection now comes first", before blank sky.
unfoldable pub merge_counts : (K : ℕ) (P : List ℕ) (M : ℕ) (T : Float) (p h n0 n1 n2 n3 : ℕ) → Merge ℕ
merge_counts K P M T p h n0 n1 n2 n3 =
    cond (is_protected K P p h) (Merge.Kept (chi_of_counts n0 n1 n2 n3))
    (cond (nat_le M p && blank n0 n1 n2 n3) (Merge.Merged 0)
    (merge_by_chi M T p h n0 n1 n2 n3))

-- "the merger accepts their values": the parent's count, or none
unfoldable pub accept_counts : (K : ℕ) (P : List ℕ) (M : ℕ) (T : Float) (p h n0 n1 n2 n3 : ℕ) → Option ℕ
accept_counts K P M T p h n0 n1 n2 n3 = merged (merge_counts K P M T p h n0 n1 n2 n3)

-- the same of the merger before note 4, against which its laws are said
unfoldable pub accept_by_chi : (M : ℕ) (T : Float) (p h n0 n1 n2 n3 : ℕ) → Option ℕ
accept_by_chi M T p h n0 n1 n2 n3 = merged (merge_by_chi M T p h n0 n1 n2 n3)

-- the count merger, refused by those of both and by 10
unfoldable pub count_merger : (P : List ℕ) (M : ℕ) (T : Float) (p h n0 n1 n2 n3 : ℕ) → Result (Merge ℕ) Refusal
count_merger P M T p h n0 n1 n2 n3 =
    ok_unless (or_else (quad_refusal P M T p h) (refused_if (nat_lt 4294967295 (n0 + n1 + n2 + n3)) (Refusal.CountOverflow 0)))
    (merge_counts 29 P M T p h n0 n1 n2 n3)

-- ---- densities
-- "c = N(p)/π"
unfoldable pub unit_density : (p : ℕ) → Float
unit_density p = float (n_hash p) ⊘ π

-- "w uses 1/max(m, c) in place of 1/n; chi = (sum − 4×(4/w))/c"
unfoldable pub chi_of_densities_with : (c m0 m1 m2 m3 : Float) → Float
chi_of_densities_with c m0 m1 m2 m3 = excess (sum_of m0 m1 m2 m3) (w_of (max m0 c) (max m1 c) (max m2 c) (max m3 c)) ⊘ c

-- "parent density sum/4"; "The merger answers either the merged density or that the four are kept, carrying the chi it found"
unfoldable pub merge_densities_by_chi : (c : Float) (M : ℕ) (T : Float) (p h : ℕ) (m0 m1 m2 m3 : Float) → Merge Float
merge_densities_by_chi c M T p h m0 m1 m2 m3 =
    let chi = chi_of_densities_with c m0 m1 m2 m3 in
    cond (merges M T p chi) (Merge.Merged (sum_of m0 m1 m2 m3 ⊘ 4·0)) (Merge.Kept chi)

-- note 7 of 02: "A quad whose parent is listed is kept"
unfoldable pub merge_densities_with : (c : Float) (P : List ℕ) (M : ℕ) (T : Float) (p h : ℕ) (m0 m1 m2 m3 : Float) → Merge Float
merge_densities_with c P M T p h m0 m1 m2 m3 =
    cond (is_protected 29 P p h) (Merge.Kept (chi_of_densities_with c m0 m1 m2 m3)) (merge_densities_by_chi c M T p h m0 m1 m2 m3)

-- "Densities at parent depth p: c = N(p)/π"
abbrev pub chi_of_densities : (p : ℕ) (m0 m1 m2 m3 : Float) → Float
chi_of_densities p m0 m1 m2 m3 = chi_of_densities_with (unit_density p) m0 m1 m2 m3

abbrev pub merge_densities : (P : List ℕ) (M : ℕ) (T : Float) (p h : ℕ) (m0 m1 m2 m3 : Float) → Merge Float
merge_densities P M T p h m0 m1 m2 m3 = merge_densities_with (unit_density p) P M T p h m0 m1 m2 m3

-- "the merger accepts their values": the parent's density, or none
unfoldable pub accept_densities : (P : List ℕ) (M : ℕ) (T : Float) (p h : ℕ) (m0 m1 m2 m3 : Float) → Option Float
accept_densities P M T p h m0 m1 m2 m3 = merged (merge_densities P M T p h m0 m1 m2 m3)

-- 9: "one of a merger's four, is NaN, infinite or below 0; place: the .. child"
unfoldable pub first_invalid : (m0 m1 m2 m3 : Float) → Answer ℕ
first_invalid m0 m1 m2 m3 =
    cond (invalid_density m0) (Some 0)
    (cond (invalid_density m1) (Some 1)
    (cond (invalid_density m2) (Some 2)
    (cond (invalid_density m3) (Some 3)
    None)))

abbrev pub invalid_child : Answer ℕ → Option Refusal
invalid_child None = none
invalid_child (Some child) = some (Refusal.InvalidDensity child)

-- the density merger, refused by those of both and by 9
unfoldable pub density_merger : (P : List ℕ) (M : ℕ) (T : Float) (p h : ℕ) (m0 m1 m2 m3 : Float) → Result (Merge Float) Refusal
density_merger P M T p h m0 m1 m2 m3 =
    ok_unless (or_else (quad_refusal P M T p h) (invalid_child (first_invalid m0 m1 m2 m3)))
    (merge_densities P M T p h m0 m1 m2 m3)
