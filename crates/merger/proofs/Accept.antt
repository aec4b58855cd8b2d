-- When the two mergers accept four siblings, as later parts use it: `accept_counts` and `accept_densities` give a value
-- exactly where the merger answers `Merged`, and that is where the parent depth is at least M, the parent is not protected, and chi is
-- below T or, of counts, all four are 0. Assumes nothing.
use Rattle.std.proofs.Common.{◌≡◌, ℕ, ◌+◌, ◌<◌, ◌≤◌, Bool, true, false, cond, not, ◌&&◌, ◌||◌, leb, ◌↔◌, List, sym, refl, ap, ◌∙◌, le-leb, leb-true}
use mathlib.Core.Bool.{and-false}
use mathlib.Core.Option.{none, some, some-injective, some-ne-none, none-ne-some}
use lib.Ieee.{Float, lt}
use borrow.Author.Tests.{lt-leb}
use Rattle.zuniq.proofs.Basics.{and_is_true}
use Rattle.protection.specs.Protected.{is_protected}
use Rattle.merger.specs.Floats.{◌⊘◌, 4·0}
use Rattle.merger.specs.Merge.{sum_of, chi_of_counts, merge_by_chi, blank, merge_counts, merged, accept_counts, chi_of_densities, merge_densities_by_chi, merge_densities_with, merge_densities, accept_densities}
use Rattle.merger.specs.declared.Merge.{Merge}
use Rattle.merger.proofs.Floats.{lt_self}
use Rattle.merger.proofs.Blank.{sum_of_blank, not_blank}

-- ---- a value x that is given where siblings are merged
given_iff : {A : Type 0} (b : Bool) (x v : A) → (cond b (some x) none ≡ some v) ↔ ((b ≡ true) × (x ≡ v))
given_iff true x v = (λ e. (refl, some-injective x v e), λ e. cc)
given_iff false x v = (λ e. absurd (none-ne-some v e), λ e. cc)

-- It is given exactly if the parent depth is at least M and the test b holds.
given_from_M : {A : Type 0} (M p : ℕ) (b : Bool) (x v : A) → (cond (leb M p && b) (some x) none ≡ some v) ↔ ((M ≤ p) × (b ≡ true) × (x ≡ v))
given_from_M M p b x v =
    let g = given_iff (leb M p && b) x v in (
      λ e. let t = and_is_true (leb M p) b (g.0 e).0 in (leb-true M p t.0, t.1, (g.0 e).1),
      λ e. g.1 (rw (le-leb M p e.0, e.1), e.2),
    )

-- It is not given below M.
none_below_M : {A : Type 0} (M p : ℕ) (b : Bool) (x : A) → p < M → cond (leb M p && b) (some x) none ≡ none
none_below_M M p b x l = rw (lt-leb M p l)

-- There is a merged value exactly where the four are merged, and none exactly where they are kept.
merged-iff : {V : Type 0} (r : Merge V) (v : V) → (merged r ≡ some v) ↔ (r ≡ Merge.Merged v)
merged-iff (Merge.Merged w) v = (λ e. cc, λ e. cc)
merged-iff (Merge.Kept chi) v = (λ e. absurd (none-ne-some v e), λ e. cc)

kept_iff : {V : Type 0} (r : Merge V) → (merged r ≡ none) ↔ ((chi : Float) × (r ≡ Merge.Kept chi))
kept_iff (Merge.Merged v) = (λ e. absurd (some-ne-none v e), λ k. let e = k.1 in cc)
kept_iff (Merge.Kept chi) = (λ e. (chi, refl), λ k. refl)

-- ---- counts
module _ (K : ℕ) (P : List ℕ) (M : ℕ) (T : Float) (p h n0 n1 n2 n3 : ℕ) where
  -- Counts are accepted, as n, exactly where the merger answers `Merged n`.
  pub accept_counts-iff_merged : (n : ℕ) → (accept_counts K P M T p h n0 n1 n2 n3 ≡ some n) ↔ (merge_counts K P M T p h n0 n1 n2 n3 ≡ Merge.Merged n)
  unfolding accept_counts
  accept_counts-iff_merged n = merged-iff (merge_counts K P M T p h n0 n1 n2 n3) n

  -- They are not accepted exactly where it answers `Kept`.
  pub reject_counts_iff_kept : (accept_counts K P M T p h n0 n1 n2 n3 ≡ none) ↔ ((chi : Float) × (merge_counts K P M T p h n0 n1 n2 n3 ≡ Merge.Kept chi))
  unfolding accept_counts
  reject_counts_iff_kept = kept_iff (merge_counts K P M T p h n0 n1 n2 n3)

  pub accept_counts-is : accept_counts K P M T p h n0 n1 n2 n3 ≡ cond (leb M p && (not (is_protected K P p h) && (blank n0 n1 n2 n3 || lt (chi_of_counts n0 n1 n2 n3) T))) (some (n0 + n1 + n2 + n3)) none
  unfolding accept_counts merge_counts merge_by_chi
  accept_counts-is = go (leb M p) (blank n0 n1 n2 n3) (is_protected K P p h) (lt (chi_of_counts n0 n1 n2 n3) T) (sum_of_blank n0 n1 n2 n3)
    where
      chi : Float
      chi = chi_of_counts n0 n1 n2 n3

      sum : ℕ
      sum = n0 + n1 + n2 + n3

      go : (deep empty listed below : Bool) → (empty ≡ true → sum ≡ 0)
          → merged (cond listed (Merge.Kept chi) (cond (deep && empty) (Merge.Merged 0) (cond (deep && below) (Merge.Merged sum) (Merge.Kept chi))))
          ≡ cond (deep && (not listed && (empty || below))) (some sum) none
      go true empty true below z = refl
      go true true false below z = ap some (sym (z refl))
      go true false false true z = refl
      go true false false false z = refl
      go false empty true below z = refl
      go false empty false below z = refl

  -- Counts are accepted exactly if the parent depth is at least M, the parent is not protected, and all four are 0 or chi is below T, and
  -- then as their sum.
  pub accept_counts-iff : (n : ℕ)
      → (accept_counts K P M T p h n0 n1 n2 n3 ≡ some n) ↔ ((M ≤ p) × ((not (is_protected K P p h) && (blank n0 n1 n2 n3 || lt (chi_of_counts n0 n1 n2 n3) T)) ≡ true) × (n0 + n1 + n2 + n3 ≡ n))
  accept_counts-iff n = rw accept_counts-is (given_from_M M p (not (is_protected K P p h) && (blank n0 n1 n2 n3 || lt (chi_of_counts n0 n1 n2 n3) T)) (n0 + n1 + n2 + n3) n)

  -- The merged count is the sum.
  pub accepted_count_is_sum : (n : ℕ) → accept_counts K P M T p h n0 n1 n2 n3 ≡ some n → n ≡ n0 + n1 + n2 + n3
  accepted_count_is_sum n e = sym ((accept_counts-iff n).0 e).2

  -- Below M counts are kept.
  pub counts_kept_below_M : p < M → accept_counts K P M T p h n0 n1 n2 n3 ≡ none
  counts_kept_below_M l = accept_counts-is ∙ none_below_M M p (not (is_protected K P p h) && (blank n0 n1 n2 n3 || lt (chi_of_counts n0 n1 n2 n3) T)) (n0 + n1 + n2 + n3) l

-- At T = chi counts are kept, as 1,2,4,4 with chi 3 at T = 3, but for four that are 0.
pub counts_kept_at_chi : (K : ℕ) (P : List ℕ) (M p h n0 n1 n2 n3 : ℕ) → 0 < n0 + n1 + n2 + n3 → accept_counts K P M (chi_of_counts n0 n1 n2 n3) p h n0 n1 n2 n3 ≡ none
counts_kept_at_chi K P M p h n0 n1 n2 n3 l =
    let chi = chi_of_counts n0 n1 n2 n3 in
    accept_counts-is K P M chi p h n0 n1 n2 n3 ∙ rw (not_blank n0 n1 n2 n3 l, lt_self chi, and-false (not (is_protected K P p h)), and-false (leb M p))

-- ---- densities
module _ (P : List ℕ) (M : ℕ) (T : Float) (p h : ℕ) (m0 m1 m2 m3 : Float) where
  -- Densities are accepted, as m, exactly where the merger answers `Merged m`.
  pub accept_densities-iff_merged : (m : Float) → (accept_densities P M T p h m0 m1 m2 m3 ≡ some m) ↔ (merge_densities P M T p h m0 m1 m2 m3 ≡ Merge.Merged m)
  unfolding accept_densities
  accept_densities-iff_merged m = merged-iff (merge_densities P M T p h m0 m1 m2 m3) m

  -- They are not accepted exactly where it answers `Kept`.
  pub reject_densities_iff_kept : (accept_densities P M T p h m0 m1 m2 m3 ≡ none) ↔ ((chi : Float) × (merge_densities P M T p h m0 m1 m2 m3 ≡ Merge.Kept chi))
  unfolding accept_densities
  reject_densities_iff_kept = kept_iff (merge_densities P M T p h m0 m1 m2 m3)

  pub accept_densities-is : accept_densities P M T p h m0 m1 m2 m3 ≡ cond (leb M p && (not (is_protected 29 P p h) && lt (chi_of_densities p m0 m1 m2 m3) T)) (some (sum_of m0 m1 m2 m3 ⊘ 4·0)) none
  unfolding accept_densities merge_densities_with merge_densities_by_chi merged
  accept_densities-is = go (leb M p) (is_protected 29 P p h) (lt (chi_of_densities p m0 m1 m2 m3) T)
    where
      chi : Float
      chi = chi_of_densities p m0 m1 m2 m3

      mean : Float
      mean = sum_of m0 m1 m2 m3 ⊘ 4·0

      go : (deep listed below : Bool)
          → merged (cond listed (Merge.Kept chi) (cond (deep && below) (Merge.Merged mean) (Merge.Kept chi))) ≡ cond (deep && (not listed && below)) (some mean) none
      go true true below = refl
      go true false true = refl
      go true false false = refl
      go false true below = refl
      go false false below = refl

  -- Densities are accepted exactly if the parent depth is at least M, the parent is not protected and chi is below T, and then as a quarter
  -- of their sum.
  pub accept_densities-iff : (m : Float)
      → (accept_densities P M T p h m0 m1 m2 m3 ≡ some m) ↔ ((M ≤ p) × ((not (is_protected 29 P p h) && lt (chi_of_densities p m0 m1 m2 m3) T) ≡ true) × (sum_of m0 m1 m2 m3 ⊘ 4·0 ≡ m))
  accept_densities-iff m = rw accept_densities-is (given_from_M M p (not (is_protected 29 P p h) && lt (chi_of_densities p m0 m1 m2 m3) T) (sum_of m0 m1 m2 m3 ⊘ 4·0) m)

  -- Below M densities are kept.
  pub densities_kept_below_M : p < M → accept_densities P M T p h m0 m1 m2 m3 ≡ none
  densities_kept_below_M l = accept_densities-is ∙ none_below_M M p (not (is_protected 29 P p h) && lt (chi_of_densities p m0 m1 m2 m3) T) (sum_of m0 m1 m2 m3 ⊘ 4·0) l

-- At T = chi densities are kept.
pub densities_kept_at_chi : (P : List ℕ) (M p h : ℕ) (m0 m1 m2 m3 : Float) → accept_densities P M (chi_of_densities p m0 m1 m2 m3) p h m0 m1 m2 m3 ≡ none
densities_kept_at_chi P M p h m0 m1 m2 m3 =
    let chi = chi_of_densities p m0 m1 m2 m3 in
    accept_densities-is P M chi p h m0 m1 m2 m3 ∙ rw (lt_self chi, and-false (not (is_protected 29 P p h)), and-false (leb M p))
