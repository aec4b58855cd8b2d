-- Note 9 of 02: how near the chi-square of four counts is, `chi_near` and `chi_exact_lem`, and that every chi which the count merger answers is that
-- near. Of the steps of chi seven roundings stand one behind another: an inverse, three sums, 4/w, times 4 and the difference. The first six make 9 parts
-- of 2^56 each, and dividing by w, which is not exact, makes 1, all of what is taken off, which is at most S; the last one makes 8. Together these
-- are 63 of the 64 parts that S / 2^50 has. Assumes nothing.
use Rattle.std.proofs.Common.{◌≡◌, ℕ, ◌+◌, ◌*◌, ◌^◌, ◌<◌, ◌≤◌, Bool, true, false, cond, ◌&&◌, T, ltb, leb, List, refl, subst, mul_assoc, mul_comm, mul-pos, mul_left_comm, arith, ltb-false}
use mathlib.Core.Option.{Option, none, some, some-injective, none-ne-some}
use lib.Ieee.{Float}
use Rattle.refusal.specs.Checks.{or_else, refused_if, ok_unless}
use Rattle.refusal.specs.declared.Refusal.{Refusal}
use Rattle.refusal.proofs.Checks.{or_else_none, refused_if-none}
use Rattle.protection.specs.Protected.{is_protected}
use Rattle.merger.specs.Floats.{◌⊗◌, ◌⊘◌, float, 1·0, 4·0}
use Rattle.merger.specs.Merge.{merges, sum_of, w_of, chi_of_counts, blank, merge_by_chi, merge_counts, quad_refusal, count_merger}
use Rattle.merger.specs.declared.Merge.{Merge}
use Rattle.merger.specs.ChiError.{product_of, triples_of, chi_within, SomeZero, chi_exact, kept_chi, answered_chi}
use Rattle.merger.proofs.Counts.{float_value, sum_exact, chi_of_zero}
use Rattle.merger.proofs.Exact.{value_exact}
use Rattle.merger.proofs.Excess.{Share, share, inverse, off_approx, difference_within}
use Rattle.merger.proofs.Means.{means}

-- ---- the theorems
module _ (n0 n1 n2 n3 : ℕ) (h : n0 + n1 + n2 + n3 ≤ 4294967295) where
  -- "For four counts above 0 [..] 2^50 times the distance of chi × E from S × E − 16 × P is at most S × E".
  pub chi_near : 0 < n0 → 0 < n1 → 0 < n2 → 0 < n3 → chi_within 50 (chi_of_counts n0 n1 n2 n3) n0 n1 n2 n3 ≡ true
  unfolding chi_within chi_of_counts
  chi_near p0 p1 p2 p3 =
      let S = n0 + n1 + n2 + n3 in
      let P = product_of n0 n1 n2 n3 in
      let A0 = n1 * n2 * n3 in
      let A1 = n0 * n2 * n3 in
      let A2 = n0 * n1 * n3 in
      let A3 = n0 * n1 * n2 in
      let P_is_0 : n0 * A0 ≡ P = simp mul_assoc in
      let P_is_1 : n1 * A1 ≡ P = simp (mul_assoc, mul_left_comm) in
      let P_is_2 : n2 * A2 ≡ P = simp (mul_assoc, mul_left_comm) in
      let P_is_3 : n3 * A3 ≡ P = simp (mul_assoc, mul_comm, mul_left_comm) in
      let few : (n0 ≤ 2 ^ 32) × (n1 ≤ 2 ^ 32) × (n2 ≤ 2 ^ 32) × (n3 ≤ 2 ^ 32) = omega arith in
      let p : 0 < P = mul-pos (mul-pos (mul-pos p0 p1) p2) p3 in
      let s0 : Share A0 P = share n0 A0 P p p0 few.0 P_is_0 in
      let s1 : Share A1 P = share n1 A1 P p p1 few.1 P_is_1 in
      let s2 : Share A2 P = share n2 A2 P p p2 few.2 P_is_2 in
      let s3 : Share A3 P = share n3 A3 P p p3 few.3 P_is_3 in
      let whole : S ≤ 2 ^ 53 = omega arith in
      difference_within (sum_of (float n0) (float n1) (float n2) (float n3)) (4·0 ⊗ (4·0 ⊘ w_of (float n0) (float n1) (float n2) (float n3))) S P (triples_of n0 n1 n2 n3)
      (omega arith) (let first = s0.some in omega arith) (means n0 n1 n2 n3) (rw (sum_exact n0 n1 n2 n3 whole) (float_value S whole))
      (off_approx A0 A1 A2 A3 P s0 s1 s2 s3 (1·0 ⊘ float n0) (1·0 ⊘ float n1) (1·0 ⊘ float n2) (1·0 ⊘ float n3)
      (inverse n0 A0 P p0 few.0 P_is_0 s0) (inverse n1 A1 P p1 few.1 P_is_1 s1) (inverse n2 A2 P p2 few.2 P_is_2 s2) (inverse n3 A3 P p3 few.3 P_is_3 s3))

  -- "With a zero among them chi is exactly S."
  pub chi_exact_lem : SomeZero n0 n1 n2 n3 → chi_exact (chi_of_counts n0 n1 n2 n3) n0 n1 n2 n3 ≡ true
  unfolding chi_exact
  chi_exact_lem z =
      let whole : n0 + n1 + n2 + n3 ≤ 2 ^ 53 = omega arith in
      rw (chi_of_zero n0 n1 n2 n3 whole z) (value_exact (float (n0 + n1 + n2 + n3)) (n0 + n1 + n2 + n3) (float_value (n0 + n1 + n2 + n3) whole))

-- ---- what a caller is answered
-- What is kept carries the chi of the four counts, at either width.
pub kept_chi_lem : (K : ℕ) (P : List ℕ) (M : ℕ) (T : Float) (p h n0 n1 n2 n3 : ℕ) (chi : Float) → kept_chi (merge_counts K P M T p h n0 n1 n2 n3) ≡ some chi → chi_of_counts n0 n1 n2 n3 ≡ chi
unfolding merge_counts merge_by_chi kept_chi
kept_chi_lem K P M T p h n0 n1 n2 n3 chi = go (is_protected K P p h) (leb M p && blank n0 n1 n2 n3) (merges M T p (chi_of_counts n0 n1 n2 n3))
  where
    x : Float
    x = chi_of_counts n0 n1 n2 n3

    go : (listed empty merged : Bool)
        → kept_chi (cond listed (Merge.Kept x) (cond empty (Merge.Merged 0) (cond merged (Merge.Merged (n0 + n1 + n2 + n3)) (Merge.Kept x)))) ≡ some chi → x ≡ chi
    go true empty merged e = some-injective x chi e
    go false true merged e = absurd (none-ne-some chi e)
    go false false true e = absurd (none-ne-some chi e)
    go false false false e = some-injective x chi e

-- Where a chi is answered nothing was refused.
not_refused : (o : Option Refusal) (m : Merge ℕ) (chi : Float) → answered_chi (ok_unless o m) ≡ some chi → (o ≡ none) × (kept_chi m ≡ some chi)
unfolding answered_chi
not_refused (some r) m chi e = absurd (none-ne-some chi e)
not_refused none m chi e = (refl, e)

module _ (P : List ℕ) (M : ℕ) (T : Float) (p h n0 n1 n2 n3 : ℕ) (chi : Float) (e : answered_chi (count_merger P M T p h n0 n1 n2 n3) ≡ some chi) where
  -- A total over 4,294,967,295 is refused.
  answered : (n0 + n1 + n2 + n3 ≤ 4294967295) × (chi_of_counts n0 n1 n2 n3 ≡ chi)
  unfolding count_merger
  answered =
      let over = refused_if (ltb 4294967295 (n0 + n1 + n2 + n3)) (Refusal.CountOverflow 0) in
      let o = not_refused (or_else (quad_refusal P M T p h) over) (merge_counts 29 P M T p h n0 n1 n2 n3) chi e in
      let fits = refused_if-none (ltb 4294967295 (n0 + n1 + n2 + n3)) (Refusal.CountOverflow 0) (or_else_none (quad_refusal P M T p h) over o.0).1 in
      (ltb-false 4294967295 (n0 + n1 + n2 + n3) fits, kept_chi_lem 29 P M T p h n0 n1 n2 n3 chi o.1)

  -- Every chi that is answered of four counts above 0 is that near.
  pub answered_chi_near : 0 < n0 → 0 < n1 → 0 < n2 → 0 < n3 → chi_within 50 chi n0 n1 n2 n3 ≡ true
  answered_chi_near p0 p1 p2 p3 = subst (λ (x : Float). chi_within 50 x n0 n1 n2 n3 ≡ true) answered.1 (chi_near n0 n1 n2 n3 answered.0 p0 p1 p2 p3)

  -- Every chi that is answered of counts with a zero among them is exactly S.
  pub answered_chi_exact : SomeZero n0 n1 n2 n3 → chi_exact chi n0 n1 n2 n3 ≡ true
  answered_chi_exact z = subst (λ (x : Float). chi_exact x n0 n1 n2 n3 ≡ true) answered.1 (chi_exact_lem n0 n1 n2 n3 answered.0 z)
