-- Blank sky, note 4 of 02: where the parent is not protected (note 11) the count merger merges four counts of 0 from parent depth M on,
-- whatever T is, and in all else it is there the former merger, `merge_by_chi`. Assumes nothing.
use Rattle.std.proofs.Common.{◌≡◌, ℕ, ◌+◌, ◌<◌, ◌≤◌, Bool, true, false, cond, ◌&&◌, eqb, leb, ◌⊎◌, List, [], sym, refl, ap, ◌∙◌, inl, inr, arith, eq-eqb, ne_eqb, eqb-true, le-leb}
use mathlib.Core.Path.{fun_ext}
use mathlib.Core.Bool.{and-false}
use mathlib.Core.Logic.{⊎_map}
use lib.Ieee.{Float, lt}
use borrow.Author.Tests.{lt-leb}
use Rattle.zuniq.proofs.Basics.{and_is_true, is_false, le_or_lt}
use Rattle.protection.specs.Protected.{is_protected}
use Rattle.protection.proofs.Listed.{nothing_protected}
use Rattle.merger.specs.Floats.{0·0}
use Rattle.merger.specs.Merge.{chi_of_counts, merge_by_chi, blank, merge_counts, merged, accept_counts, accept_by_chi}
use Rattle.merger.specs.declared.Merge.{Merge}
use Rattle.merger.proofs.Counts.{chi_of_zero}

-- ---- blank is a sum of 0
blank-of_sum : (n0 n1 n2 n3 : ℕ) → n0 + n1 + n2 + n3 ≡ 0 → blank n0 n1 n2 n3 ≡ true
blank-of_sum n0 n1 n2 n3 e = rw (eq-eqb n0 0 (omega (arith, e)), eq-eqb n1 0 (omega (arith, e)), eq-eqb n2 0 (omega (arith, e)), eq-eqb n3 0 (omega (arith, e)))

pub sum_of_blank : (n0 n1 n2 n3 : ℕ) → blank n0 n1 n2 n3 ≡ true → n0 + n1 + n2 + n3 ≡ 0
sum_of_blank n0 n1 n2 n3 e =
    let t0 = and_is_true (eqb n0 0) _ e in
    let t1 = and_is_true (eqb n1 0) _ t0.1 in
    let t2 = and_is_true (eqb n2 0) (eqb n3 0) t1.1 in
    omega (arith, eqb-true n0 0 t0.0, eqb-true n1 0 t1.0, eqb-true n2 0 t2.0, eqb-true n3 0 t2.1)

pub not_blank : (n0 n1 n2 n3 : ℕ) → 0 < n0 + n1 + n2 + n3 → blank n0 n1 n2 n3 ≡ false
not_blank n0 n1 n2 n3 l = is_false (blank n0 n1 n2 n3) (λ t. omega (arith, l, sum_of_blank n0 n1 n2 n3 t))

-- Where the first is 0 the sum of the others tells.
pub others_blank : (n0 n1 n2 n3 : ℕ) → n0 ≡ 0 → eqb (n1 + n2 + n3) 0 ≡ blank n0 n1 n2 n3
others_blank n0 n1 n2 n3 e = go (le_or_lt (n1 + n2 + n3) 0)
  where
    go : (n1 + n2 + n3 ≤ 0) ⊎ (0 < n1 + n2 + n3) → eqb (n1 + n2 + n3) 0 ≡ blank n0 n1 n2 n3
    go (inl z) = rw (eq-eqb (n1 + n2 + n3) 0 (omega (arith, z)), blank-of_sum n0 n1 n2 n3 (omega (arith, z, e)))
    go (inr l) = rw (ne_eqb (n1 + n2 + n3) 0 (λ z. omega (arith, l, z)), not_blank n0 n1 n2 n3 (omega (arith, l)))

-- Nothing is merged for being blank below M, nor where a count is above 0.
pub no_blank : (M p n0 n1 n2 n3 : ℕ) → (p < M) ⊎ (blank n0 n1 n2 n3 ≡ false) → (leb M p && blank n0 n1 n2 n3) ≡ false
no_blank M p n0 n1 n2 n3 (inl l) = rw (lt-leb M p l)
no_blank M p n0 n1 n2 n3 (inr e) = rw e (and-false (leb M p))

-- The chi of blank sky is 0.
pub chi_of_blank : chi_of_counts 0 0 0 0 ≡ 0·0
chi_of_blank = unfold lib.Ieee.of_int in chi_of_zero 0 0 0 0 (omega arith) (inr refl)

-- The former merger merged four counts of 0 where T is above 0.
former_blank : (M : ℕ) (T : Float) (p h : ℕ) → M ≤ p → lt 0·0 T ≡ true → merge_by_chi M T p h 0 0 0 0 ≡ Merge.Merged 0
unfolding merge_by_chi
former_blank M T p h l t = rw (chi_of_blank, le-leb M p l, t)

module _ (K : ℕ) (P : List ℕ) (M : ℕ) (T : Float) (p h : ℕ) where
  -- ---- four counts of 0
  -- Below M they are kept, with chi 0,
  pub blank_kept_below_M : p < M → merge_counts K P M T p h 0 0 0 0 ≡ Merge.Kept 0·0
  unfolding merge_counts merge_by_chi
  blank_kept_below_M l = rw (lt-leb M p l, chi_of_blank) (go (is_protected K P p h))
    where
      go : (b : Bool) → cond {A = Merge ℕ} b (Merge.Kept 0·0) (Merge.Kept 0·0) ≡ Merge.Kept 0·0
      go true = refl
      go false = refl

  -- and so they are under a protected parent of any depth: "protection now comes first".
  pub protected_blank_kept : is_protected K P p h ≡ true → merge_counts K P M T p h 0 0 0 0 ≡ Merge.Kept 0·0
  unfolding merge_counts
  protected_blank_kept e = rw (e, chi_of_blank)

  module _ (free : is_protected K P p h ≡ false) where
    -- "Four siblings of count 0 now merge at any T, where the parent depth is at least M."
    pub blank_merges : M ≤ p → merge_counts K P M T p h 0 0 0 0 ≡ Merge.Merged 0
    unfolding merge_counts
    blank_merges l = rw (free, le-leb M p l)

    module _ (n0 n1 n2 n3 : ℕ) where
      -- ---- all else is as before
      -- Below M, and with a count above 0 among the four, the answer is the former one.
      pub as_before : (p < M) ⊎ (0 < n0 + n1 + n2 + n3) → merge_counts K P M T p h n0 n1 n2 n3 ≡ merge_by_chi M T p h n0 n1 n2 n3
      unfolding merge_counts
      as_before s = rw (no_blank M p n0 n1 n2 n3 (⊎_map (λ l. l) (not_blank n0 n1 n2 n3) s), free)

      -- So it is wherever T is above 0.
      pub as_before_above_0 : lt 0·0 T ≡ true → merge_counts K P M T p h n0 n1 n2 n3 ≡ merge_by_chi M T p h n0 n1 n2 n3
      as_before_above_0 t = go (le_or_lt M p) (le_or_lt (n0 + n1 + n2 + n3) 0)
        where
          go : (M ≤ p) ⊎ (p < M) → (n0 + n1 + n2 + n3 ≤ 0) ⊎ (0 < n0 + n1 + n2 + n3) → merge_counts K P M T p h n0 n1 n2 n3 ≡ merge_by_chi M T p h n0 n1 n2 n3
          go (inr l) s = as_before (inl l)
          go (inl d) (inr l) = as_before (inr l)
          go (inl d) (inl z) =
              let e0 : n0 ≡ 0 = omega (arith, z) in
              let e1 : n1 ≡ 0 = omega (arith, z) in
              let e2 : n2 ≡ 0 = omega (arith, z) in
              let e3 : n3 ≡ 0 = omega (arith, z) in
              rw (e0, e1, e2, e3) (blank_merges d ∙ sym (former_blank M T p h d t))

-- Wherever T is above 0 and nothing is protected, then, every map and every pool is the former one: what they are handed is the same function.
pub accepts_as_before : (K M : ℕ) (T : Float) → lt 0·0 T ≡ true → accept_counts K [] M T ≡ accept_by_chi M T
unfolding accept_counts accept_by_chi
accepts_as_before K M T t =
    fun_ext (λ p. fun_ext (λ h. fun_ext (λ n0. fun_ext (λ n1. fun_ext (λ n2. fun_ext (λ n3. ap merged (as_before_above_0 K [] M T p h (nothing_protected K p h) n0 n1 n2 n3 t)))))))
