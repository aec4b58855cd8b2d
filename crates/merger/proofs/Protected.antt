-- Protected parents, notes 7 and 11 of 02: "A quad whose parent is listed is kept", blank or not, and in all else both mergers are as with
-- an empty list. Assumes nothing.
use Rattle.std.proofs.Common.{◌≡◌, ℕ, ◌+◌, Bool, true, false, cond, ◌&&◌, ◌||◌, leb, List, [], sym, refl, ap, ◌∙◌}
use mathlib.Core.Bool.{and-false, false≢true}
use mathlib.Core.Option.{none}
use lib.Ieee.{Float}
use Rattle.zuniq.proofs.Basics.{and_is_true}
use Rattle.protection.specs.Protected.{is_protected}
use Rattle.protection.proofs.Listed.{nothing_protected}
use Rattle.merger.specs.Floats.{◌⊘◌, 4·0}
use Rattle.merger.specs.Merge.{merges, sum_of, chi_of_counts, merge_by_chi, blank, merge_counts, accept_counts, chi_of_densities_with, merge_densities_by_chi, merge_densities_with, accept_densities}
use Rattle.merger.specs.declared.Merge.{Merge}
use Rattle.merger.proofs.Blank.{sum_of_blank}
use Rattle.merger.proofs.Accept.{accept_counts-is, accept_densities-is}

-- ---- counts
module _ (K : ℕ) (P : List ℕ) (M : ℕ) (T : Float) (p h n0 n1 n2 n3 : ℕ) where
  -- Under a protected parent counts are kept, and carry their chi.
  pub protected_counts_kept : is_protected K P p h ≡ true → merge_counts K P M T p h n0 n1 n2 n3 ≡ Merge.Kept (chi_of_counts n0 n1 n2 n3)
  unfolding merge_counts
  protected_counts_kept e = rw e

  -- Under any other they are merged, to their sum, where chi does it or they are blank sky from M on,
  pub counts_merged : is_protected K P p h ≡ false → (merges M T p (chi_of_counts n0 n1 n2 n3) || (leb M p && blank n0 n1 n2 n3)) ≡ true → merge_counts K P M T p h n0 n1 n2 n3 ≡ Merge.Merged (n0 + n1 + n2 + n3)
  unfolding merge_counts merge_by_chi
  counts_merged free t =
      rw free
      (go (merges M T p (chi_of_counts n0 n1 n2 n3)) (leb M p && blank n0 n1 n2 n3) (λ e. sum_of_blank n0 n1 n2 n3 (and_is_true (leb M p) (blank n0 n1 n2 n3) e).1) t)
    where
      chi : Float
      chi = chi_of_counts n0 n1 n2 n3

      sum : ℕ
      sum = n0 + n1 + n2 + n3

      go : (below empty : Bool) → (empty ≡ true → sum ≡ 0) → (below || empty) ≡ true → cond empty (Merge.Merged 0) (cond below (Merge.Merged sum) (Merge.Kept chi)) ≡ Merge.Merged sum
      go below true z t = ap (λ (n : ℕ). Merge.Merged n) (sym (z refl))
      go true false z t = refl
      go false false z t = absurd (false≢true t)

  -- and kept elsewhere, listed or not.
  pub counts_kept : (merges M T p (chi_of_counts n0 n1 n2 n3) || (leb M p && blank n0 n1 n2 n3)) ≡ false → merge_counts K P M T p h n0 n1 n2 n3 ≡ Merge.Kept (chi_of_counts n0 n1 n2 n3)
  unfolding merge_counts merge_by_chi
  counts_kept e = go (is_protected K P p h) (merges M T p (chi_of_counts n0 n1 n2 n3)) (leb M p && blank n0 n1 n2 n3) e
    where
      chi : Float
      chi = chi_of_counts n0 n1 n2 n3

      go : (listed below empty : Bool) → (below || empty) ≡ false
          → cond listed (Merge.Kept chi) (cond empty (Merge.Merged 0) (cond below (Merge.Merged (n0 + n1 + n2 + n3)) (Merge.Kept chi))) ≡ Merge.Kept chi
      go true below empty e = refl
      go false false false e = refl
      go false false true e = absurd (false≢true (sym e))
      go false true empty e = absurd (false≢true (sym e))

  -- Under a protected parent no counts are accepted.
  pub protected_accepts_no_count : is_protected K P p h ≡ true → accept_counts K P M T p h n0 n1 n2 n3 ≡ none
  protected_accepts_no_count e = accept_counts-is K P M T p h n0 n1 n2 n3 ∙ rw (e, and-false (leb M p))

  -- Under any other they are merged or kept as with an empty list.
  pub unlisted_counts : is_protected K P p h ≡ false → merge_counts K P M T p h n0 n1 n2 n3 ≡ merge_counts K [] M T p h n0 n1 n2 n3
  unfolding merge_counts
  unlisted_counts e = rw (e, nothing_protected K p h)

-- ---- densities
module _ (P : List ℕ) (M : ℕ) (T : Float) (p h : ℕ) (m0 m1 m2 m3 : Float) where
  pub protected_densities_kept : (c : Float) → is_protected 29 P p h ≡ true → merge_densities_with c P M T p h m0 m1 m2 m3 ≡ Merge.Kept (chi_of_densities_with c m0 m1 m2 m3)
  unfolding merge_densities_with
  protected_densities_kept c e = rw e

  -- Densities are merged where chi does it and the parent is not protected, and kept elsewhere.
  pub densities_merged : (c : Float) → is_protected 29 P p h ≡ false → merges M T p (chi_of_densities_with c m0 m1 m2 m3) ≡ true → merge_densities_with c P M T p h m0 m1 m2 m3 ≡ Merge.Merged (sum_of m0 m1 m2 m3 ⊘ 4·0)
  unfolding merge_densities_with merge_densities_by_chi
  densities_merged c free e = rw (free, e)

  pub densities_kept : (c : Float) → merges M T p (chi_of_densities_with c m0 m1 m2 m3) ≡ false → merge_densities_with c P M T p h m0 m1 m2 m3 ≡ Merge.Kept (chi_of_densities_with c m0 m1 m2 m3)
  unfolding merge_densities_with merge_densities_by_chi
  densities_kept c e = rw e (go (is_protected 29 P p h))
    where
      go : (t : Bool) → cond {A = Merge Float} t (Merge.Kept (chi_of_densities_with c m0 m1 m2 m3)) (Merge.Kept (chi_of_densities_with c m0 m1 m2 m3)) ≡ Merge.Kept (chi_of_densities_with c m0 m1 m2 m3)
      go true = refl
      go false = refl

  -- Under a protected parent no densities are accepted.
  pub protected_accepts_no_density : is_protected 29 P p h ≡ true → accept_densities P M T p h m0 m1 m2 m3 ≡ none
  protected_accepts_no_density e = accept_densities-is P M T p h m0 m1 m2 m3 ∙ rw (e, and-false (leb M p))

  pub unlisted_densities : (c : Float) → is_protected 29 P p h ≡ false → merge_densities_with c P M T p h m0 m1 m2 m3 ≡ merge_densities_with c [] M T p h m0 m1 m2 m3
  unfolding merge_densities_with
  unlisted_densities c e = rw (e, nothing_protected 29 p h)
