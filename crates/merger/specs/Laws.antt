-- The law of the count merger that its impl of `Merger` rests on. Assumes nothing.
use mathlib.Core.Path.{refl, sym, ◌∙◌}
use mathlib.Core.Option.{some-injective, none-ne-some}
use borrow.Author.Tests.{eqb-true}
use Rattle.std.specs.Prelude.{◌≡◌, ℕ, ◌+◌, Bool, true, false, cond, ◌&&◌, List, nat_le, ◌==◌, Float}
use Rattle.std.proofs.Math.Option.{some}
use Rattle.zuniq.proofs.Basics.{and_is_true}
use Rattle.protection.specs.Protected.{is_protected}
use Rattle.merger.specs.Merge.{merges, merged, chi_of_counts, merge_by_chi, blank, merge_counts, accept_counts}
use Rattle.merger.specs.declared.Merge.{Merge}

-- Four counts of 0 have the sum 0.
pub sum_of_blank : (n0 n1 n2 n3 : ℕ) → blank n0 n1 n2 n3 ≡ true → 0 ≡ n0 + n1 + n2 + n3
sum_of_blank n0 n1 n2 n3 e =
    let t0 = and_is_true (n0 == 0) (n1 == 0 && (n2 == 0 && n3 == 0)) e in
    let t1 = and_is_true (n1 == 0) (n2 == 0 && n3 == 0) t0.1 in
    let t2 = and_is_true (n2 == 0) (n3 == 0) t1.1 in
    λ i. sym (eqb-true n0 0 t0.0) i + sym (eqb-true n1 0 t1.0) i + sym (eqb-true n2 0 t2.0) i + sym (eqb-true n3 0 t2.1) i

-- Counts that are accepted are accepted as their sum.
pub sum_of_accepted : (K : ℕ) (P : List ℕ) (M : ℕ) (T : Float) (p h n0 n1 n2 n3 n : ℕ) → accept_counts K P M T p h n0 n1 n2 n3 ≡ some n → n ≡ n0 + n1 + n2 + n3
unfolding accept_counts merge_counts merge_by_chi
sum_of_accepted K P M T p h n0 n1 n2 n3 n = go (is_protected K P p h) (nat_le M p) (blank n0 n1 n2 n3) (merges M T p chi) (sum_of_blank n0 n1 n2 n3)
  where
    chi : Float
    chi = chi_of_counts n0 n1 n2 n3

    sum : ℕ
    sum = n0 + n1 + n2 + n3

    go : (listed deep empty below : Bool) → (empty ≡ true → 0 ≡ sum)
        → merged (cond listed (Merge.Kept chi) (cond (deep && empty) (Merge.Merged 0) (cond below (Merge.Merged sum) (Merge.Kept chi)))) ≡ some n → n ≡ sum
    go true deep empty below z e = absurd (none-ne-some n e)
    go false true true below z e = sym (some-injective 0 n e) ∙ z refl
    go false true false true z e = sym (some-injective sum n e)
    go false true false false z e = absurd (none-ne-some n e)
    go false false empty true z e = sym (some-injective sum n e)
    go false false empty false z e = absurd (none-ne-some n e)
