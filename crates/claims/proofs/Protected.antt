-- Notes 7 and 11 of 02: what a list of protected parents leaves apart. "A quad whose parent is listed is kept", blank or not: no entry of a
-- map is an accepted merge of a protected parent, none lies strictly above the children of one unless it was given so, and with a list that
-- has every parent nothing merges. Of every map that the calls make: adding makes `defined_map` of the joined batches (Demand3), pool and
-- product that of the overlay cells that their rule keeps (`combined`). Assumes nothing.
use mathlib.Core.Path.{◌≡◌, refl, sym, ◌∙◌}
use mathlib.Core.Bool.{true}
use mathlib.Core.List.{List}
use mathlib.Core.Logic.{◌⊎◌, inl, inr, ⊎_elim}
use mathlib.Core.Option.{none, some, none-ne-some}
use Prim.Native.Nat.{ℕ, suc, ◌-◌, ◌≤◌, ◌<◌}
use native.Mathlib.Omega.{arith}
use lib.Ieee.{Float}
use lib.ListN.{length}
use Rattle.zuniq.specs.Cells.{n_hash, child_hash}
use Rattle.zuniq.proofs.Ranges.{lies_in-iff}
use Rattle.protection.specs.Protected.{is_protected}
use Rattle.merger.specs.Merge.{accept_counts, accept_densities}
use Rattle.merger.proofs.Protected.{protected_accepts_no_count, protected_accepts_no_density}
use Rattle.build.specs.Map.{Entry, Merger, whole, defined_map}
use Rattle.build.specs.Promises.{Has, LiesIn}
use Rattle.build.specs.Counts.{count_calls}
use Rattle.build.proofs.Whole.{listed_has, Whole, by_list, by_merging, whole_is, is_whole}
use Rattle.build.proofs.Tops.{defined_map-has}
use Rattle.build.proofs.DefinedMap.{defined_map-in_range}
use Rattle.build.proofs.AnyMerger.{Between, entry_above_kept}
use Rattle.build.proofs.Calls.{joined_batches_depth}
use Rattle.combine.specs.Overlay.{Split, overlay}
use Rattle.combine.specs.Rules.{Rule, kept, combined}
use Rattle.claims.specs.Demand3.{AddCalls, joined_list, map_of}

-- ---- any merger
-- An entry of a map is a listed cell, or an accepted merge: of four whole children with these values.
pub record MergeOf {A : Type 0} (accept : Merger A) (D : ℕ) (l : List (Entry A)) (e : Entry A) : Type 0 where
  pub values : A × A × A × A
  pub accepted : accept e.depth e.hash values.0 values.1 values.2 values.3 ≡ some e.value
  pub child0 : whole accept l (D - suc e.depth) (suc e.depth) (child_hash e.hash 0) ≡ some values.0
  pub child1 : whole accept l (D - suc e.depth) (suc e.depth) (child_hash e.hash 1) ≡ some values.1
  pub child2 : whole accept l (D - suc e.depth) (suc e.depth) (child_hash e.hash 2) ≡ some values.2
  pub child3 : whole accept l (D - suc e.depth) (suc e.depth) (child_hash e.hash 3) ≡ some values.3

module _ {A : Type 0} (accept : Merger A) (D : ℕ) (l : List (Entry A)) where
  pub listed_or_merged : (e : Entry A) → Has (defined_map accept D l) e → Has l e ⊎ MergeOf accept D l e
  listed_or_merged e m = go (D - e.depth) refl (whole_is accept l (D - e.depth) e.depth e.hash e.value ((defined_map-has accept D l e).0 m).2.is)
    where
      go : (n : ℕ) → D - e.depth ≡ n → Whole accept l n e.depth e.hash e.value → Has l e ⊎ MergeOf accept D l e
      go n k (by_list q) = inl (listed_has l e.depth e.hash e.value q)
      go n k (by_merging {n = n'} {a = a} {b = b} {c = c} {e = v} u w0 w1 w2 w3 q) =
          let d : D - suc e.depth ≡ n' = omega (arith, k) in
          inr (record {
            values = (a, b, c, v);
            accepted = q;
            child0 = rw d (is_whole accept l n' _ _ a w0);
            child1 = rw d (is_whole accept l n' _ _ b w1);
            child2 = rw d (is_whole accept l n' _ _ c w2);
            child3 = rw d (is_whole accept l n' _ _ v w3);
          })

-- An entry whose children the merger always keeps is a listed cell.
kept_listed : {A : Type 0} (accept : Merger A) (D : ℕ) (l : List (Entry A)) (e : Entry A) → Has (defined_map accept D l) e → ((a b c v : A) → accept e.depth e.hash a b c v ≡ none) → Has l e
kept_listed accept D l e m keeps =
    ⊎_elim (λ q. q) (λ w. absurd (none-ne-some _ (sym (keeps w.values.0 w.values.1 w.values.2 w.values.3) ∙ w.accepted))) (listed_or_merged accept D l e m)

-- ---- counts
module _ (K : ℕ) (P : List ℕ) (M : ℕ) (T : Float) (D : ℕ) (l : List (Entry ℕ)) where
  -- No entry of a result is an accepted merge of a protected parent.
  pub protected_count_listed : (e : Entry ℕ) → Has (defined_map (accept_counts K P M T) D l) e → is_protected K P e.depth e.hash ≡ true → Has l e
  protected_count_listed e m p = kept_listed (accept_counts K P M T) D l e m (λ n0 n1 n2 n3. protected_accepts_no_count K P M T e.depth e.hash n0 n1 n2 n3 p)

  -- Under a listed parent (p, q) nothing is merged at all: an entry strictly above its children, one that (p, q) lies in, was given so, or
  -- has a given cell in it that (p, q) lies in too.
  pub above_protected_count : (p q : ℕ) → is_protected K P p q ≡ true → (e : Entry ℕ) → Has (defined_map (accept_counts K P M T) D l) e → LiesIn p q e → Between l p q e.depth e.hash
  above_protected_count p q t e = entry_above_kept (accept_counts K P M T) l p q (λ n0 n1 n2 n3. protected_accepts_no_count K P M T p q n0 n1 n2 n3 t) D e

  -- With a list that has every parent nothing merges: all is listed.
  pub every_parent_counts : ((d h : ℕ) → d ≤ D → h < n_hash d → is_protected K P d h ≡ true) → (e : Entry ℕ) → Has (defined_map (accept_counts K P M T) D l) e → Has l e
  every_parent_counts all e m = let r = defined_map-in_range (accept_counts K P M T) D l e m in protected_count_listed e m (all e.depth e.hash r.0 r.1)

-- ---- densities
module _ (P : List ℕ) (M : ℕ) (T : Float) (D : ℕ) (l : List (Entry Float)) where
  pub protected_density_listed : (e : Entry Float) → Has (defined_map (accept_densities P M T) D l) e → is_protected 29 P e.depth e.hash ≡ true → Has l e
  protected_density_listed e m p = kept_listed (accept_densities P M T) D l e m (λ m0 m1 m2 m3. protected_accepts_no_density P M T e.depth e.hash m0 m1 m2 m3 p)

  pub above_protected_density : (p q : ℕ) → is_protected 29 P p q ≡ true → (e : Entry Float) → Has (defined_map (accept_densities P M T) D l) e → LiesIn p q e → Between l p q e.depth e.hash
  above_protected_density p q t e = entry_above_kept (accept_densities P M T) l p q (λ m0 m1 m2 m3. protected_accepts_no_density P M T p q m0 m1 m2 m3 t) D e

  pub every_parent_densities : ((d h : ℕ) → d ≤ D → h < n_hash d → is_protected 29 P d h ≡ true) → (e : Entry Float) → Has (defined_map (accept_densities P M T) D l) e → Has l e
  every_parent_densities all e m = let r = defined_map-in_range (accept_densities P M T) D l e m in protected_density_listed e m (all e.depth e.hash r.0 r.1)

-- ---- the maps of the calls
module _ (K : ℕ) (a : AddCalls) (e : Entry ℕ) (m : Has (map_of K a) e) where
  -- Of add calls: an entry that is protected is an accepted cell,
  pub added_protected : is_protected K a.parents e.depth e.hash ≡ true → Has (joined_list K a) e
  added_protected p = protected_count_listed K a.parents a.M a.T a.D (joined_list K a) e m p

  -- and none lies strictly above the children of a listed parent that is shallower than D.
  pub added_above_protected : (p q : ℕ) → is_protected K a.parents p q ≡ true → LiesIn p q e → a.D ≤ p
  added_above_protected p q t i =
      let b = above_protected_count K a.parents a.M a.T a.D (joined_list K a) p q t e m i in
      let d = joined_batches_depth (count_calls K a.parents a.D a.M a.T) (length a.zuniqs) (length a.counts) a.batches b.cell b.has in
      omega (arith, ((lies_in-iff p q b.cell.depth b.cell.hash).0 b.above).0, d)

-- Of a pool, or any other rule, what was given is an overlay cell that the rule keeps.
module _ (P : List ℕ) (M : ℕ) (T : Float) (split : Split ℕ) (rule : Rule ℕ) (D : ℕ) (l r : List (Entry ℕ)) (e : Entry ℕ) (m : Has (combined (accept_counts 29 P M T) split rule D l r) e) where
  pub combined_protected : is_protected 29 P e.depth e.hash ≡ true → Has (kept rule (overlay split D l r)) e
  unfolding combined
  combined_protected p = protected_count_listed 29 P M T D (kept rule (overlay split D l r)) e m p

  pub combined_above_protected : (p q : ℕ) → is_protected 29 P p q ≡ true → LiesIn p q e → Between (kept rule (overlay split D l r)) p q e.depth e.hash
  unfolding combined
  combined_above_protected p q t = above_protected_count 29 P M T D (kept rule (overlay split D l r)) p q t e m

-- So it is of a product.
module _ (P : List ℕ) (M : ℕ) (T : Float) (split : Split Float) (rule : Rule Float) (D : ℕ) (l r : List (Entry Float)) (e : Entry Float) (m : Has (combined (accept_densities P M T) split rule D l r) e) where
  pub combined_density_protected : is_protected 29 P e.depth e.hash ≡ true → Has (kept rule (overlay split D l r)) e
  unfolding combined
  combined_density_protected p = protected_density_listed P M T D (kept rule (overlay split D l r)) e m p

  pub combined_density_above_protected : (p q : ℕ) → is_protected 29 P p q ≡ true → LiesIn p q e → Between (kept rule (overlay split D l r)) p q e.depth e.hash
  unfolding combined
  combined_density_above_protected p q t = above_protected_density P M T D (kept rule (overlay split D l r)) p q t e m
