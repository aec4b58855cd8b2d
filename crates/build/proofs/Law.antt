-- The law of building: adding the cells of a list that rises, one by one, to the empty map gives the defined map of the list.
--
-- Both are all whole cells with no whole cell above them. Of the defined map that is so by its definition (`Has-tops`). Of what
-- adding gives it is so because its entries are whole, each listed cell lies in one, and nothing is left to merge
-- (`whole_lies_in`). Two lists that rise and have the same entries are the same. Assumes nothing.
use mathlib.Core.Path.{◌≡◌, refl, ap, sym, ◌∙◌, subst}
use mathlib.Core.Bool.{true}
use mathlib.Core.List.{List, [], reverse, reverse-reverse}
use mathlib.Core.Logic.{◌⊎◌, inl, inr, ⊎_elim, ◌↔◌}
use mathlib.Core.Option.{some, none-ne-some}
use Prim.Native.Nat.{ℕ, suc, ◌+◌, ◌*◌, ◌/◌, ◌-◌, ◌^◌, ◌≤◌, ◌<◌}
use native.Mathlib.Omega.{arith}
use native.Mathlib.Nat.{le_of_suc-le-suc}
use Rattle.zuniq.specs.Cells.{n_hash, lies_in}
use Rattle.zuniq.proofs.Basics.{le_or_lt}
use Rattle.zuniq.proofs.Ranges.{lies_in-iff, lies_in-self, lies_in-same_depth, lies_in-through, lies_in-trans, child_lies_in_parent, lies_in-within}
use Rattle.build.specs.Map.{Entry, entry, Merger, whole, defined_map}
use Rattle.build.specs.Stack.{child, run}
use Rattle.build.specs.Promises.{Any, Has, LiesIn, Rises, Falls, IsWhole}
use Rattle.build.proofs.Entries.{entry-is, Any-of_has, Has-of_any, Any-reverse}
use Rattle.build.proofs.Rising.{range_of, Falls-same, Rises-unique, Falls-iff_rises, Falls-has, Falls-in_range}
use Rattle.build.proofs.Adding.{run-all, run-any, run-falls}
use Rattle.build.proofs.Whole.{listed_has, Whole, by_list, by_merging, whole_is, is_whole, whole_merges, Has-is_whole}
use Rattle.build.proofs.Tops.{base_lt, Top, defined_map-has, defined_map-rises}
use Rattle.build.proofs.Settled.{Settled, run_settled, Settled-quad}

module _ {A : Type 0} (accept : Merger A) (K : ℕ) (l : List (Entry A)) where
  -- ---- what adding gives
  -- A map of whole cells in which every listed cell lies, with nothing left to merge.
  pub record IsMapOf (s : List (Entry A)) : Type 0 where
    pub falls : Falls K 0 (n_hash K) s
    pub wholes : (e : Entry A) → Has s e → (e.depth ≤ K) × IsWhole accept K l e
    pub holds : (e : Entry A) → Has l e → Any (LiesIn e.depth e.hash) s
    pub settled : Settled accept s

  -- Adding the list to the empty map gives such a map.
  pub run-is_map : Rises K 0 (n_hash K) l → IsMapOf (run accept [] l)
  run-is_map r = record {
    falls = run-falls accept K 0 0 (n_hash K) [] l (omega arith) r;
    wholes = run-all accept _ (whole_merges accept l K 0 (n_hash K) r) [] l (λ e. absurd) (Has-is_whole accept l K 0 (n_hash K) r);
    holds = λ e m. run-any accept (LiesIn e.depth e.hash) (λ d h i y x u t. lies_in-trans _ _ (suc d) (4 * h + i) d h t (child_lies_in_parent d h i u)) [] l
        (inr (Any-of_has _ l e m (lies_in-self e.depth e.hash)));
    settled = run_settled accept [] l tt;
  }

  module _ (s : List (Entry A)) (map : IsMapOf s) where
    -- An entry that a whole cell lies in is above it, or is that cell.
    above_or_same : (n d h : ℕ) (x : A) (e : Entry A) → d + n ≡ K → Whole accept l n d h x → Has s e → LiesIn d h e → (e.depth < d) ⊎ (e ≡ entry d h x)
    above_or_same n d h x e k w m t = ⊎_elim (λ v. inr (same v)) inl (le_or_lt d e.depth)
      where
        same : d ≤ e.depth → e ≡ entry d h x
        same v =
            let z : e.depth ≡ d = omega (arith, ((lies_in-iff d h e.depth e.hash).0 t).0) in
            let g : e.hash ≡ h = sym (lies_in-same_depth d h e.hash (rw z at t)) in
            let c : K - d ≡ n = omega arith in
            let p : whole accept l n d h ≡ some e.value = rw (z, g, c) at (map.wholes e m).1 in
            let q = is_whole accept l n d h x w in
            entry-is e d h x z g (cc)

    -- A whole child lies in an entry that its parent lies in too, or is an entry.
    parent_lies_in : (n d h i : ℕ) (x : A) → suc d + n ≡ K → i < 4 → Whole accept l n (suc d) (4 * h + i) x → Any (LiesIn (suc d) (4 * h + i)) s
        → Any (LiesIn d h) s ⊎ Has s (child d h i x)
    parent_lies_in n d h i x k u w t =
        let f = Has-of_any _ s t in
        ⊎_elim
        (λ v. inl (Any-of_has _ s f.0 f.1 (sym (lies_in-through (suc d) (4 * h + i) d h _ _ (child_lies_in_parent d h i u) (le_of_suc-le-suc v)) ∙ f.2)))
        (λ q. inr (rw q at f.1))
        (above_or_same n (suc d) (4 * h + i) x f.0 k w f.1 f.2)

    -- Every whole cell lies in an entry.
    whole_lies_in : (n d h : ℕ) (x : A) → d + n ≡ K → Whole accept l n d h x → Any (LiesIn d h) s
    whole_lies_in n d h x k (by_list q) = map.holds (entry d h x) (listed_has l d h x q)
    whole_lies_in n d h x k (by_merging {n = m} {a = v0} {b = v1} {c = v2} {e = v3} u w0 w1 w2 w3 q) =
        let j : suc d + m ≡ K = omega arith in
        go
        (parent_lies_in m d h 0 v0 j (omega arith) w0 (whole_lies_in m (suc d) (4 * h + 0) v0 j w0))
        (parent_lies_in m d h 1 v1 j (omega arith) w1 (whole_lies_in m (suc d) (4 * h + 1) v1 j w1))
        (parent_lies_in m d h 2 v2 j (omega arith) w2 (whole_lies_in m (suc d) (4 * h + 2) v2 j w2))
        (parent_lies_in m d h 3 v3 j (omega arith) w3 (whole_lies_in m (suc d) (4 * h + 3) v3 j w3))
      where
        go : Any (LiesIn d h) s ⊎ Has s (child d h 0 v0) → Any (LiesIn d h) s ⊎ Has s (child d h 1 v1) → Any (LiesIn d h) s ⊎ Has s (child d h 2 v2) → Any (LiesIn d h) s ⊎ Has s (child d h 3 v3)
            → Any (LiesIn d h) s
        go (inl t) p1 p2 p3 = t
        go (inr m0) (inl t) p2 p3 = t
        go (inr m0) (inr m1) (inl t) p3 = t
        go (inr m0) (inr m1) (inr m2) (inl t) = t
        go (inr m0) (inr m1) (inr m2) (inr m3) = absurd (none-ne-some _ (sym (Settled-quad accept K d h v0 v1 v2 v3 0 (n_hash K) s map.falls map.settled m0 m1 m2 m3) ∙ q))

    -- No whole cell is above an entry.
    none_above : (e : Entry A) → Has s e → (a b : ℕ) → a < e.depth → lies_in e.depth e.hash a b ≡ true → (y : A) → whole accept l (K - a) a b ≡ some y → ⊥
    none_above e m a b u t y q =
        let low = (Falls-has K 0 (n_hash K) s e map.falls m).0 in
        let f = Has-of_any _ s (whole_lies_in (K - a) a b y (omega arith) (whole_is accept l _ _ _ _ q)) in
        let within = lies_in-within K e.depth e.hash _ _ low (lies_in-trans _ _ a b _ _ t f.2) in
        let same : e ≡ f.0 = Falls-same K 0 (n_hash K) s e f.0 map.falls m f.1 (omega (arith, within, range_of K e)) (omega (arith, within, range_of K e)) in
        let z : e.depth ≡ f.0.depth = ap (λ (c : Entry A). c.depth) same in
        omega (arith, ((lies_in-iff a b f.0.depth f.0.hash).0 f.2).0)

    -- The entries are all whole cells with no whole cell above them.
    Has-iff_top : (e : Entry A) → Has s e ↔ ((h : ℕ) × (h < 12) × Top accept K l 0 h e)
    Has-iff_top e = (there, λ t. back t.2)
      where
        there : Has s e → (h : ℕ) × (h < 12) × Top accept K l 0 h e
        there m =
            let r = Falls-in_range K 0 s e map.falls m in (
              e.hash / 4 ^ (e.depth - 0),
              base_lt e.depth e.hash r.1,
              record {
                inside = (lies_in-iff _ _ 0 _).1 (omega arith, refl);
                deep = r.0;
                is = (map.wholes e m).1;
                above = λ a b _. none_above e m a b;
              },
            )

        back : {h : ℕ} → Top accept K l 0 h e → Has s e
        back t =
            let w = whole_is accept l (K - e.depth) e.depth e.hash e.value t.is in
            let k : e.depth + (K - e.depth) ≡ K = omega (arith, t.deep) in
            let f = Has-of_any _ s (whole_lies_in (K - e.depth) e.depth e.hash e.value k w) in
            ⊎_elim
            (λ v. absurd (t.above f.0.depth f.0.hash (omega arith) v f.2 f.0.value (map.wholes f.0 f.1).1))
            (λ q. subst (Has s) q f.1)
            (above_or_same (K - e.depth) e.depth e.hash e.value f.0 k w f.1 f.2)

-- Adding the cells of a list that rises, one by one, to the empty map gives the defined map, last entry first.
pub run-gives_defined_map : {A : Type 0} (accept : Merger A) (K : ℕ) (l : List (Entry A)) → Rises K 0 (n_hash K) l → run accept [] l ≡ reverse (defined_map accept K l)
run-gives_defined_map accept K l r =
    let s = run accept [] l in
    let map = run-is_map accept K l r in
    sym (reverse-reverse s) ∙ ap reverse
    (Rises-unique K 0 (n_hash K) 0 (n_hash K) (reverse s) (defined_map accept K l) ((Falls-iff_rises K 0 (n_hash K) s).0 map.falls) (defined_map-rises accept K l)
    (λ e m. (defined_map-has accept K l e).1 ((Has-iff_top accept K l s map e).0 ((Any-reverse _ s).0 m)))
    (λ e m. (Any-reverse _ s).1 ((Has-iff_top accept K l s map e).1 ((defined_map-has accept K l e).0 m))))
