-- Note 11 of 02, "protection now comes first": what it changed, and that "every list that protects no blank quad's parent gives its former
-- map", against the merger before it (specs/Former), for adding, pooling, asking and committing. Assumes nothing.
use mathlib.Core.Path.{◌≡◌, refl, ap, sym, ◌∙◌}
use mathlib.Core.Bool.{Bool, true, false}
use mathlib.Core.List.{List, [], ◌∷◌, ◌++◌, reverse, append-nil, append_assoc}
use mathlib.Core.Logic.{◌⊎◌, inl, inr, ⊎_map, ◌↔◌}
use mathlib.Core.Option.{Option, none, some}
use Prim.Native.Nat.{ℕ, ◌+◌, ◌≤◌, ◌<◌}
use native.Mathlib.Omega.{arith}
use lib.Ieee.{Float}
use lib.ListN.{length}
use borrow.Author.Tests.{le-leb}
use Rattle.refusal.specs.Checks.{ok_unless}
use Rattle.zuniq.specs.Cells.{n_hash}
use Rattle.zuniq.proofs.Basics.{le_or_lt}
use Rattle.protection.specs.Protected.{is_protected}
use Rattle.merger.specs.Floats.{0·0}
use Rattle.merger.specs.Merge.{merge_counts, merged, accept_counts}
use Rattle.merger.specs.declared.Merge.{Merge}
use Rattle.merger.proofs.Blank.{no_blank, not_blank, protected_blank_kept}
use Rattle.merger.proofs.Protected.{protected_accepts_no_count}
use Rattle.build.specs.Map.{Entry, Merger, defined_map}
use Rattle.build.specs.Buffers.{laid, zuniq_of, value_of}
use Rattle.build.specs.Promises.{Rises, WholeChildren}
use Rattle.build.specs.Calls.{Buffers, Batch, Answer, Calls, cells, add_calls, joined_cells, joined_map, judge, join_by, join_calls, left}
use Rattle.build.specs.Counts.{count_calls}
use Rattle.build.proofs.AnyMerger.{Alike, map_alike, children_alike, Alike-before, map_longer, maps_differ}
use Rattle.build.proofs.Calls.{Sound, joining, calls_do_as_joined, joined_batches_rise}
use Rattle.build.proofs.Sound.{count_calls-sound}
use Rattle.combine.specs.Rules.{combined, split_count, defined_pool}
use Rattle.combine.specs.Pool.{Given, entries, result_depth, pool_kept, pool_refusal, pool_over, pool_counts}
use Rattle.combine.specs.Ask.{ask_refusal, figures_of, ask_counts, figures_refusal, commit_refusal, commit_counts}
use Rattle.combine.specs.declared.counts.Figures.{Figures}
use Rattle.claims.specs.Demand3.{AddCalls, first, done, joined_list}
use Rattle.claims.specs.Former.{with_merger, merge_blank_first, accept_blank_first, NoBlankProtected, done_blank_first, pool_over_with, figures_by, commit_refusal_by}
use Rattle.claims.proofs.Demand3.{told, calls_are}

-- ---- the merger
module _ (K : ℕ) (P : List ℕ) (M : ℕ) (T : Float) (p h : ℕ) where
  blank_was_accepted : M ≤ p → accept_blank_first K P M T p h 0 0 0 0 ≡ some 0
  unfolding merge_blank_first accept_blank_first
  blank_was_accepted l = rw (le-leb M p l)

  -- "from parent depth M on, four zero counts with a listed parent were merged and now stay", with their chi, 0.
  pub blank_was_merged : M ≤ p → is_protected K P p h ≡ true → (merge_blank_first K P M T p h 0 0 0 0 ≡ Merge.Merged 0) × (merge_counts K P M T p h 0 0 0 0 ≡ Merge.Kept 0·0)
  unfolding merge_blank_first
  blank_was_merged l e = (rw (le-leb M p l), protected_blank_kept K P M T p h e)

  module _ (n0 n1 n2 n3 : ℕ) where
    -- All else is as it was: under a parent that is not listed, below M, and with a count above 0 among the four.
    pub merged_as_before : (is_protected K P p h ≡ false) ⊎ ((p < M) ⊎ (0 < n0 + n1 + n2 + n3)) → merge_counts K P M T p h n0 n1 n2 n3 ≡ merge_blank_first K P M T p h n0 n1 n2 n3
    unfolding merge_counts merge_blank_first
    merged_as_before (inl e) = rw e
    merged_as_before (inr s) = rw (no_blank M p n0 n1 n2 n3 (⊎_map (λ l. l) (not_blank n0 n1 n2 n3) s))

    -- What is accepted was accepted, with the same count.
    was_accepted : (n : ℕ) → accept_counts K P M T p h n0 n1 n2 n3 ≡ some n → accept_blank_first K P M T p h n0 n1 n2 n3 ≡ some n
    unfolding accept_blank_first
    was_accepted n a = go (is_protected K P p h) refl
      where
        go : (b : Bool) → is_protected K P p h ≡ b → merged (merge_blank_first K P M T p h n0 n1 n2 n3) ≡ some n
        go true e = let kept = protected_accepts_no_count K P M T p h n0 n1 n2 n3 e in cc
        go false e = ap merged (sym (merged_as_before (inl e))) ∙ (unfold accept_counts in a)

-- ---- the map
module _ (K : ℕ) (P : List ℕ) (M : ℕ) (T : Float) (D : ℕ) (l : List (Entry ℕ)) where
  -- Where the list protects no blank quad's parent both mergers make the same of any four whole children.
  four_as_before : (accept : Merger ℕ) → NoBlankProtected K P M accept D l → (d h n0 n1 n2 n3 : ℕ) → WholeChildren accept D l d h n0 n1 n2 n3 → merge_counts K P M T d h n0 n1 n2 n3 ≡ merge_blank_first K P M T d h n0 n1 n2 n3
  four_as_before accept free d h n0 n1 n2 n3 w = go (is_protected K P d h) refl (le_or_lt M d) (le_or_lt (n0 + n1 + n2 + n3) 0)
    where
      blank : is_protected K P d h ≡ true → M ≤ d → n0 + n1 + n2 + n3 ≤ 0 → ⊥
      blank e u z =
          let e0 : n0 ≡ 0 = omega arith in
          let e1 : n1 ≡ 0 = omega arith in
          let e2 : n2 ≡ 0 = omega arith in
          let e3 : n3 ≡ 0 = omega arith in
          free d h u e (rw (e0, e1, e2, e3) at w)

      go : (b : Bool) → is_protected K P d h ≡ b → (M ≤ d) ⊎ (d < M) → (n0 + n1 + n2 + n3 ≤ 0) ⊎ (0 < n0 + n1 + n2 + n3) → merge_counts K P M T d h n0 n1 n2 n3 ≡ merge_blank_first K P M T d h n0 n1 n2 n3
      go false e u s = merged_as_before K P M T d h n0 n1 n2 n3 (inl e)
      go true e (inr u) s = merged_as_before K P M T d h n0 n1 n2 n3 (inr (inl u))
      go true e (inl u) (inr s) = merged_as_before K P M T d h n0 n1 n2 n3 (inr (inr s))
      go true e (inl u) (inl z) = absurd (blank e u z)

  pub alike : NoBlankProtected K P M (accept_counts K P M T) D l → Alike (accept_counts K P M T) (accept_blank_first K P M T) D l
  unfolding accept_counts accept_blank_first
  alike free d h n0 n1 n2 n3 w = ap merged (four_as_before (accept_counts K P M T) free d h n0 n1 n2 n3 w)

  Alike-back : NoBlankProtected K P M (accept_blank_first K P M T) D l → Alike (accept_blank_first K P M T) (accept_counts K P M T) D l
  unfolding accept_counts accept_blank_first
  Alike-back free d h n0 n1 n2 n3 w = ap merged (sym (four_as_before (accept_blank_first K P M T) free d h n0 n1 n2 n3 w))

  -- Whether it does is told by either merger alike.
  pub by_either_merger : NoBlankProtected K P M (accept_counts K P M T) D l ↔ NoBlankProtected K P M (accept_blank_first K P M T) D l
  by_either_merger = (
    λ free d h u e w. free d h u e ((children_alike (accept_counts K P M T) (accept_blank_first K P M T) D l (alike free) d h 0 0 0 0).1 w),
    λ free d h u e w. free d h u e ((children_alike (accept_blank_first K P M T) (accept_counts K P M T) D l (Alike-back free) d h 0 0 0 0).1 w),
  )

  -- "Every list that protects no blank quad's parent gives its former map."
  pub map_as_before : NoBlankProtected K P M (accept_counts K P M T) D l → defined_map (accept_counts K P M T) D l ≡ defined_map (accept_blank_first K P M T) D l
  map_as_before free = map_alike (accept_counts K P M T) (accept_blank_first K P M T) D l (alike free)

  -- And, over cells that rise, no other list does.
  pub map_differs : Rises D 0 (n_hash D) l → (d h : ℕ) → M ≤ d → is_protected K P d h ≡ true → WholeChildren (accept_counts K P M T) D l d h 0 0 0 0
      → defined_map (accept_counts K P M T) D l ≡ defined_map (accept_blank_first K P M T) D l → ⊥
  map_differs rises d h u e w =
      maps_differ (accept_counts K P M T) (accept_blank_first K P M T) (was_accepted K P M T) D l rises d h 0 0 0 0 0 w
      (λ n0 n1 n2 n3. protected_accepts_no_count K P M T d h n0 n1 n2 n3 e) (blank_was_accepted K P M T d h u)

  -- Any gives "the longer map", or one as long.
  pub map_no_shorter : length (defined_map (accept_blank_first K P M T) D l) ≤ length (defined_map (accept_counts K P M T) D l)
  map_no_shorter = map_longer (accept_counts K P M T) (accept_blank_first K P M T) l (was_accepted K P M T) D

-- ---- lists of add calls with another merger, of any value
module _ {A R X : Type 0} (g : Calls A R X) (accept : Merger A) where
  abbrev other : Calls A R X
  other = with_merger accept g

  -- both mergers make the same of any four whole children
  abbrev Same : List (Entry A) → Type 0
  Same l = Alike g.accept accept g.D l

  joined_map-alike : (j : Option (List (Entry A))) → Same (joined_cells g j) → joined_map g j ≡ joined_map other j
  joined_map-alike j same = ap reverse (map_alike g.accept accept g.D (joined_cells g j) same)

  left-alike : (b : Buffers A) (j : Option (List (Entry A))) → Same (joined_cells g j) → left g b j ≡ left other b j
  left-alike b none same = refl
  left-alike b (some l) same = rw (joined_map-alike (some l) same) refl

  module _ (zs vs : ℕ) where
    judged_alike : (j : Option (List (Entry A))) (c : Batch A) → Same (joined_cells g j) → judge g zs vs j c ≡ judge other zs vs j c
    unfolding judge
    judged_alike j c same = ap (λ (s : List (Entry A)). g.refusal (length s) zs vs (laid (zuniq_of g.largest) s) (laid value_of s) c) (joined_map-alike j same)

    -- The joined batches only grow,
    joined_more : (cs : List (Batch A)) (j : Option (List (Entry A))) → (m : List (Entry A)) × (joined_cells g (join_calls g zs vs j cs).0 ≡ joined_cells g j ++ m)
    unfolding join_calls
    joined_more [] j = ([], sym (append-nil (joined_cells g j)))
    joined_more (c ∷ cs) j = go (judge g zs vs j c) (λ k. joined_more cs k)
      where
        go : (o : Option R) → ((k : Option (List (Entry A))) → (m : List (Entry A)) × (joined_cells g (join_calls g zs vs k cs).0 ≡ joined_cells g k ++ m))
            → (m : List (Entry A)) × (joined_cells g (join_calls g zs vs (join_by g o j c).0 cs).0 ≡ joined_cells g j ++ m)
        go (some r) more = more j
        go none more = let t = more (some (joined_cells g j ++ cells g c)) in (cells g c ++ t.0, t.1 ∙ append_assoc (joined_cells g j) (cells g c) t.0)

    -- so that what is alike after the last call was so before each.
    Same-before : (cs : List (Batch A)) (j : Option (List (Entry A))) → let l = joined_cells g (join_calls g zs vs j cs).0 in Rises g.D 0 (n_hash g.D) l → Same l → Same (joined_cells g j)
    Same-before cs j rises same =
        let t = joined_more cs j in
        Alike-before g.D 0 (n_hash g.D) (joined_cells g j) t.0 (rw t.1 at rises) g.accept accept g.D (rw t.1 at same)

    joinings_alike : (cs : List (Batch A)) (j : Option (List (Entry A))) → let l = joined_cells g (join_calls g zs vs j cs).0 in Rises g.D 0 (n_hash g.D) l → Same l → join_calls g zs vs j cs ≡ join_calls other zs vs j cs
    unfolding join_calls
    joinings_alike [] j rises same = refl
    joinings_alike (c ∷ cs) j rises same =
        rw (← judged_alike j c (Same-before (c ∷ cs) j rises same)) (go (judge g zs vs j c) rises same (λ k. joinings_alike cs k))
      where
        -- the cells joined in the end, from k on
        final : Option (List (Entry A)) → List (Entry A)
        final k = joined_cells g (join_calls g zs vs k cs).0

        -- the first call, by its refusal, and the calls behind it
        calls : Calls A R X → Option R → Option (List (Entry A)) × List (Answer R X)
        calls k o = let t = join_calls k zs vs (join_by k o j c).0 cs in (t.0, (join_by k o j c).1 ∷ t.1)

        go : (o : Option R) → Rises g.D 0 (n_hash g.D) (final (join_by g o j c).0) → Same (final (join_by g o j c).0)
            → ((k : Option (List (Entry A))) → Rises g.D 0 (n_hash g.D) (final k) → Same (final k) → join_calls g zs vs k cs ≡ join_calls other zs vs k cs) → calls g o ≡ calls other o
        go (some r) rises same more = rw (more j rises same) refl
        go none rises same more =
            let k = some (joined_cells g j ++ cells g c) in
            rw (more k rises same, joined_map-alike k (Same-before cs k rises same)) refl

  -- Calls that differ in their merger alone leave and answer the same, where that makes no difference to four whole children of the batches joined.
  pub calls_alike : Sound g → (b : Buffers A) (cs : List (Batch A)) → Same (joined_cells g (joining g b none cs).0) → add_calls g (left g b none) cs ≡ add_calls other (left g b none) cs
  calls_alike sound b cs same =
      let j = joining g b none cs in
      calls_do_as_joined g sound b cs
      ∙ ap (λ (c : Buffers A). (c, j.1)) (left-alike b j.0 same)
      ∙ ap (λ (t : Option (List (Entry A)) × List (Answer R X)). (left other b t.0, t.1)) (joinings_alike (length b.zuniqs) (length b.values) cs none (joined_batches_rise g sound b cs) same)
      ∙ sym (calls_do_as_joined other sound b cs)

-- ---- the calls
-- Adding: every answer, m, and both buffers whole.
pub adding_as_before : (K : ℕ) (a : AddCalls) → NoBlankProtected K a.parents a.M (accept_counts K a.parents a.M a.T) a.D (joined_list K a) → done K a ≡ done_blank_first K a
adding_as_before K a free =
    let g = count_calls K a.parents a.D a.M a.T in
    let sound = count_calls-sound K a.parents a.D a.M a.T in
    calls_are K a.parents a.D a.M a.T (first a) a.batches
    ∙ ap told (calls_alike g (accept_blank_first K a.parents a.M a.T) sound (first a) a.batches (alike K a.parents a.M a.T a.D (joined_list K a) free))

module _ (P : List ℕ) (l r : Given ℕ) (M : ℕ) (T : Float) (free : NoBlankProtected 29 P M (accept_counts 29 P M T) (result_depth l r) (pool_kept l r)) where
  pooled_as_before : defined_pool (accept_counts 29 P M T) (result_depth l r) (entries l) (entries r) ≡ defined_pool (accept_blank_first 29 P M T) (result_depth l r) (entries l) (entries r)
  unfolding combined
  pooled_as_before = map_as_before 29 P M T (result_depth l r) (pool_kept l r) free

  -- A pool: its answer and the output.
  pub pool_as_before : (zs vs : List ℕ) → pool_counts P l r M T zs vs ≡ pool_over_with (accept_blank_first 29 P M T) split_count P (pool_refusal P l r M T (length zs) (length vs)) l r M T zs vs
  unfolding pool_counts pool_over pool_over_with
  pool_as_before zs vs = rw pooled_as_before refl

  figures_as_before : figures_of P l r M T ≡ figures_by (accept_blank_first 29 P M T) l r
  unfolding figures_of figures_by
  figures_as_before = rw pooled_as_before refl

  -- An ask: its figures.
  pub ask_as_before : ask_counts P l r M T ≡ ok_unless (ask_refusal P l r M T) (figures_by (accept_blank_first 29 P M T) l r)
  unfolding ask_counts
  ask_as_before = ap (ok_unless (ask_refusal P l r M T)) figures_as_before

  -- A commit: also by number 16.
  pub commit_as_before : (f : Figures) (zs vs : List ℕ)
      → commit_counts P l r M T f zs vs ≡ pool_over_with (accept_blank_first 29 P M T) split_count P (commit_refusal_by (accept_blank_first 29 P M T) P l r M T f (length zs) (length vs)) l r M T zs vs
  unfolding commit_counts commit_refusal figures_refusal commit_refusal_by pool_over pool_over_with
  commit_as_before f zs vs = rw (pooled_as_before, figures_as_before) refl
