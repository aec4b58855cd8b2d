-- Asking for a pool and committing it: what the two calls may rely on and what they answer, that a pool is an ask followed by its commit,
-- and what the figures of an ask are good for. Assumes nothing.
use Rattle.std.specs.Prelude.{Result, Ok, Err}
use mathlib.Core.Path.{◌≡◌, refl, ap, ap₂, sym, ◌∙◌}
use mathlib.Core.Bool.{Bool, true, false}
use mathlib.Core.List.{List, []}
use mathlib.Core.Logic.{◌⊎◌, inl, inr, ◌↔◌}
use mathlib.Core.Option.{Option, none, some}
use Prim.Native.Nat.{ℕ, ◌+◌, ◌≤◌, ◌<◌}
use native.Mathlib.Omega.{arith}
use lib.Dec.{eqb}
use lib.Ieee.{Float}
use lib.ListN.{length, length-reverse}
use borrow.Author.Tests.{lt-ltb, le-ltb, eqb-true, eq-eqb, not-false}
use Rattle.zuniq.proofs.Basics.{and_is_true}
use Rattle.refusal.specs.declared.Refusal.{Refusal}
use Rattle.refusal.proofs.Checks.{passed_of_ok, some_of_err, or_else_none, refused_if-none}
use Rattle.protection.specs.Protected.{RisingList}
use Rattle.merger.specs.Merge.{accept_counts}
use Rattle.merger.proofs.Accept.{accepted_count_is_sum}
use Rattle.build.specs.Map.{Merger}
use Rattle.build.specs.Stack.{run}
use Rattle.build.specs.Add.{sum_of}
use Rattle.build.specs.Counts.{total_of}
use Rattle.refusal.specs.Checks.{ok_unless}
use Rattle.build.specs.declared.counts.Added.{Added}
use Rattle.build.proofs.DefinedMap.{defined_map-length}
use Rattle.build.proofs.Entries.{total-reverse}
use Rattle.combine.specs.Overlay.{overlay}
use Rattle.combine.specs.Rules.{kept, combined, split_count, pool_rule, defined_pool}
use Rattle.combine.specs.Counts.{pool_cells}
use Rattle.combine.specs.Pool.{Given, entries, result_depth, pairs_refusal, maps_refusal, places_refusal, pool_kept, pool_input_refusal, pool_refusal, pool_over, pool_counts}
use Rattle.combine.specs.Ask.{ask_refusal, figures_of, ask_counts, same_figures, figures_refusal, commit_refusal, commit_counts, committed}
use Rattle.combine.specs.declared.counts.Figures.{Figures}
use Rattle.combine.proofs.Kept.{run-gives_combined, kept-overlay_rises, pool_keeps_length, pool_swap, pool_total}
use Rattle.combine.proofs.Passed.{Passed, left_rises, right_rises, kept-deeper, combined-deeper}
use Rattle.combine.proofs.PoolCall.{pool_input_passes, pool_input_swapped, pool_cells_swapped, Passed-total, pool_refused, pool_done}

-- ---- figures
-- Figures are the same as themselves,
pub same_as_itself : (f : Figures) → same_figures f f ≡ true
same_as_itself f = rw (eq-eqb f.cells f.cells refl, eq-eqb f.entries f.entries refl, eq-eqb f.total f.total refl)

-- and as no others.
pub same_figures_lem : (f g : Figures) → same_figures f g ≡ true → f ≡ g
same_figures_lem f g e =
    let a = and_is_true (eqb f.cells g.cells) _ e in
    let b = and_is_true (eqb f.entries g.entries) _ a.1 in
    let c = eqb-true f.cells g.cells a.0 in
    let n = eqb-true f.entries g.entries b.0 in
    let t = eqb-true f.total g.total b.1 in
    λ i. record { cells = c i; entries = n i; total = t i }

-- ---- two maps that pass
-- the figures that a walk finds: it goes over all depths that there are
abbrev found_figures : List ℕ → Given ℕ → Given ℕ → ℕ → Float → ℕ → Figures
found_figures P l r M T total =
    let cells = pool_cells l.zuniqs l.values r.zuniqs r.values in
    record { cells = length cells; entries = length (run (accept_counts 29 P M T) [] cells); total = total }

module _ (P : List ℕ) (l r : Given ℕ) (M : ℕ) (T : Float) (places values : ℕ) (e : pool_input_refusal P l r M T places values ≡ none) where
  abbrev accept : Merger ℕ
  accept = accept_counts 29 P M T

  pass : Passed l r places values
  pass = (pool_input_passes P l r M T places values e).0

  -- The walk sees as many cells as the overlay has,
  cells_found : length (pool_cells l.zuniqs l.values r.zuniqs r.values) ≡ (figures_of P l r M T).cells
  unfolding figures_of
  cells_found = ap length (kept-deeper l r _ _ pass split_count pool_rule) ∙ pool_keeps_length (overlay split_count (result_depth l r) (entries l) (entries r))

  -- merging them makes as many entries as the pool has,
  entries-found : length (run accept [] (pool_cells l.zuniqs l.values r.zuniqs r.values)) ≡ (figures_of P l r M T).entries
  unfolding figures_of
  entries-found =
      ap length (run-gives_combined pool_rule accept split_count 29 (entries l) (entries r)) ∙ length-reverse (defined_pool accept 29 (entries l) (entries r))
      ∙ ap length (combined-deeper l r _ _ pass split_count pool_rule accept)

  -- and the two sums together are the pool's total.
  total_found : sum_of l.values + sum_of r.values ≡ (figures_of P l r M T).total
  unfolding figures_of
  total_found =
      sym (Passed-total l r places values pass)
      ∙ sym (pool_total 29 (entries l) (entries r) (left_rises l r _ _ pass) (right_rises l r _ _ pass) accept (λ d h k0 k1 k2 k3 x y. accepted_count_is_sum 29 P M T d h k0 k1 k2 k3 x y))
      ∙ ap total_of (combined-deeper l r _ _ pass split_count pool_rule accept)

  -- So what a walk finds are the figures, over the depth of the result.
  figures_found : found_figures P l r M T (sum_of l.values + sum_of r.values) ≡ figures_of P l r M T
  figures_found = λ i. record { cells = cells_found i; entries = entries-found i; total = total_found i }

  -- The maps pass, and their counts are the total that the check answers.
  pub asked_passed : Passed l r places values
  asked_passed = pass

  module _ (sum : ℕ) (t : sum ≡ sum_of l.values + sum_of r.values) where
    pub asked_total : total_of (entries l) + total_of (entries r) ≡ sum
    asked_total = Passed-total l r places values pass ∙ sym t

    -- What the walk finds are the figures,
    pub walk_found : (f : Figures) → f ≡ found_figures P l r M T sum → f ≡ figures_of P l r M T
    walk_found f q = q ∙ ap (found_figures P l r M T) t ∙ figures_found

    -- and what it finds is answered.
    pub asked_found : (f : Figures) → f ≡ found_figures P l r M T sum → Ok f ≡ ok_unless (pool_input_refusal P l r M T places values) (figures_of P l r M T)
    asked_found f q = rw e (ap Ok (walk_found f q))

-- ---- the call `commit`
module _ (P : List ℕ) (l r : Given ℕ) (M : ℕ) (T : Float) (f : Figures) (zs vs : List ℕ) where
  -- With the figures of the two maps a commit is a pool.
  same_is_pool : same_figures f (figures_of P l r M T) ≡ true → commit_counts P l r M T f zs vs ≡ pool_counts P l r M T zs vs
  unfolding commit_counts commit_refusal figures_refusal pool_counts pool_refusal
  same_is_pool s = rw s refl

  -- With others it is refused by 16, if by nothing that is tried before,
  other_differs : pool_input_refusal P l r M T (length zs) (length vs) ≡ none → same_figures f (figures_of P l r M T) ≡ false
      → (Err Refusal.FiguresDiffer, zs, vs) ≡ commit_counts P l r M T f zs vs
  unfolding commit_counts commit_refusal figures_refusal pool_over
  other_differs e s = rw (e, s) refl

  -- and that is tried first.
  pub input_refused : (x : Refusal) → pool_input_refusal P l r M T (length zs) (length vs) ≡ some x → (Err x, zs, vs) ≡ commit_counts P l r M T f zs vs
  unfolding commit_counts commit_refusal pool_over
  input_refused x e = rw e refl

  -- g is what was found: other figures are refused, and with these there is too little space, or the pool is made.
  module _ (g : Figures) (e : pool_input_refusal P l r M T (length zs) (length vs) ≡ none) (a : g ≡ figures_of P l r M T) where
    pub commit_differs : same_figures f g ≡ false → (Err Refusal.FiguresDiffer, zs, vs) ≡ commit_counts P l r M T f zs vs
    commit_differs s = other_differs e (ap (same_figures f) (sym a) ∙ s)

    pub commit_cells : g.cells ≡ length (pool_cells l.zuniqs l.values r.zuniqs r.values)
    commit_cells = ap (λ (g : Figures). g.cells) a ∙ sym (cells_found P l r M T (length zs) (length vs) e)

    pub commit_done : same_figures f g ≡ true → (made : Result Added Refusal × List ℕ × List ℕ)
        → made ≡ pool_over P 29 (places_refusal (length zs) (length (pool_cells l.zuniqs l.values r.zuniqs r.values))) (entries l) (entries r) M T zs vs → made ≡ commit_counts P l r M T f zs vs
    commit_done s made q = pool_done P l r M T zs vs e made q ∙ sym (same_is_pool (ap (same_figures f) (sym a) ∙ s))

-- ---- ask and commit
module _ (P : List ℕ) (l r : Given ℕ) (M : ℕ) (T : Float) where
  -- Output buffers of one length are as good as none.
  pub input_as_asked : (places values : ℕ) → places ≡ values → pool_input_refusal P l r M T places values ≡ ask_refusal P l r M T
  unfolding pool_input_refusal pairs_refusal
  input_as_asked places values q = rw (eq-eqb places values q) refl

  -- An ask that is answered is not refused, and answers the figures.
  pub answered_ask : (f : Figures) → ask_counts P l r M T ≡ Ok f → (ask_refusal P l r M T ≡ none) × (f ≡ figures_of P l r M T)
  unfolding ask_counts
  answered_ask f a = let p = passed_of_ok (ask_refusal P l r M T) (figures_of P l r M T) f a in (p.0, sym p.1)

  -- So its figures pass.
  asked_same : (f : Figures) → ask_counts P l r M T ≡ Ok f → same_figures f (figures_of P l r M T) ≡ true
  asked_same f a = ap (same_figures f) (sym (answered_ask f a).1) ∙ same_as_itself f

  -- "Commit takes those figures with the same inputs and pools."
  pub commit_of_asked : (f : Figures) (zs vs : List ℕ) → ask_counts P l r M T ≡ Ok f → commit_counts P l r M T f zs vs ≡ pool_counts P l r M T zs vs
  commit_of_asked f zs vs a = same_is_pool P l r M T f zs vs (asked_same f a)

  -- "The old single call stays and, where its output buffers are of equal length, equals an ask followed by its commit, in its refusals too."
  pub pool_is_ask_then_commit : (zs vs : List ℕ) → length zs ≡ length vs → pool_counts P l r M T zs vs ≡ committed P l r M T zs vs (ask_counts P l r M T)
  unfolding ask_counts
  pool_is_ask_then_commit zs vs q = go (ask_refusal P l r M T) refl
    where
      go : (o : Option Refusal) → ask_refusal P l r M T ≡ o → pool_counts P l r M T zs vs ≡ committed P l r M T zs vs (ok_unless o (figures_of P l r M T))
      go none e = sym (same_is_pool P l r M T (figures_of P l r M T) zs vs (same_as_itself (figures_of P l r M T)))
      go (some x) e = sym (pool_refused P l r M T zs vs x (input_as_asked (length zs) (length vs) q ∙ e))

  -- ---- other figures
  -- "16, the figures are not those an ask would answer": past the checks of the input, 16 lets the figures of an ask pass and no others.
  pub figures_pass_iff : (f : Figures) → ask_refusal P l r M T ≡ none → (figures_refusal P l r M T f ≡ none) ↔ (ask_counts P l r M T ≡ Ok f)
  unfolding figures_refusal ask_counts
  figures_pass_iff f e = (
    λ q. rw e (ap Ok (sym (same_figures_lem f (figures_of P l r M T) (not-false _ (refused_if-none _ _ q))))),
    λ a. rw (asked_same f a) refl,
  )

  -- A commit that is not refused was given the figures of an ask.
  pub committed_is_asked : (f : Figures) (places values : ℕ) → commit_refusal P l r M T f places values ≡ none → ask_counts P l r M T ≡ Ok f
  unfolding commit_refusal
  committed_is_asked f places values e =
      let a = or_else_none (pool_input_refusal P l r M T places values) _ e in
      let b = or_else_none (figures_refusal P l r M T f) _ a.1 in
      (figures_pass_iff f (sym (input_as_asked places values (pool_input_passes P l r M T places values a.0).0.paired) ∙ a.0)).0 b.0

  -- Nor would the pool be refused.
  pub committed_passes : (f : Figures) (places values : ℕ) → commit_refusal P l r M T f places values ≡ none → pool_refusal P l r M T places values ≡ none
  unfolding commit_refusal pool_refusal
  committed_passes f places values e =
      let a = or_else_none (pool_input_refusal P l r M T places values) _ e in
      let b = or_else_none (figures_refusal P l r M T f) _ a.1 in
      rw a.0 b.1

  -- Whatever the figures, a commit does what the pool does, or refuses by 16 and leaves the output.
  pub commit_is_pool_or_differs : (f : Figures) (zs vs : List ℕ)
      → (commit_counts P l r M T f zs vs ≡ pool_counts P l r M T zs vs) ⊎ (commit_counts P l r M T f zs vs ≡ (Err Refusal.FiguresDiffer, zs, vs))
  commit_is_pool_or_differs f zs vs = go (pool_input_refusal P l r M T (length zs) (length vs)) refl (same_figures f (figures_of P l r M T)) refl
    where
      go : (o : Option Refusal) → pool_input_refusal P l r M T (length zs) (length vs) ≡ o → (b : Bool) → same_figures f (figures_of P l r M T) ≡ b
          → (commit_counts P l r M T f zs vs ≡ pool_counts P l r M T zs vs) ⊎ (commit_counts P l r M T f zs vs ≡ (Err Refusal.FiguresDiffer, zs, vs))
      go (some x) e b s = inl (sym (input_refused P l r M T f zs vs x e) ∙ pool_refused P l r M T zs vs x e)
      go none e true s = inl (same_is_pool P l r M T f zs vs s)
      go none e false s = inr (sym (other_differs P l r M T f zs vs e s))

  -- ---- what the figures are good for
  -- Merging makes no more entries than there are cells.
  figures_few_of : (figures_of P l r M T).entries ≤ (figures_of P l r M T).cells
  unfolding figures_of combined
  figures_few_of =
      let K = result_depth l r in
      let o = overlay split_count K (entries l) (entries r) in
      omega (arith, defined_map-length (accept_counts 29 P M T) K (kept pool_rule o) (kept-overlay_rises pool_rule (accept_counts 29 P M T) split_count K (entries l) (entries r)), pool_keeps_length o)

  pub figures_few : (f : Figures) → ask_counts P l r M T ≡ Ok f → f.entries ≤ f.cells
  figures_few f a = rw (answered_ask f a).1 figures_few_of

  -- Space is judged by the number of overlay cells,
  asked_space : (f : Figures) (places values : ℕ) → ask_counts P l r M T ≡ Ok f → places ≡ values → commit_refusal P l r M T f places values ≡ places_refusal places f.cells
  unfolding commit_refusal figures_refusal figures_of
  asked_space f places values a q =
      let c : length (pool_kept l r) ≡ f.cells = pool_keeps_length (overlay split_count (result_depth l r) (entries l) (entries r)) ∙ sym (ap (λ (g : Figures). g.cells) (answered_ask f a).1) in
      rw (input_as_asked places values q, (answered_ask f a).0, asked_same f a, c) refl

  -- and what is made has the entries and the total that were asked for.
  made_as_asked : (zs vs : List ℕ) → (pool_over P (result_depth l r) none (entries l) (entries r) M T zs vs).0 ≡ Ok (record { entries = (figures_of P l r M T).entries; total = (figures_of P l r M T).total })
  unfolding pool_over figures_of
  made_as_asked zs vs =
      let pool = defined_pool (accept_counts 29 P M T) (result_depth l r) (entries l) (entries r) in
      ap₂ (λ (n t : ℕ). Ok (record { entries = n; total = t })) (length-reverse pool) (total-reverse (λ n. n) pool)

  -- "Operators want the cost of a pool before they give up a buffer": buffers with as many places as cells were answered suffice,
  pub asked_places_suffice : (f : Figures) (zs vs : List ℕ) → ask_counts P l r M T ≡ Ok f → length zs ≡ length vs → f.cells ≤ length zs
      → (commit_counts P l r M T f zs vs).0 ≡ Ok (record { entries = f.entries; total = f.total })
  unfolding commit_counts places_refusal
  asked_places_suffice f zs vs a q u =
      rw (asked_space f (length zs) (length vs) a q, le-ltb (length zs) f.cells u)
      (made_as_asked zs vs ∙ sym (ap (λ (g : Figures). Ok (record { entries = g.entries; total = g.total })) (answered_ask f a).1))

  -- and with a place fewer, or more than one, the commit is refused by 11.
  pub fewer_places_refused : (f : Figures) (zs vs : List ℕ) → ask_counts P l r M T ≡ Ok f → length zs ≡ length vs → length zs < f.cells
      → commit_counts P l r M T f zs vs ≡ (Err Refusal.NoSpace, zs, vs)
  unfolding commit_counts places_refusal pool_over
  fewer_places_refused f zs vs a q u = rw (asked_space f (length zs) (length vs) a q, lt-ltb (length zs) f.cells u) refl

  -- ---- the maps swapped
  -- The figures are those of either order,
  figures_swapped : figures_of P r l M T ≡ figures_of P l r M T
  unfolding figures_of
  figures_swapped =
      let K : result_depth r l ≡ result_depth l r = omega arith in
      let cells : length (overlay split_count (result_depth r l) (entries r) (entries l)) ≡ length (overlay split_count (result_depth l r) (entries l) (entries r)) =
      sym (pool_keeps_length (overlay split_count (result_depth r l) (entries r) (entries l))) ∙ ap length (pool_cells_swapped P l r M T) ∙ pool_keeps_length (overlay split_count (result_depth l r) (entries l) (entries r)) in
      rw (cells, K, pool_swap (result_depth l r) (entries l) (entries r) (accept_counts 29 P M T)) refl

  -- and so, of two maps that the check passes, are the ask
  pub ask_swapped : maps_refusal l r ≡ none → maps_refusal r l ≡ none → ask_counts P r l M T ≡ ask_counts P l r M T
  unfolding ask_counts
  ask_swapped a b = rw (pool_input_swapped P l r M T 0 0 a b, figures_swapped) refl

  -- and the commit of any figures.
  pub commit_swapped : (f : Figures) (zs vs : List ℕ) → maps_refusal l r ≡ none → maps_refusal r l ≡ none → commit_counts P r l M T f zs vs ≡ commit_counts P l r M T f zs vs
  unfolding commit_counts commit_refusal figures_refusal pool_over
  commit_swapped f zs vs a b =
      let K : result_depth r l ≡ result_depth l r = omega arith in
      rw (pool_input_swapped P l r M T (length zs) (length vs) a b, figures_swapped, pool_cells_swapped P l r M T, K, pool_swap (result_depth l r) (entries l) (entries r) (accept_counts 29 P M T)) refl
