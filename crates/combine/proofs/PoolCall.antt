-- The pool call: what one that is not refused may rely on, what it leaves, and that it is the same with the maps swapped.
-- Assumes nothing.
use Rattle.std.specs.Prelude.{Result, Ok, Err}
use mathlib.Core.Path.{◌≡◌, refl, ap, ap₂, sym, ◌∙◌}
use mathlib.Core.Bool.{Bool, true, false, ◌||◌, not}
use mathlib.Core.List.{List, reverse, ◌++◌}
use mathlib.Core.Option.{none, some}
use Prim.Native.Nat.{ℕ, ◌+◌, ◌-◌, ◌≤◌, ◌<◌}
use native.Mathlib.Omega.{arith}
use lib.Dec.{eqb, ltb}
use lib.Ieee.{Float}
use lib.ListN.{length, take, replicate}
use borrow.Author.Tests.{lt-ltb, le-ltb, ltb-false}
use Rattle.zuniq.specs.Cells.{n_hash}
use Rattle.refusal.specs.declared.Refusal.{Refusal}
use Rattle.protection.specs.Protected.{protected_refusal, RisingList}
use Rattle.protection.proofs.Lists.{accepted_iff_rising_list}
use Rattle.merger.specs.Merge.{accept_counts}
use Rattle.merger.proofs.Accept.{accepted_count_is_sum}
use Rattle.build.specs.Map.{Entry}
use Rattle.build.specs.Buffers.{held, read_onto}
use Rattle.build.specs.Promises.{Rises}
use Rattle.build.specs.Calls.{Buffers, Answer}
use Rattle.build.specs.Standing.{Added}
use Rattle.build.specs.Add.{sum_of}
use Rattle.build.specs.Counts.{total_of, Report, count_calls, counts_added}
use Rattle.build.specs.declared.counts.Added.{Added as CountsAdded}
use Rattle.build.proofs.Entries.{total-reverse}
use Rattle.build.proofs.Places.{held-length}
use Rattle.refusal.proofs.Checks.{or_else_none, refused_if-none}
use Rattle.build.proofs.Accepted.{map_left}
use Rattle.combine.specs.Overlay.{overlay}
use Rattle.combine.specs.Rules.{kept, split_count, pool_rule, defined_pool}
use Rattle.combine.specs.Pool.{Given, entries, result_depth, settings_refusal, pairs_refusal, maps_refusal, sums_refusal, places_refusal, pool_kept, pool_input_refusal, pool_refusal, pool_over, pool_counts}
use Rattle.combine.proofs.Kept.{run-gives_combined, kept-swapped, pool_rule-swapped, pool_swap, pool_total}
use Rattle.combine.proofs.Swap.{overlay-swap}
use Rattle.combine.proofs.Given.{entries_total}
use Rattle.combine.proofs.Passed.{Passed, passed, kept-deeper, combined-deeper}

pub pool_input_passes : (P : List ℕ) (l r : Given ℕ) (M : ℕ) (T : Float) (places values : ℕ) → pool_input_refusal P l r M T places values ≡ none
    → Passed l r places values × (sum_of l.values + sum_of r.values ≤ 4294967295) × RisingList P
unfolding pool_input_refusal sums_refusal
pool_input_passes P l r M T places values e =
    let a = or_else_none (settings_refusal l.depth r.depth M T) _ e in
    let p = or_else_none (protected_refusal 29 P) _ a.1 in
    let b = or_else_none (pairs_refusal (length l.zuniqs) (length l.values) (length r.zuniqs) (length r.values) places values) _ p.1 in
    let c = or_else_none (maps_refusal l r) _ b.1 in
    (passed l r M T places values a.0 b.0 c.0, ltb-false _ _ (refused_if-none _ _ c.1), ((accepted_iff_rising_list 29 P).0 p.0).rising)

-- The totals of two maps that pass are the sums of their counts.
pub Passed-total : (l r : Given ℕ) (places values : ℕ) → Passed l r places values → total_of (entries l) + total_of (entries r) ≡ sum_of l.values + sum_of r.values
Passed-total l r places values p = ap₂ ◌+◌ (entries_total l.depth l.zuniqs l.values p.left_paired p.left_valid) (entries_total r.depth r.zuniqs r.values p.right_paired p.right_valid)

-- What a walk that merges leaves, with every place after it cleared, told by the definition over all depths that there are.
module _ (P : List ℕ) (l r : List (Entry ℕ)) (p : Rises 29 0 (n_hash 29) l) (q : Rises 29 0 (n_hash 29) r) (M : ℕ) (T : Float) (zs vs : List ℕ) where
  pub pool_left : (n sum : ℕ) (zs₁ vs₁ zs₂ vs₂ : List ℕ) → Added (accept_counts 29 P M T) 29 0 (kept pool_rule (overlay split_count 29 l r)) zs vs n zs₁ vs₁
      → length zs₁ ≡ length zs → length vs₁ ≡ length vs → zs₂ ≡ take n zs₁ ++ replicate (length zs₁ - n) 0 → vs₂ ≡ take n vs₁ ++ replicate (length vs₁ - n) 0
      → total_of l + total_of r ≡ sum → (Ok (record { entries = n; total = sum }), zs₂, vs₂) ≡ pool_over P 29 none l r M T zs vs
  unfolding pool_over held read_onto
  pool_left n sum zs₁ vs₁ zs₂ vs₂ w lz lv ez ev es =
      let accept = accept_counts 29 P M T in
      let pool = defined_pool accept 29 l r in
      let is : held 29 n zs₁ vs₁ ≡ reverse pool = w.is ∙ run-gives_combined pool_rule accept split_count 29 l r in
      let k : n ≡ length (held 29 n zs₁ vs₁) = sym (held-length 29 0 n zs₁ vs₁ w.stands) in
      let t : sum ≡ total_of (held 29 n zs₁ vs₁) =
      sym es ∙ sym (pool_total 29 l r p q accept (λ d h k0 k1 k2 k3 x y. accepted_count_is_sum 29 P M T d h k0 k1 k2 k3 x y)) ∙ sym (total-reverse (λ x. x) pool) ∙ sym (ap total_of is) in
      ap₂ (λ (k t : ℕ). (Ok (record { entries = k; total = t }), zs₂, vs₂)) k t
      ∙ ap (λ (u : Buffers ℕ × Answer Refusal Report). (counts_added u.1, u.0.zuniqs, u.0.values)) (map_left (count_calls 29 P 29 M T) 0 (record { number = 0; zuniqs = zs; values = vs }) (reverse pool) n zs₁ vs₁ zs₂ vs₂ w.stands is lz lv ez ev)

-- The same where the cells are counted: there is too little space, or the pool is made.
module _ (P : List ℕ) (l r : List (Entry ℕ)) (M : ℕ) (T : Float) (zs vs : List ℕ) (cells : ℕ) (c : cells ≡ length (kept pool_rule (overlay split_count 29 l r))) where
  abbrev walked : List (Entry ℕ)
  walked = kept pool_rule (overlay split_count 29 l r)

  pub pool_no_space : length zs < cells → (Err Refusal.NoSpace, zs, vs) ≡ pool_over P 29 (places_refusal (length zs) (length walked)) l r M T zs vs
  unfolding pool_over places_refusal
  pool_no_space u = rw (lt-ltb (length zs) (length walked) (omega (arith, u, c))) refl

  pub pool_made : Rises 29 0 (n_hash 29) l → Rises 29 0 (n_hash 29) r → cells ≤ length zs → (n sum : ℕ) (zs₁ vs₁ zs₂ vs₂ : List ℕ) → Added (accept_counts 29 P M T) 29 0 walked zs vs n zs₁ vs₁
      → length zs₁ ≡ length zs → length vs₁ ≡ length vs → zs₂ ≡ take n zs₁ ++ replicate (length zs₁ - n) 0 → vs₂ ≡ take n vs₁ ++ replicate (length vs₁ - n) 0
      → total_of l + total_of r ≡ sum → (Ok (record { entries = n; total = sum }), zs₂, vs₂) ≡ pool_over P 29 (places_refusal (length zs) (length walked)) l r M T zs vs
  unfolding places_refusal
  pool_made p q u n sum zs₁ vs₁ zs₂ vs₂ w lz lv ez ev es =
      rw (le-ltb (length zs) (length walked) (omega (arith, u, c))) (pool_left P l r p q M T zs vs n sum zs₁ vs₁ zs₂ vs₂ w lz lv ez ev es)

-- ---- the maps swapped
or_swap : (a b c : Bool) → (a || (b || c)) ≡ (b || (a || c))
or_swap true true c = refl
or_swap true false c = refl
or_swap false b c = refl

or_swap_two : (a b : Bool) → (a || b) ≡ (b || a)
or_swap_two true true = refl
or_swap_two true false = refl
or_swap_two false true = refl
or_swap_two false false = refl

module _ (P : List ℕ) (l r : Given ℕ) (M : ℕ) (T : Float) where
  pub pool_cells_swapped : pool_kept r l ≡ pool_kept l r
  pool_cells_swapped =
      let c : result_depth r l ≡ result_depth l r = omega arith in
      ap (λ (K : ℕ). kept pool_rule (overlay split_count K (entries r) (entries l))) c
      ∙ ap (kept pool_rule) (overlay-swap split_count (entries l) (entries r) (result_depth l r)) ∙ kept-swapped pool_rule pool_rule-swapped (overlay split_count (result_depth l r) (entries l) (entries r))

  pub pool_input_swapped : (places values : ℕ) → maps_refusal l r ≡ none → maps_refusal r l ≡ none → pool_input_refusal P r l M T places values ≡ pool_input_refusal P l r M T places values
  unfolding pool_input_refusal settings_refusal pairs_refusal sums_refusal
  pool_input_swapped places values a b =
      let s : sum_of r.values + sum_of l.values ≡ sum_of l.values + sum_of r.values = omega arith in
      rw (a, b, or_swap_two (ltb 29 r.depth) (ltb 29 l.depth), or_swap (not (eqb (length r.zuniqs) (length r.values))) (not (eqb (length l.zuniqs) (length l.values))) (not (eqb places values)), s) refl

  pool_refusal-swapped : (places values : ℕ) → maps_refusal l r ≡ none → maps_refusal r l ≡ none → pool_refusal P r l M T places values ≡ pool_refusal P l r M T places values
  unfolding pool_refusal
  pool_refusal-swapped places values a b = rw (pool_input_swapped places values a b, pool_cells_swapped) refl

  -- "Swapped, with all else handed in alike, they give the same answer and output": of two maps that the check passes.
  pub pool_call_swapped : (zs vs : List ℕ) → maps_refusal l r ≡ none → maps_refusal r l ≡ none → pool_counts P r l M T zs vs ≡ pool_counts P l r M T zs vs
  unfolding pool_counts pool_over
  pool_call_swapped zs vs a b =
      let c : result_depth r l ≡ result_depth l r = omega arith in
      rw (c, pool_refusal-swapped (length zs) (length vs) a b, pool_swap (result_depth l r) (entries l) (entries r) (accept_counts 29 P M T)) refl

-- ---- the call
module _ (P : List ℕ) (l r : Given ℕ) (M : ℕ) (T : Float) (zs vs : List ℕ) where
  pub pool_refused : (x : Refusal) → pool_input_refusal P l r M T (length zs) (length vs) ≡ some x → (Err x, zs, vs) ≡ pool_counts P l r M T zs vs
  unfolding pool_counts pool_refusal pool_over
  pool_refused x e = rw e refl

  pub pool_done : pool_input_refusal P l r M T (length zs) (length vs) ≡ none → (t : Result CountsAdded Refusal × List ℕ × List ℕ)
      → t ≡ pool_over P 29 (places_refusal (length zs) (length (kept pool_rule (overlay split_count 29 (entries l) (entries r))))) (entries l) (entries r) M T zs vs → t ≡ pool_counts P l r M T zs vs
  unfolding pool_counts pool_refusal pool_over
  pool_done e t q =
      let p = (pool_input_passes P l r M T (length zs) (length vs) e).0 in
      rw e (q ∙ rw (kept-deeper l r _ _ p split_count pool_rule, combined-deeper l r _ _ p split_count pool_rule (accept_counts 29 P M T)) refl)
