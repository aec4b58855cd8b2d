-- Demand 3 holds of every list of count add calls, and of pooling two maps so made, in one call or asked before done. Assumes nothing.
use Rattle.std.specs.Prelude.{Result, Ok, Err}
use mathlib.Core.Path.{◌≡◌, refl, ap, ap₂, sym, ◌∙◌, subst}
use mathlib.Core.Bool.{true, false}
use mathlib.Core.List.{List, [], ◌∷◌, map, reverse, reverse-reverse}
use mathlib.Core.Logic.{◌↔◌, inl, inr, ⊎_elim}
use mathlib.Core.Option.{Option, none, some, some-ne-none}
use Prim.Native.Nat.{ℕ, ◌+◌, ◌≤◌, ◌<◌, max}
use native.Mathlib.Omega.{arith}
use lib.Ieee.{Float}
use lib.ListN.{length, take, length-reverse}
use Rattle.mom.specs.Map.{first_fault}
use Rattle.mom.proofs.Faults.{no_fault_iff_valid}
use Rattle.zuniq.specs.Cells.{n_hash, lies_in}
use Rattle.refusal.specs.declared.Refusal.{Refusal}
use Rattle.zuniq.proofs.Basics.{le_or_lt}
use Rattle.zuniq.proofs.Ranges.{lies_in-self, lies_in-same_depth}
use Rattle.protection.specs.Protected.{is_protected}
use Rattle.merger.specs.Merge.{accept_counts}
use Rattle.merger.proofs.Accept.{accept_counts-iff_merged, accepted_count_is_sum}
use Rattle.merger.proofs.Blank.{blank_merges}
use Rattle.build.specs.Map.{Entry}
use Rattle.build.specs.Add.{map_refusal}
use Rattle.build.specs.Stack.{run, child}
use Rattle.build.specs.Buffers.{zuniq_of, value_of, laid, zuniq_buffer, value_buffer, held}
use Rattle.build.specs.Promises.{Any, Has, Rises, Covers, Sums}
use Rattle.build.specs.Calls.{Buffers, Batch, Answer, Calls, cells, holding, answered, add_call, add_calls, joined_map, judge, join_by, join_calls, left}
use Rattle.build.specs.Counts.{total_of, Report, counts_added, count_calls, add_counts}
use Rattle.build.specs.declared.counts.Added.{Added as CountsAdded}
use Rattle.build.proofs.Entries.{total-reverse}
use Rattle.build.proofs.Rising.{Rises-has, Rises-in_range}
use Rattle.build.proofs.Order.{Rises-iff_ascends, Rises-deeper_iff}
use Rattle.build.proofs.Tops.{defined_map-rises}
use Rattle.build.proofs.DefinedMap.{defined_map-nil, defined_map-covers, defined_map-counts, no_acceptable_quad_left}
use Rattle.build.proofs.ValidMaps.{rising_is_valid}
use Rattle.build.proofs.Calls.{calls_do_as_joined, joined_batches_rise, joined_map_rises, joined_map-stands, joined_batches_depth}
use Rattle.build.proofs.Sound.{count_calls-sound}
use Rattle.build.proofs.BaseCells.{BaseCells-map}
use Rattle.combine.specs.Rules.{defined_pool}
use Rattle.combine.specs.Slices.{entries_of}
use Rattle.combine.specs.Pool.{entries, maps_refusal, pool_refusal, pool_over, pool_counts}
use Rattle.combine.specs.Ask.{ask_refusal, figures_of, ask_counts, commit_refusal, commit_counts}
use Rattle.combine.specs.declared.counts.Figures.{Figures}
use Rattle.combine.proofs.Kept.{pool_total}
use Rattle.combine.proofs.Given.{entries_laid}
use Rattle.combine.proofs.PoolCall.{pool_call_swapped}
use Rattle.combine.proofs.AskCall.{answered_ask, commit_of_asked, pool_is_ask_then_commit, committed_is_asked, committed_passes, ask_swapped, commit_swapped}
use Rattle.claims.specs.Demand3.{last_report, held_after, calls, AddCalls, first, done, due, joined_list, map_of, Claim, given, pool_of, PoolClaim, figures_due, CommitClaim}

pub mergers_sum : (K : ℕ) (P : List ℕ) (M : ℕ) (T : Float) → Sums (accept_counts K P M T) (λ n. n)
mergers_sum K P M T d h k0 k1 k2 k3 x q = accepted_count_is_sum K P M T d h k0 k1 k2 k3 x q

-- ---- the calls as their contract has them
abbrev pub told : Buffers ℕ × List (Answer Refusal Report) → Buffers ℕ × List (Result CountsAdded Refusal)
told t = (t.0, map counts_added t.1)

-- A list of calls of `add_counts`, each handed what the one before left and answered, is one of `add_call`.
module _ (K : ℕ) (P : List ℕ) (D M : ℕ) (T : Float) where
  abbrev counting : Calls ℕ Refusal Report
  counting = count_calls K P D M T

  pub calls_are : (b : Buffers ℕ) (cs : List (Batch ℕ)) → calls K P D M T b cs ≡ told (add_calls counting b cs)
  unfolding calls add_calls add_counts add_call
  calls_are b [] = refl
  calls_are b (c ∷ cs) =
      go (counting.refusal b.number (length b.zuniqs) (length b.values) (take b.number b.zuniqs) (take b.number b.values) c) (λ d. calls_are d cs)
    where
      made : List (Entry ℕ)
      made = run counting.accept (held K b.number b.zuniqs b.values) (cells counting c)

      -- the call, by its refusal, and the calls behind it
      first_call : Option Refusal → Buffers ℕ × List (Result CountsAdded Refusal)
      first_call o =
          let r = answered counting o b made in
          let more = calls K P D M T (record { number = held_after b.number (counts_added r.1); zuniqs = r.0.zuniqs; values = r.0.values }) cs in
          (more.0, counts_added r.1 ∷ more.1)

      go : (o : Option Refusal) → ((d : Buffers ℕ) → calls K P D M T d cs ≡ told (add_calls counting d cs)) → first_call o ≡ (let r = answered counting o b made in let t = add_calls counting r.0 cs in told (t.0, r.1 ∷ t.1))
      go none more = rw (more (holding counting b made)) refl
      go (some r) more = rw (more b) refl

-- ---- what is reported
-- The last report is that of the joined batches.
report_is_due : (g : Calls ℕ Refusal Report) (zs vs : ℕ) (j : Option (List (Entry ℕ))) (cs : List (Batch ℕ))
    → let x = g.report (joined_map g j) in let y = g.report (joined_map g (join_calls g zs vs j cs).0) in
    last_report x.entries x.sum (map counts_added (join_calls g zs vs j cs).1) ≡ (y.entries, y.sum)
unfolding join_calls last_report
report_is_due g zs vs j [] = refl
report_is_due g zs vs j (c ∷ cs) = go (judge g zs vs j c) (λ k. report_is_due g zs vs k cs)
  where
    Due : Option (List (Entry ℕ)) → List (Answer Refusal Report) → Option (List (Entry ℕ)) → Type 0
    Due k l m = let x = g.report (joined_map g k) in let y = g.report (joined_map g m) in last_report x.entries x.sum (map counts_added l) ≡ (y.entries, y.sum)

    go : (o : Option Refusal) → ((k : Option (List (Entry ℕ))) → Due k (join_calls g zs vs k cs).1 (join_calls g zs vs k cs).0)
        → Due j ((join_by g o j c).1 ∷ (join_calls g zs vs (join_by g o j c).0 cs).1) (join_calls g zs vs (join_by g o j c).0 cs).0
    go none more = more _
    go (some r) more = more j

-- ---- the cells covered
-- Cells of depth D are covered by cells of that depth exactly if they are among them.
Covers-iff_listed : (D h : ℕ) (l : List (Entry ℕ)) → ((e : Entry ℕ) → Has l e → e.depth ≡ D) → Covers l D h ↔ Any (λ c. c.hash ≡ h) l
Covers-iff_listed D h [] low = (λ m. m, λ m. m)
Covers-iff_listed D h (e ∷ l) low =
    let more = Covers-iff_listed D h l (λ c m. low c (inr m)) in
    let d = low e (inl refl) in
    (λ m. ⊎_elim (λ i. inl (sym (lies_in-same_depth D h e.hash (rw d at i)))) (λ k. inr (more.0 k)) m, λ m. ⊎_elim (λ q. inl (subst (λ (n : ℕ). lies_in D h e.depth n ≡ true) (sym q) (rw d (lies_in-self D h)))) (λ k. inr (more.1 k)) m)

-- ---- the claim
module _ (K : ℕ) (a : AddCalls) where
  abbrev g : Calls ℕ Refusal Report
  g = count_calls K a.parents a.D a.M a.T

  abbrev rising : Rises a.D 0 (n_hash a.D) (joined_list K a)
  rising = joined_batches_rise g (count_calls-sound K a.parents a.D a.M a.T) (first a) a.batches

  abbrev in_sky : Rises K 0 (n_hash K) (map_of K a)
  in_sky = joined_map_rises g (count_calls-sound K a.parents a.D a.M a.T) (first a) a.batches

  pub as_due : done K a ≡ (left g (first a) (due K a).0, (due K a).1)
  as_due =
      let joined = calls_do_as_joined g (count_calls-sound K a.parents a.D a.M a.T) (first a) a.batches in
      calls_are K a.parents a.D a.M a.T (first a) a.batches ∙ ap told joined

  report_is : last_report 0 0 (done K a).1 ≡ (length (map_of K a), total_of (map_of K a))
  report_is =
      let m = map_of K a in
      let start : joined_map g none ≡ [] = ap reverse (defined_map-nil (accept_counts K a.parents a.M a.T) a.D) in
      let due_is = report_is_due g (length a.zuniqs) (length a.counts) none a.batches in
      let last : last_report 0 0 (due K a).1 ≡ (length (reverse m), total_of (reverse m)) = rw start at due_is in
      ap (λ (t : Buffers ℕ × List (Result CountsAdded Refusal)). last_report 0 0 t.1) as_due ∙ last ∙ (λ i. (length-reverse m i, total-reverse (λ n. n) m i))

  pub add_calls_claim : Claim K a
  add_calls_claim =
      let accept = accept_counts K a.parents a.M a.T in
      record {
        as_due = as_due;
        valid = rising_is_valid K a.D (map_of K a) (λ e m. (Rises-has a.D 0 (n_hash a.D) (map_of K a) e (defined_map-rises accept a.D (joined_list K a)) m).0) in_sky;
        rises = (Rises-iff_ascends K (map_of K a)).0 in_sky;
        covers = λ h.
            let c = defined_map-covers accept a.D (joined_list K a) rising a.D h (omega arith) in
            let k = Covers-iff_listed a.D h (joined_list K a) (joined_batches_depth g (length a.zuniqs) (length a.counts) a.batches) in
            (λ m. k.0 (c.0 m), λ m. c.1 (k.1 m));
        sums = defined_map-counts accept a.D (joined_list K a) rising (λ n. n) (mergers_sum K a.parents a.M a.T);
        settled = no_acceptable_quad_left accept a.D (joined_list K a) rising;
        reported = report_is;
      }

  -- No four blank siblings remain whose parent's depth is at least M, whatever T is (note 4 of 02), unless it is protected (note 11).
  pub no_blank_siblings : (d h : ℕ) → is_protected K a.parents d h ≡ false → Has (map_of K a) (child d h 0 0) → Has (map_of K a) (child d h 1 0) → Has (map_of K a) (child d h 2 0) → Has (map_of K a) (child d h 3 0) → d < a.M
  no_blank_siblings d h free c0 c1 c2 c3 = ⊎_elim (λ l. absurd (merged l)) (λ l. l) (le_or_lt a.M d)
    where
      merged : a.M ≤ d → ⊥
      merged l = some-ne-none 0 (sym ((accept_counts-iff_merged K a.parents a.M a.T d h 0 0 0 0 0).1 (blank_merges K a.parents a.M a.T d h free l)) ∙ add_calls_claim.settled d h 0 0 0 0 c0 c1 c2 c3)

  -- At depth 0 the map is the accepted cells, joined.
  pub base_cells_joined : a.D ≡ 0 → map_of K a ≡ joined_list K a
  base_cells_joined q =
      BaseCells-map (accept_counts K a.parents a.M a.T) a.D q (joined_list K a) (λ e m. joined_batches_depth g (length a.zuniqs) (length a.counts) a.batches e m ∙ q) rising

-- ---- the map that goes into a pool
module _ (a : AddCalls) where
  given-stands : ((given a).zuniqs ≡ map (zuniq_of 29) (map_of 29 a)) × ((given a).values ≡ map value_of (map_of 29 a))
  unfolding laid
  given-stands =
      let w = joined_map-stands (g 29 a) (count_calls-sound 29 a.parents a.D a.M a.T) (first a) a.batches in
      let m = reverse-reverse (map_of 29 a) in (
        ap (λ (t : Buffers ℕ × List (Result CountsAdded Refusal)). take t.0.number t.0.zuniqs) (as_due 29 a) ∙ w.0 ∙ ap (map (zuniq_of 29)) m,
        ap (λ (t : Buffers ℕ × List (Result CountsAdded Refusal)). take t.0.number t.0.values) (as_due 29 a) ∙ w.1 ∙ ap (map value_of) m,
      )

  pub given-entries : entries (given a) ≡ map_of 29 a
  given-entries = ap₂ entries_of given-stands.0 given-stands.1 ∙ entries_laid (map_of 29 a) (λ e m. Rises-in_range 29 0 (map_of 29 a) e (in_sky 29 a) m)

  pub given-passes : map_refusal (first_fault 29 a.D (given a).zuniqs) ≡ none
  unfolding map_refusal
  given-passes = rw (given-stands.0, (no_fault_iff_valid 29 a.D (map (zuniq_of 29) (map_of 29 a))).1 (add_calls_claim 29 a).valid) refl

-- ---- pooling two of them
module _ (P : List ℕ) (a b : AddCalls) (M : ℕ) (T : Float) (zs vs : List ℕ) where
  maps-pass : (c d : AddCalls) → maps_refusal (given c) (given d) ≡ none
  unfolding maps_refusal
  maps-pass c d = rw (given-passes c, given-passes d) refl

  -- The pool's total is the sum of the two totals.
  pool_total_is : total_of (pool_of P a b M T) ≡ total_of (map_of 29 a) + total_of (map_of 29 b)
  pool_total_is =
      let D = max a.D b.D in
      total-reverse (λ n. n) (defined_pool (accept_counts 29 P M T) D (map_of 29 a) (map_of 29 b)) ∙ pool_total D (map_of 29 a) (map_of 29 b) (deeper a (omega arith)) (deeper b (omega arith)) (accept_counts 29 P M T) (mergers_sum 29 P M T)
    where
      deeper : (c : AddCalls) → c.D ≤ max a.D b.D → Rises (max a.D b.D) 0 (n_hash (max a.D b.D)) (map_of 29 c)
      deeper c u = ((Rises-deeper_iff c.D (max a.D b.D) u (map_of 29 c)).0 (defined_map-rises (accept_counts 29 c.parents c.M c.T) c.D (joined_list 29 c))).1

  pool_is_due : pool_refusal P (given a) (given b) M T (length zs) (length vs) ≡ none → let p = pool_of P a b M T in
      pool_counts P (given a) (given b) M T zs vs ≡ (Ok (record { entries = length p; total = total_of (map_of 29 a) + total_of (map_of 29 b) }), zuniq_buffer 29 (length zs) p, value_buffer 0 (length vs) p)
  unfolding pool_counts pool_over
  pool_is_due e = rw (e, given-entries a, given-entries b, pool_total_is) refl

  pool_refused : (x : Refusal) → pool_refusal P (given a) (given b) M T (length zs) (length vs) ≡ some x → pool_counts P (given a) (given b) M T zs vs ≡ (Err x, zs, vs)
  unfolding pool_counts pool_over
  pool_refused x e = rw e refl

  pub pool_claim : PoolClaim P a b M T zs vs
  pool_claim = record {
    maps = maps-pass a b;
    pooled = pool_is_due;
    refused = pool_refused;
    swapped = pool_call_swapped P (given a) (given b) M T zs vs (maps-pass a b) (maps-pass b a);
  }

  -- ---- asking, and committing
  -- The figures of the maps that go in are those of the defined maps.
  figures_are_due : figures_of P (given a) (given b) M T ≡ figures_due P a b M T
  unfolding figures_of
  figures_are_due =
      let pool = defined_pool (accept_counts 29 P M T) (max a.D b.D) (map_of 29 a) (map_of 29 b) in
      rw (given-entries a, given-entries b, ← length-reverse pool, ← total-reverse (λ n. n) pool, pool_total_is) refl

  ask_is_due : ask_refusal P (given a) (given b) M T ≡ none → ask_counts P (given a) (given b) M T ≡ Ok (figures_due P a b M T)
  unfolding ask_counts
  ask_is_due e = rw e (ap Ok figures_are_due)

  module _ (f : Figures) where
    commit_has_due : commit_refusal P (given a) (given b) M T f (length zs) (length vs) ≡ none → f ≡ figures_due P a b M T
    commit_has_due e = (answered_ask P (given a) (given b) M T f (committed_is_asked P (given a) (given b) M T f (length zs) (length vs) e)).1 ∙ figures_are_due

    commit_is_due : commit_refusal P (given a) (given b) M T f (length zs) (length vs) ≡ none → let p = pool_of P a b M T in
        commit_counts P (given a) (given b) M T f zs vs ≡ (Ok (record { entries = length p; total = total_of (map_of 29 a) + total_of (map_of 29 b) }), zuniq_buffer 29 (length zs) p, value_buffer 0 (length vs) p)
    commit_is_due e =
        commit_of_asked P (given a) (given b) M T f zs vs (committed_is_asked P (given a) (given b) M T f (length zs) (length vs) e)
        ∙ pool_is_due (committed_passes P (given a) (given b) M T f (length zs) (length vs) e)

    commit_refused : (x : Refusal) → commit_refusal P (given a) (given b) M T f (length zs) (length vs) ≡ some x → commit_counts P (given a) (given b) M T f zs vs ≡ (Err x, zs, vs)
    unfolding commit_counts pool_over
    commit_refused x e = rw e refl

  pub commit_claim : CommitClaim P a b M T zs vs
  commit_claim = record {
    asked = ask_is_due;
    as_one_call = pool_is_ask_then_commit P (given a) (given b) M T zs vs;
    figures_are = commit_has_due;
    pooled = commit_is_due;
    refused = commit_refused;
    asked_swapped = ask_swapped P (given a) (given b) M T (maps-pass a b) (maps-pass b a);
    swapped = λ f. commit_swapped P (given a) (given b) M T f zs vs (maps-pass a b) (maps-pass b a);
  }
