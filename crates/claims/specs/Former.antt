-- What a request of document 02 changed, as it was before it: definitions that the laws of proofs/Former, and those of proofs/BlankFirst,
-- compare with.
use Rattle.std.specs.Prelude.{Result, ◌≡◌, true, ◌&&◌, ◌||◌, not, cond, List, map, reverse, ℕ, ◌+◌, ◌/◌, ◌%◌, ◌≤◌, eqb, leb, ltb, Float, length}
use Rattle.std.proofs.Math.Option.{Option}
use Rattle.refusal.specs.declared.Refusal.{Refusal}
use Rattle.refusal.specs.Checks.{or_else, refused_if}
use Rattle.protection.specs.Protected.{is_protected}
use Rattle.merger.specs.Merge.{chi_of_counts, merge_by_chi, blank, merged, accept_counts}
use Rattle.merger.specs.declared.Merge.{Merge}
use Rattle.build.specs.Map.{Entry, Merger}
use Rattle.build.specs.Promises.{WholeChildren}
use Rattle.build.specs.Calls.{Buffers, Calls, answered, add_calls}
use Rattle.build.specs.Counts.{total_of, count_calls, counts_added}
use Rattle.build.specs.declared.counts.Added.{Added as CountsAdded}
use Rattle.combine.specs.Overlay.{Split, overlay}
use Rattle.combine.specs.Rules.{kept, combined, split_count, pool_rule, defined_pool}
use Rattle.combine.specs.Pool.{Given, entries, result_depth, places_refusal, pool_kept, pool_input_refusal}
use Rattle.combine.specs.Ask.{same_figures}
use Rattle.combine.specs.declared.counts.Figures.{Figures}
use Rattle.claims.specs.Demand3.{AddCalls, first}

-- ---- before note 1
-- "1. The depth is over 29, or is 0 in an add call"
abbrev pub former_row1 : ℕ → Option Refusal
former_row1 D = refused_if (eqb D 0 || ltb 29 D) Refusal.DepthOutOfRange

-- add calls that try this row before all others
abbrev pub with_former_row1 : {A X : Type 0} → Calls A Refusal X → Calls A Refusal X
with_former_row1 g = record {
  largest = g.largest;
  D = g.D;
  filler = g.filler;
  accept = g.accept;
  refusal = λ m places values zs vs c. or_else (former_row1 g.D) (g.refusal m places values zs vs c);
  report = g.report;
}

-- ---- before note 4
-- add calls with another merger: with `accept_by_chi M T` for `accept_counts M T` those of counts are the former ones
abbrev pub with_merger : {A R X : Type 0} → (ℕ → ℕ → A → A → A → A → Option A) → Calls A R X → Calls A R X
with_merger accept g = record {
  largest = g.largest;
  D = g.D;
  filler = g.filler;
  accept = accept;
  refusal = g.refusal;
  report = g.report;
}

-- ---- before note 10
-- "splitting v gives each child floor(v/4), children 0 to (v mod 4) − 1 one more"
unfoldable pub former_split_count : Split ℕ
former_split_count d h v i = v / 4 + cond (ltb i (v % 4)) 1 0

-- the answer and output of a pool with another merger or another way to split, by its refusal
unfoldable pub pool_over_with : Merger ℕ → Split ℕ → List ℕ → Option Refusal → Given ℕ → Given ℕ → ℕ → Float → List ℕ → List ℕ → Result CountsAdded Refusal × List ℕ × List ℕ
pool_over_with accept split P refusal l r M T zs vs =
    let K = result_depth l r in
    let pool = reverse (combined accept split pool_rule K (entries l) (entries r)) in
    let t = answered (count_calls 29 P K M T) refusal (record { number = 0; zuniqs = zs; values = vs }) pool in
    (counts_added t.1, t.0.zuniqs, t.0.values)

-- a pool with another way to split: with `former_split_count` for `split_count` its refusals,
unfoldable pub pool_refusal_with : Split ℕ → List ℕ → Given ℕ → Given ℕ → ℕ → Float → ℕ → ℕ → Option Refusal
pool_refusal_with split P l r M T places values =
    or_else (pool_input_refusal P l r M T places values) (places_refusal places (length (kept pool_rule (overlay split (result_depth l r) (entries l) (entries r)))))

-- and the call, are the former ones
unfoldable pub pool_counts_with : Split ℕ → List ℕ → Given ℕ → Given ℕ → ℕ → Float → List ℕ → List ℕ → Result CountsAdded Refusal × List ℕ × List ℕ
pool_counts_with split P l r M T zs vs = pool_over_with (accept_counts 29 P M T) split P (pool_refusal_with split P l r M T (length zs) (length vs)) l r M T zs vs

-- ---- before note 11
-- "A quad whose parent is listed is kept, though blank quads of Note 4 merge first."
unfoldable pub merge_blank_first : (K : ℕ) (P : List ℕ) (M : ℕ) (T : Float) (p h n0 n1 n2 n3 : ℕ) → Merge ℕ
merge_blank_first K P M T p h n0 n1 n2 n3 =
    cond (leb M p && blank n0 n1 n2 n3) (Merge.Merged 0)
    (cond (is_protected K P p h) (Merge.Kept (chi_of_counts n0 n1 n2 n3))
    (merge_by_chi M T p h n0 n1 n2 n3))

unfoldable pub accept_blank_first : (K : ℕ) (P : List ℕ) (M : ℕ) (T : Float) → Merger ℕ
accept_blank_first K P M T p h n0 n1 n2 n3 = merged (merge_blank_first K P M T p h n0 n1 n2 n3)

-- a "list that protects no blank quad's parent": under no listed parent of depth M or more stand four whole children of count 0
abbrev pub NoBlankProtected : (K : ℕ) (P : List ℕ) (M : ℕ) → Merger ℕ → (D : ℕ) → List (Entry ℕ) → Type 0
NoBlankProtected K P M accept D l = (d h : ℕ) → M ≤ d → is_protected K P d h ≡ true → WholeChildren accept D l d h 0 0 0 0 → ⊥

-- a list of add calls with the former merger: what they leave in the buffers, with m, and what they answer
abbrev pub done_blank_first : ℕ → AddCalls → Buffers ℕ × List (Result CountsAdded Refusal)
done_blank_first K a =
    let t = add_calls (with_merger (accept_blank_first K a.parents a.M a.T) (count_calls K a.parents a.D a.M a.T)) (first a) a.batches in
    (t.0, map counts_added t.1)

-- the figures of an ask and the refusals of a commit with another merger: with `accept_blank_first 29 P M T` for `accept_counts 29 P M T` they
-- are the former ones
unfoldable pub figures_by : Merger ℕ → Given ℕ → Given ℕ → Figures
figures_by accept l r =
    let pool = defined_pool accept (result_depth l r) (entries l) (entries r) in
    record { cells = length (overlay split_count (result_depth l r) (entries l) (entries r)); entries = length pool; total = total_of pool }

unfoldable pub commit_refusal_by : Merger ℕ → List ℕ → Given ℕ → Given ℕ → ℕ → Float → Figures → ℕ → ℕ → Option Refusal
commit_refusal_by accept P l r M T f places values =
    or_else (pool_input_refusal P l r M T places values)
    (or_else (refused_if (not (same_figures f (figures_by accept l r))) Refusal.FiguresDiffer)
    (places_refusal places (length (pool_kept l r))))
