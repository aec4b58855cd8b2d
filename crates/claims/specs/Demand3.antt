-- Demand 3 of the scope: what is claimed of every list of count add calls with one D, M and T, under one list of protected parents (note 7
-- of 02: "Batches joined are read under one list for all calls"), and of pooling two maps so made, in one call or asked before done (note 8).
-- Said over the definitions that the contracts of the calls cite: `add_counts` is what `add_counts` does, `pool_counts` what `pool` does,
-- `ask_counts` and `commit_counts` what `ask` and `commit` do.
-- K is the largest depth of the zuniq type: 29 for the calls of `build_counts`, 13 for those of `narrow_counts` (note 2 of 02).
use Rattle.std.specs.Prelude.{Result, Ok, Err, ◌≡◌, List, [], ◌∷◌, map, reverse, ◌↔◌, ℕ, ◌+◌, max, Float, length, take}
use Rattle.std.proofs.Math.Option.{Option, none, some}
use Rattle.refusal.specs.declared.Refusal.{Refusal}
use Rattle.merger.specs.Merge.{accept_counts}
use Rattle.mom.specs.Map.{ValidMap}
use Rattle.build.specs.Map.{Entry, defined_map}
use Rattle.build.specs.Stack.{child}
use Rattle.build.specs.Buffers.{zuniq_of, zuniq_buffer, value_buffer}
use Rattle.build.specs.Promises.{Any, Has, Covers, Ascends, total_under}
use Rattle.build.specs.Calls.{Buffers, Batch, joined_cells, join_calls, left}
use Rattle.build.specs.Counts.{total_of, counts_added, count_calls, add_counts}
use Rattle.build.specs.declared.counts.Added.{Added as CountsAdded}
use Rattle.combine.specs.Overlay.{overlay}
use Rattle.combine.specs.Rules.{split_count, defined_pool}
use Rattle.combine.specs.Pool.{Given, maps_refusal, pool_refusal, pool_counts}
use Rattle.combine.specs.Ask.{ask_refusal, ask_counts, commit_refusal, commit_counts, committed}
use Rattle.combine.specs.declared.counts.Figures.{Figures}

-- the number of entries that the last accepted call answered, and "the total last reported (0 before any)": with m and n of those before
unfoldable pub last_report : ℕ → ℕ → List (Result CountsAdded Refusal) → ℕ × ℕ
last_report m n [] = (m, n)
last_report m n (Err r ∷ l) = last_report m n l
last_report m n (Ok a ∷ l) = last_report a.entries a.total l

-- "m as the last accepted call answered it": the held number after a call that was handed m
abbrev pub held_after : ℕ → Result CountsAdded Refusal → ℕ
held_after m (Err r) = m
held_after m (Ok a) = a.entries

-- the calls, one after the other: "Each later one gets the buffers as the last call left them and m as the last accepted call
-- answered it"; what they leave, and every answer
unfoldable pub calls : ℕ → List ℕ → ℕ → ℕ → Float → Buffers ℕ → List (Batch ℕ) → Buffers ℕ × List (Result CountsAdded Refusal)
calls K P D M T b [] = (b, [])
calls K P D M T b (c ∷ cs) =
    let r = add_counts K P D M T b.number b.zuniqs b.values c.hashes c.values in
    let more = calls K P D M T (record { number = held_after b.number r.0; zuniqs = r.1; values = r.2 }) cs in
    (more.0, r.0 ∷ more.1)

-- "a list of count add calls with one D, M and T", and one list of protected parents: the batch of each, and the first content of the two
-- buffers
pub record AddCalls : Type 0 where
  pub D : ℕ
  pub M : ℕ
  pub T : Float
  pub parents : List ℕ
  pub zuniqs : List ℕ
  pub counts : List ℕ
  pub batches : List (Batch ℕ)

-- "The first gets m = 0 and buffers with any content."
abbrev pub first : AddCalls → Buffers ℕ
first a = record { number = 0; zuniqs = a.zuniqs; values = a.counts }

module _ (K : ℕ) (a : AddCalls) where
  -- what the calls leave in the buffers, with m, and what they answer
  abbrev pub done : Buffers ℕ × List (Result CountsAdded Refusal)
  done = calls K a.parents a.D a.M a.T (first a) a.batches

  -- "The joined batches [..] are made from the calls' arguments alone", and with them what each call should answer
  abbrev pub due : Option (List (Entry ℕ)) × List (Result CountsAdded Refusal)
  due = let t = join_calls (count_calls K a.parents a.D a.M a.T) (length a.zuniqs) (length a.counts) none a.batches in (t.0, map counts_added t.1)

  abbrev pub joined_list : List (Entry ℕ)
  joined_list = joined_cells (count_calls K a.parents a.D a.M a.T) due.0

  -- "the defined map of the joined batches"
  abbrev pub map_of : List (Entry ℕ)
  map_of = defined_map (accept_counts K a.parents a.M a.T) a.D joined_list

  pub record Claim : Type 0 where
    -- "A call is refused exactly when, and as, the refusals below say with the defined map of the joined batches as held map"; "After
    -- the list m is the number of entries, and the buffers hold the defined map with 0 in every place after it or, with no call
    -- accepted, their first content": every answer, m, and both buffers whole
    pub as_due : done ≡ (left (count_calls K a.parents a.D a.M a.T) (first a) due.0, due.1)
    -- the entries are a valid map: they rise and none overlap
    pub valid : ValidMap K a.D (map (zuniq_of K) map_of)
    pub rises : Ascends K map_of
    -- "The cells covered are the depth-D cells that lie in an entry": exactly those of the accepted batches
    pub covers : (h : ℕ) → Covers map_of a.D h ↔ Any (λ c. c.hash ≡ h) joined_list
    -- "the counts under an entry are those of joined cells that lie in it": it holds their sum
    pub sums : (e : Entry ℕ) → Has map_of e → e.value ≡ total_under (λ n. n) joined_list e.depth e.hash
    -- "Siblings are the four children of one parent": no four remain that the merger accepts
    pub settled : (d h v0 v1 v2 v3 : ℕ) → Has map_of (child d h 0 v0) → Has map_of (child d h 1 v1) → Has map_of (child d h 2 v2) → Has map_of (child d h 3 v3)
        → accept_counts K a.parents a.M a.T d h v0 v1 v2 v3 ≡ none
    -- what was last reported is so: the number of entries, and the sum over all of them
    pub reported : last_report 0 0 done.1 ≡ (length map_of, total_of map_of)

-- ---- pooling two maps so made
-- the map that the calls left, in u64 zuniqs: "each goes in with its own D"
abbrev pub given : AddCalls → Given ℕ
given a = let b = (done 29 a).0 in record { depth = a.D; zuniqs = take b.number b.zuniqs; values = take b.number b.values }

-- the defined pool of the two defined maps, last entry first
abbrev pub pool_of : List ℕ → AddCalls → AddCalls → ℕ → Float → List (Entry ℕ)
pool_of P a b M T = reverse (defined_pool (accept_counts 29 P M T) (max a.D b.D) (map_of 29 a) (map_of 29 b))

-- "The two maps of demand 3 may differ in D, M and T", and in their lists: pooled with any M and T and one more list P into buffers that
-- held zs and vs
pub record PoolClaim (P : List ℕ) (a b : AddCalls) (M : ℕ) (T : Float) (zs vs : List ℕ) : Type 0 where
  -- neither map is refused
  pub maps : maps_refusal (given a) (given b) ≡ none
  -- the answer, if it is not refused, is the defined pool, its total the sum of the two totals, with 0 in every place after it
  pub pooled : pool_refusal P (given a) (given b) M T (length zs) (length vs) ≡ none → let p = pool_of P a b M T in
      pool_counts P (given a) (given b) M T zs vs ≡ (Ok (record { entries = length p; total = total_of (map_of 29 a) + total_of (map_of 29 b) }), zuniq_buffer 29 (length zs) p, value_buffer 0 (length vs) p)
  -- a refusal leaves the output
  pub refused : (x : Refusal) → pool_refusal P (given a) (given b) M T (length zs) (length vs) ≡ some x → pool_counts P (given a) (given b) M T zs vs ≡ (Err x, zs, vs)
  -- "Swapped, with all else handed in alike, they give the same answer and output, a refusal having the same number and place."
  pub swapped : pool_counts P (given b) (given a) M T zs vs ≡ pool_counts P (given a) (given b) M T zs vs

-- ---- asking for such a pool, and committing it (note 8 of 02)
-- "the number of overlay cells, of entries after merging, and the total", of the two defined maps
abbrev pub figures_due : List ℕ → AddCalls → AddCalls → ℕ → Float → Figures
figures_due P a b M T = record {
  cells = length (overlay split_count (max a.D b.D) (map_of 29 a) (map_of 29 b));
  entries = length (pool_of P a b M T);
  total = total_of (map_of 29 a) + total_of (map_of 29 b);
}

-- As of a pool: any M and T, one more list P, and buffers that held zs and vs.
pub record CommitClaim (P : List ℕ) (a b : AddCalls) (M : ℕ) (T : Float) (zs vs : List ℕ) : Type 0 where
  -- an ask, if it is not refused, answers those figures
  pub asked : ask_refusal P (given a) (given b) M T ≡ none → ask_counts P (given a) (given b) M T ≡ Ok (figures_due P a b M T)
  -- "The old single call [..], where its output buffers are of equal length, equals an ask followed by its commit, in its refusals too."
  pub as_one_call : length zs ≡ length vs → pool_counts P (given a) (given b) M T zs vs ≡ committed P (given a) (given b) M T zs vs (ask_counts P (given a) (given b) M T)
  -- a commit that is not refused was given those figures, and is the defined pool
  pub figures_are : (f : Figures) → commit_refusal P (given a) (given b) M T f (length zs) (length vs) ≡ none → f ≡ figures_due P a b M T
  pub pooled : (f : Figures) → commit_refusal P (given a) (given b) M T f (length zs) (length vs) ≡ none → let p = pool_of P a b M T in
      commit_counts P (given a) (given b) M T f zs vs ≡ (Ok (record { entries = length p; total = total_of (map_of 29 a) + total_of (map_of 29 b) }), zuniq_buffer 29 (length zs) p, value_buffer 0 (length vs) p)
  -- a refusal leaves the output
  pub refused : (f : Figures) (x : Refusal) → commit_refusal P (given a) (given b) M T f (length zs) (length vs) ≡ some x → commit_counts P (given a) (given b) M T f zs vs ≡ (Err x, zs, vs)
  -- swapped they are the same
  pub asked_swapped : ask_counts P (given b) (given a) M T ≡ ask_counts P (given a) (given b) M T
  pub swapped : (f : Figures) → commit_counts P (given b) (given a) M T f zs vs ≡ commit_counts P (given a) (given b) M T f zs vs
