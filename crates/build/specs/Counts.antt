-- Section 4 of the scope: adding counts.
use Rattle.std.specs.Prelude.{Bool, false, List, ℕ, Float, length, Result, Ok, Err}
use Rattle.std.proofs.Math.Option.{Option}
use Rattle.refusal.specs.declared.Refusal.{Refusal}
use Rattle.merger.specs.Merge.{accept_counts}
use Rattle.protection.specs.Protected.{protected_refusal}
use Rattle.mom.specs.Map.{first_fault}
use Rattle.build.specs.declared.counts.Added.{Added}
use Rattle.refusal.specs.Checks.{or_else}
use Rattle.build.specs.Map.{Entry}
use Rattle.build.specs.Promises.{total}
use Rattle.build.specs.Calls.{Answer, Calls, add_call}
use Rattle.build.specs.Add.{settings_refusal, lengths_refusal, map_refusal, map_end, cells_refusal, sum_of, total_refusal, space_refusal}

-- the sum of the counts of a map
abbrev pub total_of : List (Entry ℕ) → ℕ
total_of s = total (λ n. n) s

-- a count is never bad
abbrev pub never : ℕ → Bool
never n = false

-- The refusals of adding counts, in the order of the table: 1 to 3, 15, 4, 5, 7 and 8 cell by cell, 10, 11. P is the list of protected
-- parents, m the held number, `places` and `values` are the lengths of the buffers, zs and vs the held zuniqs and counts, hs and ns the
-- batch. K is the largest depth of the zuniq type: 29 for 64 bits, 13 for 32.
unfoldable pub counts_refusal : ℕ → List ℕ → ℕ → ℕ → Float → ℕ → ℕ → ℕ → List ℕ → List ℕ → List ℕ → List ℕ → Option Refusal
counts_refusal K P D M T m places values zs vs hs ns =
    or_else (settings_refusal K D M T)
    (or_else (protected_refusal K P)
    (or_else (lengths_refusal m places values (length hs) (length ns))
    (or_else (map_refusal (first_fault K D zs))
    (or_else (cells_refusal never D (map_end K D zs) 0 hs ns)
    (or_else (total_refusal (sum_of vs) ns)
    (space_refusal places m (length hs)))))))

-- "the new number of entries and, for counts, their total"
pub record Report : Type 0 where
  pub entries : ℕ
  pub sum : ℕ

-- "a list of count add calls with one D, M and T", and by note 7 of 02 "under one list for all calls"
abbrev pub count_calls : ℕ → List ℕ → ℕ → ℕ → Float → Calls ℕ Refusal Report
count_calls K P D M T = record {
  largest = K;
  D = D;
  filler = 0;
  accept = accept_counts K P M T;
  refusal = λ m places values zs vs c. counts_refusal K P D M T m places values zs vs c.hashes c.values;
  report = λ s. record { entries = length s; sum = total_of s };
}

-- what the call answers
abbrev pub counts_added : Answer Refusal Report → Result Added Refusal
counts_added (Answer.refused r) = Err r
counts_added (Answer.accepted x) = Ok (record { entries = x.entries; total = x.sum })

-- The answer and both buffers afterwards.
unfoldable pub add_counts : ℕ → List ℕ → ℕ → ℕ → Float → ℕ → List ℕ → List ℕ → List ℕ → List ℕ → Result Added Refusal × List ℕ × List ℕ
add_counts K P D M T m zs vs hs ns =
    let t = add_call (count_calls K P D M T) (record { number = m; zuniqs = zs; values = vs }) (record { hashes = hs; values = ns }) in
    (counts_added t.1, t.0.zuniqs, t.0.values)
