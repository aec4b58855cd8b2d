-- The loops of lookup, over zuniqs or over rows of them: what a turn of the search leaves, and of the runs to both sides.
-- Assumes nothing.
use mathlib.Core.Path.{◌≡◌}
use mathlib.Core.Bool.{true, false}
use mathlib.Core.Logic.{⊎_elim}
use mathlib.Core.List.{List}
use Prim.Native.Nat.{ℕ, ◌+◌, ◌-◌, ◌≤◌, ◌<◌}
use native.Mathlib.Omega.{arith}
use lib.ListN.{length, get_or}
use Rattle.zuniq.proofs.Basics.{le_or_lt}
use Rattle.mom.specs.declared.ZuniqRange.{ZuniqRange}
use Rattle.mom.specs.Range.{meets}
use Rattle.mom.specs.Search.{LowerBound, OverlapsBefore, OverlapsFrom}

-- ---- the search
-- the entry before `lo` is below the query, and the one at `hi` is not
pub record Bracket (zs : List ℕ) (q lo hi : ℕ) : Type 0 where
  pub in_order : lo ≤ hi
  pub within : hi ≤ length zs
  pub below : 0 < lo → get_or zs (lo - 1) 0 < q
  pub above : hi < length zs → q ≤ get_or zs hi 0

-- It starts with the whole list.
pub Bracket-all : {zs : List ℕ} {q : ℕ} (n : ℕ) → n ≡ length zs → Bracket zs q 0 n
Bracket-all n e = record { in_order = omega arith; within = omega arith; below = λ l. absurd (omega arith); above = λ l. absurd (omega arith) }

module _ {zs : List ℕ} {q lo hi : ℕ} (b : Bracket zs q lo hi) where
  -- It ends where nothing is left between the two.
  pub bracket_met : hi ≤ lo → LowerBound zs q lo
  bracket_met l = let e : lo ≡ hi = omega (arith, b.in_order) in record { within = omega (arith, b.within); below = b.below; above = rw e b.above }

-- ---- the run to the left
-- the entries from `first` on and before the place meet the query
pub record FoundBefore (K : ℕ) (zs : List ℕ) (query : ZuniqRange) (place first : ℕ) : Type 0 where
  pub within : first ≤ place
  pub all : (i : ℕ) → first ≤ i → i < place → meets K query (get_or zs i 0) ≡ true

pub found_none_before : {K : ℕ} {zs : List ℕ} {query : ZuniqRange} {place : ℕ} → FoundBefore K zs query place place
found_none_before = record { within = omega arith; all = λ i l m. absurd (omega arith) }

module _ {K : ℕ} {zs : List ℕ} {query : ZuniqRange} {place first : ℕ} (f : FoundBefore K zs query place first) where
  -- One entry more on the left.
  pub found_before : 0 < first → meets K query (get_or zs (first - 1) 0) ≡ true → FoundBefore K zs query place (first - 1)
  found_before n t = record {
    within = omega (arith, f.within);
    all = λ i l m. ⊎_elim (λ k. f.all i k m) (λ k. let e : first - 1 ≡ i = omega arith in rw (← e) t) (le_or_lt first i);
  }

  -- The run starts behind an entry that does not meet the query, or at the first entry.
  pub starts_behind : meets K query (get_or zs (first - 1) 0) ≡ false → OverlapsBefore K zs query place first
  starts_behind t = record { within = f.within; all = f.all; stops = λ _. t }

  pub starts_at_0 : first ≤ 0 → OverlapsBefore K zs query place first
  starts_at_0 l = record { within = f.within; all = f.all; stops = λ n. absurd (omega arith) }

-- ---- the run to the right
-- the entries from the place on and before `last` meet the query
pub record FoundFrom (K : ℕ) (zs : List ℕ) (query : ZuniqRange) (place last : ℕ) : Type 0 where
  pub from : place ≤ last
  pub within : last ≤ length zs
  pub all : (i : ℕ) → place ≤ i → i < last → meets K query (get_or zs i 0) ≡ true

pub found_none_from : {K : ℕ} {zs : List ℕ} {query : ZuniqRange} {place : ℕ} → place ≤ length zs → FoundFrom K zs query place place
found_none_from l = record { from = omega arith; within = l; all = λ i l m. absurd (omega arith) }

module _ {K : ℕ} {zs : List ℕ} {query : ZuniqRange} {place last : ℕ} (f : FoundFrom K zs query place last) where
  -- One entry more on the right.
  pub found_from : last < length zs → meets K query (get_or zs last 0) ≡ true → FoundFrom K zs query place (last + 1)
  found_from n t = record {
    from = omega (arith, f.from);
    within = omega arith;
    all = λ i l m. ⊎_elim (λ k. let e : last ≡ i = omega arith in rw (← e) t) (λ k. f.all i l k) (le_or_lt last i);
  }

  -- The run ends before an entry that does not meet the query, or with the last entry.
  pub ends_before : meets K query (get_or zs last 0) ≡ false → OverlapsFrom K zs query place last
  ends_before t = record { from = f.from; within = f.within; all = f.all; stops = λ _. t }

  pub ends_with_all : length zs ≤ last → OverlapsFrom K zs query place last
  ends_with_all l = record { from = f.from; within = f.within; all = f.all; stops = λ n. absurd (omega arith) }
