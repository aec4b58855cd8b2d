-- What the inner functions of lookup promise, for a query by its range. Over the largest depth K that the type of the zuniqs
-- holds: 29 for 64 bits.
use Rattle.std.specs.Prelude.{◌≡◌, true, false, List, ℕ, ◌-◌, ◌≤◌, ◌<◌, length, get_or}
use Rattle.mom.specs.declared.ZuniqRange.{ZuniqRange}
use Rattle.mom.specs.Range.{meets}

-- between an entry below q, or the start, and one that is not, or the end
pub record LowerBound (zs : List ℕ) (q r : ℕ) : Type 0 where
  pub within : r ≤ length zs
  pub below : 0 < r → get_or zs (r - 1) 0 < q
  pub above : r < length zs → q ≤ get_or zs r 0

-- the entries from r on and before the place meet the query, and the one before them does not
pub record OverlapsBefore (K : ℕ) (zs : List ℕ) (query : ZuniqRange) (place r : ℕ) : Type 0 where
  pub within : r ≤ place
  pub all : (i : ℕ) → r ≤ i → i < place → meets K query (get_or zs i 0) ≡ true
  pub stops : 0 < r → meets K query (get_or zs (r - 1) 0) ≡ false

-- the entries from the place on and before r meet the query, and the one at r does not
pub record OverlapsFrom (K : ℕ) (zs : List ℕ) (query : ZuniqRange) (place r : ℕ) : Type 0 where
  pub from : place ≤ r
  pub within : r ≤ length zs
  pub all : (i : ℕ) → place ≤ i → i < r → meets K query (get_or zs i 0) ≡ true
  pub stops : r < length zs → meets K query (get_or zs r 0) ≡ false
