-- Note 6 of document 02: what is promised of a coverage, and of the functions that write one.
use Rattle.std.specs.Prelude.{◌≡◌, true, List, [], ◌∷◌, map, ◌⊎◌, ◌↔◌, ℕ, ◌+◌, ◌≤◌, ◌<◌, length, get_or, take}
use Rattle.zuniq.specs.Cells.{n_hash, lies_in, start, end}
use Rattle.zuniq.specs.Codec.{IsZuniqOf}
use Rattle.mom.specs.Map.{IsZuniq}
use Rattle.coverage.specs.Ranges.{Range, ranges_of, from_of, to_of}

-- ---- ranges
-- k is in the range
abbrev pub InRange : Range → ℕ → Type 0
InRange r k = (r.from ≤ k) × (k < r.to)

-- some range has P
abbrev pub Some : (Range → Type 0) → List Range → Type 0
Some P [] = ⊥
Some P (r ∷ rs) = P r ⊎ Some P rs

-- r is one of the ranges
abbrev pub HasRange : List Range → Range → Type 0
HasRange rs r = Some (λ q. r ≡ q) rs

-- k is in one of the ranges
abbrev pub InRanges : List Range → ℕ → Type 0
InRanges rs k = Some (λ r. InRange r k) rs

-- the hashes from s to below t lie in one of the ranges
abbrev pub InOne : List Range → ℕ → ℕ → Type 0
InOne rs s t = Some (λ r. (r.from ≤ s) × (t ≤ r.to)) rs

-- ranges that are not empty, each from where the one before it ends or later: the first from a, and the last to b or before
abbrev pub Follow : ℕ → ℕ → List Range → Type 0
Follow a b [] = a ≤ b
Follow a b (r ∷ rs) = (a ≤ r.from) × (r.from < r.to) × Follow r.to b rs

-- "rising ranges, none touching the next": not empty, the first from a on, each from above the end of the one before it, none past b
abbrev pub Parted : ℕ → ℕ → List Range → Type 0
Parted a b [] = Unit {0}
Parted a b (r ∷ rs) = (a ≤ r.from) × (r.from < r.to) × (r.to ≤ b) × Parted (r.to + 1) b rs

-- ---- cells in a coverage
-- "inside the coverage", of the cell (d, h): all its depth-K cells are in it
abbrev pub AllInside : ℕ → List Range → ℕ → ℕ → Type 0
AllInside K rs d h = (k : ℕ) → lies_in K k d h ≡ true → InRanges rs k

-- one range holds them all
abbrev pub Inside : ℕ → List Range → ℕ → ℕ → Type 0
Inside K rs d h = InOne rs (start K d h) (end K d h)

-- ---- the coverage of a map
-- "the depth-29 cells that lie in an entry": k is one of them, of a map of the zuniqs zs
pub record InEntry (K : ℕ) (zs : List ℕ) (k : ℕ) : Type 0 where
  pub place : ℕ
  pub within : place < length zs
  pub depth : ℕ
  pub hash : ℕ
  pub is : IsZuniqOf K (get_or zs place 0) depth hash
  pub inside : lies_in K k depth hash ≡ true

-- What is shown of every call that writes a coverage: it answered n ranges, and left xs and ys in the output. They hold exactly those
-- cells, as rising ranges, none empty and none touching the next, and there are at most as many as entries.
pub record WritesCoverage (zs : List ℕ) (n : ℕ) (xs ys : List ℕ) : Type 0 where
  pub exact : (k : ℕ) → InRanges (ranges_of (take n xs) (take n ys)) k ↔ InEntry 29 zs k
  pub parted : Parted 0 (n_hash 29) (ranges_of (take n xs) (take n ys))
  pub fewer : n ≤ length zs

-- ---- the functions
-- z is the zuniq of a cell whose depth-K cells are those from a to below b
pub record RangeOf (K z a b : ℕ) : Type 0 where
  pub depth : ℕ
  pub hash : ℕ
  pub is : IsZuniqOf K z depth hash
  pub starts : a ≡ start K depth hash
  pub ends : b ≡ end K depth hash

-- every value is a zuniq
abbrev pub AreZuniqs : ℕ → List ℕ → Type 0
AreZuniqs K zs = (i : ℕ) → i < length zs → IsZuniq K (get_or zs i 0)

-- the first places of two buffers hold the starts and the ends of the ranges
pub record Stand (rs : List Range) (ss es : List ℕ) : Type 0 where
  pub starts : take (length rs) ss ≡ map from_of rs
  pub ends : take (length rs) es ≡ map to_of rs
