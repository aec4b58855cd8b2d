-- Note 6 of document 02: "a list of half-open ranges of depth-29 hashes, here starts and ends in two paired buffers".
use Rattle.std.specs.Prelude.{Bool, true, false, ◌&&◌, ◌||◌, cond, List, [], ◌∷◌, ◌++◌, ℕ, zero, suc, ◌+◌, ◌-◌, ◌^◌, max, min, eqb, leb, ltb, length, replicate}
use Rattle.std.proofs.Math.Option.{Option, none}
use Rattle.refusal.specs.declared.Refusal.{Refusal}
use Rattle.zuniq.specs.Cells.{start}
use Rattle.refusal.specs.Checks.{or_else, refused_if}

-- "half-open": from its first hash to below its end
pub record Range : Type 0 where
  pub from : ℕ
  pub to : ℕ

abbrev pub range : ℕ → ℕ → Range
range a b = record { from = a; to = b }

abbrev pub from_of : Range → ℕ
from_of r = r.from

abbrev pub to_of : Range → ℕ
to_of r = r.to

-- "starts and ends in two paired buffers"
unfoldable pub ranges_of : List ℕ → List ℕ → List Range
ranges_of [] es = []
ranges_of (s ∷ ss) [] = []
ranges_of (s ∷ ss) (e ∷ es) = range s e ∷ ranges_of ss es

-- ---- what is in a coverage
-- the hash k is in one of the ranges
unfoldable pub in_ranges : List Range → ℕ → Bool
in_ranges [] k = false
in_ranges (r ∷ rs) k = (leb r.from k && ltb k r.to) || in_ranges rs k

-- all of the n hashes from k on are
unfoldable pub all_in_ranges : List Range → ℕ → ℕ → Bool
all_in_ranges rs k zero = true
all_in_ranges rs k (suc n) = in_ranges rs k && all_in_ranges rs (suc k) n

-- "inside the coverage", of the cell (d, h): all its depth-K cells, which are 4^(K − d) from its start on, are in it
unfoldable pub in_coverage : ℕ → List Range → ℕ → ℕ → Bool
in_coverage K rs d h = all_in_ranges rs (start K d h) (4 ^ (K - d))

-- ---- the coverage of a map
-- a range in front of others; with the first of them it is one range if the two touch
abbrev pub join_front : Range → List Range → List Range
join_front r [] = r ∷ []
join_front r (q ∷ rs) = cond (eqb r.to q.from) (range r.from q.to ∷ rs) (r ∷ q ∷ rs)

-- "none touching the next": ranges that touch are joined into one
unfoldable pub join_touching : List Range → List Range
join_touching [] = []
join_touching (r ∷ rs) = join_front r (join_touching rs)

-- "places after them are 0": a buffer of so many places that holds these first; `filler` is the 0
unfoldable pub padded : {B : Type 0} → B → ℕ → List B → List B
padded filler places l = l ++ replicate (places - length l) filler

-- ---- a given coverage
-- "14, a range is empty, ends past N(29), or doesn't start above the previous end, place its range": of the ranges from place i on;
-- `sky` is N(29), and `least` the least start that is above the previous end, 0 for the first
unfoldable pub ranges_refusal : ℕ → ℕ → ℕ → List Range → Option Refusal
ranges_refusal sky least i [] = none
ranges_refusal sky least i (r ∷ rs) =
    or_else (refused_if (leb r.to r.from || (ltb sky r.to || ltb r.from least)) (Refusal.InvalidRange i))
    (ranges_refusal sky (r.to + 1) (i + 1) rs)

-- ---- two coverages
-- what a range has in common with others
unfoldable pub common_with : Range → List Range → List Range
common_with r [] = []
common_with r (q ∷ qs) =
    let a = max r.from q.from in
    let b = min r.to q.to in
    cond (ltb a b) (range a b ∷ common_with r qs) (common_with r qs)

-- the intersection of two coverages: what each range of one has in common with each of the other
unfoldable pub intersection : List Range → List Range → List Range
intersection [] qs = []
intersection (r ∷ rs) qs = common_with r qs ++ intersection rs qs
