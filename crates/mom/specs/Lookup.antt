-- Section 6 of the scope: lookup, by looking at one entry after the other. Over the largest depth K that the type of the
-- zuniqs holds: 29 for 64 bits.
use Rattle.std.specs.Prelude.{◌≡◌, ◌↔◌, Bool, true, false, cond, List, [], ◌∷◌, ℕ, suc, ◌+◌, ◌*◌, ◌≤◌, ◌<◌, eqb, ltb, length, get_or, take, drop, Option, None, Some, Result, Ok, Err}
use Rattle.std.specs.Borrow.{Bor}
use prog.Memory.{size}
use denote.RattleType.{RattleType}
use denote.Param.{layout}
use Rattle.zuniq.specs.Cells.{lies_in}
use Rattle.zuniq.specs.Codec.{decode}
use Rattle.refusal.specs.declared.Refusal.{Refusal}
use Rattle.zuniq.specs.declared.Decoded.{Decoded}
use Rattle.mom.specs.Map.{overlaps, ValidMap}
use Rattle.mom.specs.declared.lookup.Run.{Run}
use Rattle.mom.specs.declared.lookup.Overlapped.{Overlapped}

-- ---- containing
-- whether of two values, both valid zuniqs, the cell of the first lies in that of the second
unfoldable pub cell_lies_in : Decoded → Decoded → Bool
cell_lies_in Decoded.Nothing e = false
cell_lies_in (Decoded.Cell c) Decoded.Nothing = false
cell_lies_in (Decoded.Cell c) (Decoded.Cell e) = lies_in c.depth c.hash e.depth e.hash

unfoldable pub contains : ℕ → ℕ → ℕ → Bool
contains K q z = cell_lies_in (decode K q) (decode K z)

-- "the place of the entry over a [..] query, or none", of the entries from place i on
unfoldable pub place_from : ℕ → ℕ → ℕ → List ℕ → Option ℕ
place_from K q i [] = None
place_from K q i (z ∷ zs) = cond (contains K q z) (Some i) (place_from K q (suc i) zs)

-- "A query is not a valid zuniq, or in containing not at D": refused by 12, and else looked for
unfoldable pub query_at : ℕ → Decoded → Option ℕ → Result (Option ℕ) Refusal
query_at D Decoded.Nothing place = Err (Refusal.InvalidQuery 0)
query_at D (Decoded.Cell c) place = cond (eqb c.depth D) (Ok place) (Err (Refusal.InvalidQuery 0))

-- "Containing: the place of the entry over a depth-D query, or none", refused by 1 and 12
unfoldable pub containing : ℕ → ℕ → List ℕ → ℕ → Result (Option ℕ) Refusal
containing K D zs q = cond (ltb K D) (Err Refusal.DepthOutOfRange) (query_at D (decode K q) (place_from K q 0 zs))

-- ---- overlapping
-- the entries that overlap the query
unfoldable pub overlapped : ℕ → List ℕ → ℕ → List ℕ
overlapped K [] q = []
overlapped K (z ∷ zs) q = cond (overlaps K q z) (z ∷ overlapped K zs q) (overlapped K zs q)

-- the first place of such an entry, of those from place i on; "none gives an empty part and place 0"
unfoldable pub first_from : ℕ → ℕ → ℕ → List ℕ → ℕ
first_from K q i [] = 0
first_from K q i (z ∷ zs) = cond (overlaps K q z) i (first_from K q (suc i) zs)

-- "A query is not a valid zuniq": refused by 12
unfoldable pub run_or : Decoded → Run → Result Run Refusal
run_or Decoded.Nothing run = Err (Refusal.InvalidQuery 0)
run_or (Decoded.Cell c) run = Ok run

-- "Overlapping: the run of entries overlapping any valid query [..] with its first place", refused by 12
unfoldable pub overlapping : ℕ → List ℕ → ℕ → Result Run Refusal
overlapping K zs q = run_or (decode K q) (record { first = first_from K q 0 zs; len = length (overlapped K zs q) })

-- the entries of a run
unfoldable pub part_of : {Z : Type 0} → List Z → Run → List Z
part_of zs run = take run.len (drop run.first zs)

-- the bytes that a value of a type takes: 8 of a u64, 4 of a u32
abbrev pub size_of : RattleType → ℕ
size_of Z = size (layout Z)

-- where they stand, if the zuniqs stand at `at` and take `size` bytes each: a block of memory and an offset
unfoldable pub address_of : ℕ → ℕ × ℕ → Run → ℕ × ℕ
address_of size at run = (at.0, run.first * size + at.1)

-- "handed back as that very part of the zuniqs": the same entries at the same place, and no copy
pub record IsPart {Z : Type 0} (size : ℕ) (zs : Bor (List Z)) (run : Run) (part : Bor (List Z)) : Type 0 where
  pub entries : part.now ≡ part_of zs.now run
  pub address : part.ref_ptr ≡ address_of size zs.ref_ptr run

-- the run whose entries are handed back
abbrev pub the_run : {Z : Type 0} → Overlapped Z → Run
the_run o = record { first = o.first; len = length o.part.now }

unfoldable pub run_of : {Z : Type 0} → Result (Overlapped Z) Refusal → Result Run Refusal
run_of (Ok o) = Ok (the_run o)
run_of (Err r) = Err r

-- the entries of the run are within n places
abbrev pub IsWithin : ℕ → Run → Type 0
IsWithin n run = run.first + run.len ≤ n

-- ---- what the calls promise: over a valid map the definition; over any list of zuniqs the refusals of the definition,
-- and "an entry shown is a valid zuniq that overlaps the query"
pub record ContainingAnswer (K D : ℕ) (zs : List ℕ) (q : ℕ) (r : Result (Option ℕ) Refusal) : Type 0 where
  pub over_valid : ValidMap K D zs → r ≡ containing K D zs q
  pub refused : (x : Refusal) → (r ≡ Err x) ↔ (containing K D zs q ≡ Err x)
  pub shown : (i : ℕ) → r ≡ Ok (Some i) → (i < length zs) × (overlaps K q (get_or zs i 0) ≡ true)

-- the same for a run; a valid map of any depth is one of depth K
pub record RunAnswer (K : ℕ) (zs : List ℕ) (q : ℕ) (r : Result Run Refusal) : Type 0 where
  pub over_valid : ValidMap K K zs → r ≡ overlapping K zs q
  pub refused : (x : Refusal) → (r ≡ Err x) ↔ (overlapping K zs q ≡ Err x)
  pub shown : (run : Run) → r ≡ Ok run
      → IsWithin (length zs) run × ((i : ℕ) → i < run.len → overlaps K q (get_or zs (run.first + i) 0) ≡ true)

-- the run with its part of the zuniqs: over a valid map all the entries that overlap the query, and no other
pub record OverlappedAnswer {Z : Type 0} (K size : ℕ) (numbers : List Z → List ℕ) (zs : Bor (List Z)) (q : ℕ) (r : Result (Overlapped Z) Refusal) : Type 0 where
  pub answer : RunAnswer K (numbers zs.now) q (run_of r)
  pub is_part : (o : Overlapped Z) → r ≡ Ok o → IsPart size zs (the_run o) o.part
  pub over_valid : ValidMap K K (numbers zs.now) → (o : Overlapped Z) → r ≡ Ok o → numbers o.part.now ≡ overlapped K (numbers zs.now) q
