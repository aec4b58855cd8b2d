-- Section 4 of the scope: the add calls. A call's refusals are one definition, the first that applies in the order of the
-- table "Refusals in checking order"; its answer and both buffers afterwards are another.
use Rattle.std.specs.Prelude.{Bool, ◌||◌, not, List, [], ◌∷◌, ℕ, ◌+◌, min, eqb, leb, ltb, Float, Option as Answer, None, Some}
use Rattle.std.proofs.Math.Option.{Option, none, some}
use Rattle.std.specs.Float.Ieee.{is_nan}
use Rattle.zuniq.specs.Cells.{n_hash, end}
use Rattle.zuniq.specs.Codec.{decode}
use Rattle.zuniq.specs.declared.Decoded.{Decoded}
use Rattle.protection.specs.Protected.{protected_refusal}
use Rattle.mom.specs.Map.{first_fault}
use Rattle.mom.specs.declared.FirstFault.{FirstFault}
use Rattle.refusal.specs.declared.Refusal.{Refusal}
use Rattle.refusal.specs.Checks.{or_else, refused_if}

-- "1. The depth is over 29"; "2. M is over 29"; "3. T is NaN". Of row 1 note 1 of 02: "Number 1 then no longer covers a depth of 0", and
-- note 2: "For narrow maps number 1 means a depth over 13": over K, the largest of the zuniq type. Note 2 leaves row 2 alone.
unfoldable pub settings_refusal : ℕ → ℕ → ℕ → Float → Option Refusal
settings_refusal K D M T =
    or_else (refused_if (ltb K D) Refusal.DepthOutOfRange)
    (or_else (refused_if (ltb 29 M) Refusal.DepthThresholdOutOfRange)
    (refused_if (is_nan T) Refusal.Chi2ThresholdIsNan))

-- "4. Paired buffers differ in length, a stated number exceeds its buffer"
unfoldable pub lengths_refusal : ℕ → ℕ → ℕ → ℕ → ℕ → Option Refusal
lengths_refusal m zs vs hs batch = refused_if (not (eqb zs vs) || (ltb zs m || not (eqb hs batch))) Refusal.LengthMismatch

-- "7. A cell's hash is N(D) or more"; "8. A cell is not above the one before, or the batch's first starts before the last
-- held entry ends": `least` is where the one before ends, and a cell of depth D starts at its hash
unfoldable pub cell_refusal : ℕ → ℕ → ℕ → ℕ → Option Refusal
cell_refusal cells least h place =
    or_else (refused_if (leb cells h) (Refusal.HashOutOfRange place)) (refused_if (ltb h least) (Refusal.CellNotAbove place))

-- rows 7, 8 and 9, "tried cell by cell", for the cells from place i on; `bad` tells a density that is NaN, infinite or
-- below 0, and no count is
unfoldable pub cells_refusal : {A : Type 0} → (A → Bool) → ℕ → ℕ → ℕ → List ℕ → List A → Option Refusal
cells_refusal bad D least i [] vs = none
cells_refusal bad D least i (h ∷ hs) [] = none
cells_refusal bad D least i (h ∷ hs) (v ∷ vs) =
    or_else (cell_refusal (n_hash D) least h i)
    (or_else (refused_if (bad v) (Refusal.InvalidDensity i))
    (cells_refusal bad D (h + 1) (i + 1) hs vs))

-- the same where no value is bad
unfoldable pub hashes_refusal : ℕ → ℕ → ℕ → List ℕ → Option Refusal
hashes_refusal D least i [] = none
hashes_refusal D least i (h ∷ hs) = or_else (cell_refusal (n_hash D) least h i) (hashes_refusal D (h + 1) (i + 1) hs)

-- "10. Held counts plus batch [..] exceed 4,294,967,295 (place in an add call: the cell that passes it": of the counts from
-- place i on, with the sum of what stands before them
unfoldable pub sum_refusal : ℕ → ℕ → List ℕ → Option Refusal
sum_refusal sum i [] = none
sum_refusal sum i (n ∷ ns) = or_else (refused_if (ltb 4294967295 (sum + n)) (Refusal.CountOverflow i)) (sum_refusal (sum + n) (i + 1) ns)

-- "0 where held counts alone do"
unfoldable pub total_refusal : ℕ → List ℕ → Option Refusal
total_refusal sum ns = or_else (refused_if (ltb 4294967295 sum) (Refusal.CountOverflow 0)) (sum_refusal sum 0 ns)

-- the sum of some counts
unfoldable pub sum_of : List ℕ → ℕ
sum_of [] = 0
sum_of (n ∷ ns) = n + sum_of ns

-- the same as far as it matters: more than a u32 holds is told by one more than that
unfoldable pub capped_sum : List ℕ → ℕ
capped_sum ns = min (sum_of ns) 4294967296

-- "5. A held or given map is invalid; place: the entry."
unfoldable pub map_refusal : Answer FirstFault → Option Refusal
map_refusal None = none
map_refusal (Some first) = some (Refusal.InvalidMap first.place)

-- rows 1 to 3, 15 (note 7 of 02: "tried after 3"), 4 and 5, which both add calls have: P is the list of protected parents, m the held
-- number, `places` and `values` are the lengths of the buffers, zs the held zuniqs, `hashes` and `batch` the lengths of the batch's two lists
unfoldable pub held_refusal : ℕ → List ℕ → ℕ → ℕ → Float → ℕ → ℕ → ℕ → List ℕ → ℕ → ℕ → Option Refusal
held_refusal K P D M T m places values zs hashes batch =
    or_else (settings_refusal K D M T)
    (or_else (protected_refusal K P)
    (or_else (lengths_refusal m places values hashes batch)
    (map_refusal (first_fault K D zs))))

-- where a cell ends, as a hash of depth D
unfoldable pub cell_end : ℕ → Decoded → ℕ
cell_end D (Decoded.Cell c) = end D c.depth c.hash
cell_end D Decoded.Nothing = 0

-- where "the last held entry ends", as a hash of depth D; 0 where none is held
unfoldable pub map_end : ℕ → ℕ → List ℕ → ℕ
map_end K D [] = 0
map_end K D (z ∷ []) = cell_end D (decode K z)
map_end K D (z ∷ y ∷ zs) = map_end K D (y ∷ zs)

-- "11. The output has fewer places than held plus batch"
unfoldable pub space_refusal : ℕ → ℕ → ℕ → Option Refusal
space_refusal places m batch = refused_if (ltb places (m + batch)) Refusal.NoSpace
