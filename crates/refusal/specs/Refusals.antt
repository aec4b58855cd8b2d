-- The scope's table "Refusals in checking order": "A refusal is its number and a place, counted from 0 and 0 unless said".
use Rattle.std.specs.Prelude.{ℕ}
use Rattle.refusal.specs.declared.Refusal.{Refusal}
use Rattle.refusal.specs.declared.Refusal.TheVariants.{DepthOutOfRange, DepthThresholdOutOfRange, Chi2ThresholdIsNan, InvalidFactor, InvalidProtected, LengthMismatch, InvalidMap, EntryTooDeep, InvalidMapDensity, InvalidRange, HashOutOfRange, CellNotAbove, InvalidDensity, CountOverflow, ProductNotFinite, FiguresDiffer, NoSpace, InvalidQuery}

-- the row of the table; of note 2 of 02: "13, an entry deeper than 13 is narrowed, place its entry, tried after 5"; of note 6: "14, a
-- range is empty, ends past N(29), or doesn't start above the previous end, place its range, tried after 6"; of note 7: "15, a listed value
-- is not a valid zuniq or not above the one before, place its index, tried after 3"; of note 8: "16, the figures are not those an ask would
-- answer, tried after 10"
abbrev pub number_of : Refusal → ℕ
number_of DepthOutOfRange = 1
number_of DepthThresholdOutOfRange = 2
number_of Chi2ThresholdIsNan = 3
number_of InvalidFactor = 3
number_of (InvalidProtected parent) = 15
number_of LengthMismatch = 4
number_of (InvalidMap entry) = 5
number_of (EntryTooDeep entry) = 13
number_of (InvalidMapDensity entry) = 6
number_of (InvalidRange range) = 14
number_of (HashOutOfRange cell) = 7
number_of (CellNotAbove cell) = 8
number_of (InvalidDensity cell) = 9
number_of (CountOverflow cell) = 10
number_of ProductNotFinite = 10
number_of FiguresDiffer = 16
number_of NoSpace = 11
number_of (InvalidQuery query) = 12

-- the place that the row names, 0 where it names none
abbrev pub place_of : Refusal → ℕ
place_of DepthOutOfRange = 0
place_of DepthThresholdOutOfRange = 0
place_of Chi2ThresholdIsNan = 0
place_of InvalidFactor = 0
place_of (InvalidProtected parent) = parent
place_of LengthMismatch = 0
place_of (InvalidMap entry) = entry
place_of (EntryTooDeep entry) = entry
place_of (InvalidMapDensity entry) = entry
place_of (InvalidRange range) = range
place_of (HashOutOfRange cell) = cell
place_of (CellNotAbove cell) = cell
place_of (InvalidDensity cell) = cell
place_of (CountOverflow cell) = cell
place_of ProductNotFinite = 0
place_of FiguresDiffer = 0
place_of NoSpace = 0
place_of (InvalidQuery query) = query
