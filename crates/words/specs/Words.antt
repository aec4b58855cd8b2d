-- The answer words of the C functions, and what a call leaves behind its `&mut` numbers: "extern "C" entry points for the
-- Rust ingest process and the differential runs". A refusal, or that there is nothing, leaves them as they were. Each is read off what
-- the answer tells in the scope's terms.
use Rattle.std.specs.Prelude.{Bool, true, false, ℕ, ◌+◌, ◌*◌, ◌%◌, ◌^◌, Float, Option, None, Some, Result}
use Rattle.refusal.specs.Refusals.{number_of, place_of}
use Rattle.refusal.specs.Told.{Told, told}
use Rattle.refusal.specs.declared.Refusal.{Refusal}
use Rattle.zuniq.specs.Told.{told_cell}
use Rattle.zuniq.specs.declared.Decoded.{Decoded}
use Rattle.merger.specs.Told.{Four, told_merger}
use Rattle.merger.specs.declared.Merge.{Merge}
use Rattle.mom.specs.Told.{fault_number, told_check, told_run}
use Rattle.mom.specs.declared.Fault.{Fault}
use Rattle.mom.specs.declared.FirstFault.{FirstFault}
use Rattle.mom.specs.declared.lookup.Run.{Run}
use Rattle.build.specs.Told.{told_counts}
use Rattle.build.specs.declared.counts.Added.{Added}
use Rattle.combine.specs.Told.{told_asked}
use Rattle.combine.specs.declared.counts.Figures.{Figures}
use Rattle.moving.specs.Told.{told_moved}
use Rattle.moving.specs.declared.Moved.{Moved}

-- the high byte says what the word is, the low 56 bits are the answer or the place
abbrev pub word_of : ℕ → ℕ → ℕ
word_of kind low = kind * 2 ^ 56 + low % 2 ^ 56

-- what the high byte says: accepted, that there is nothing, that four are kept; the number of a refusal is at most 64
abbrev pub accepted : ℕ
accepted = 0

abbrev pub nothing : ℕ
nothing = 65

abbrev pub kept : ℕ
kept = 66

-- "A refusal is its number and a place"
abbrev pub refusal_word : Refusal → ℕ
refusal_word r = word_of (number_of r) (place_of r)

-- ---- the forms of a word
-- the answer is in the word
abbrev pub in_word : Told ℕ → ℕ
in_word (Told.refused number place) = word_of number place
in_word (Told.answer n) = word_of accepted n

-- the answer goes through a `&mut` number, which held `old`
abbrev pub beside_word : {X : Type 0} → Told X → X → ℕ × X
beside_word (Told.refused number place) old = (word_of number place, old)
beside_word (Told.answer x) old = (word_of accepted 0, x)

-- the first number is in the word, the second beside it
abbrev pub both_word : Told (ℕ × ℕ) → ℕ → ℕ × ℕ
both_word (Told.refused number place) old = (word_of number place, old)
both_word (Told.answer t) old = (word_of accepted t.0, t.1)

-- the answer goes beside the word, or there is none
abbrev pub beside_if_any : {X : Type 0} → Option X → X → ℕ × X
beside_if_any None old = (word_of nothing 0, old)
beside_if_any (Some x) old = (word_of accepted 0, x)

-- ---- the words
-- a value, whatever its type
unfoldable pub value_word : {X : Type 0} → Result X Refusal → X → ℕ × X
value_word a old = beside_word (told a) old

unfoldable pub found_word : {X : Type 0} → Option X → X → ℕ × X
found_word a old = beside_if_any a old

-- a number of entries, ranges or rows: "Both row calls answer the number of rows", "Both answer the number of cells or ranges"
unfoldable pub number_word : Result ℕ Refusal → ℕ
number_word a = in_word (told a)

-- the cell goes through two numbers
abbrev pub cell_word : Option (ℕ × ℕ) → ℕ → ℕ → ℕ × ℕ × ℕ
cell_word None depth hash = (word_of nothing 0, depth, hash)
cell_word (Some c) depth hash = (word_of accepted 0, c.0, c.1)

unfoldable pub decoded_word : Decoded → ℕ → ℕ → ℕ × ℕ × ℕ
decoded_word a depth hash = cell_word (told_cell a) depth hash

-- 1 or 0
abbrev pub yes_word : Told Bool → ℕ
yes_word (Told.refused number place) = word_of number place
yes_word (Told.answer true) = word_of accepted 1
yes_word (Told.answer false) = word_of accepted 0

unfoldable pub overlap_word : Result Bool Refusal → ℕ
overlap_word a = yes_word (told a)

-- the merged count is in the word, chi beside it
abbrev pub count_four_word : Told (Four ℕ) → Float → ℕ × Float
count_four_word (Told.refused number place) old = (word_of number place, old)
count_four_word (Told.answer (Four.merged n)) old = (word_of accepted n, old)
count_four_word (Told.answer (Four.kept chi)) old = (word_of kept 0, chi)

unfoldable pub count_merger_word : Result (Merge ℕ) Refusal → Float → ℕ × Float
count_merger_word a old = count_four_word (told_merger a) old

-- the merged density and chi are both beside it
abbrev pub density_four_word : Told (Four Float) → Float → ℕ × Float
density_four_word (Told.refused number place) old = (word_of number place, old)
density_four_word (Told.answer (Four.merged m)) old = (word_of accepted 0, m)
density_four_word (Told.answer (Four.kept chi)) old = (word_of kept 0, chi)

unfoldable pub density_merger_word : Result (Merge Float) Refusal → Float → ℕ × Float
density_merger_word a old = density_four_word (told_merger a) old

-- a fault has a kind of its own, 67 to 70
abbrev pub fault_kind : Fault → ℕ
fault_kind fault = 66 + fault_number fault

-- and the word holds its place
abbrev pub fault_word : Told (Option (ℕ × ℕ)) → ℕ
fault_word (Told.refused number place) = word_of number place
fault_word (Told.answer None) = word_of accepted 0
fault_word (Told.answer (Some t)) = word_of (66 + t.1) t.0

unfoldable pub map_check_word : Result (Option FirstFault) Refusal → ℕ
map_check_word a = fault_word (told_check a)

-- the place, or that there is none
abbrev pub place_word : Told (Option ℕ) → ℕ
place_word (Told.refused number place) = word_of number place
place_word (Told.answer None) = word_of nothing 0
place_word (Told.answer (Some place)) = word_of accepted place

unfoldable pub containing_word : Result (Option ℕ) Refusal → ℕ
containing_word a = place_word (told a)

unfoldable pub run_word : Result Run Refusal → ℕ → ℕ × ℕ
run_word a old = both_word (told_run a) old

-- the number of entries, and their total
unfoldable pub counts_word : Result Added Refusal → ℕ → ℕ × ℕ
counts_word a old = both_word (told_counts a) old

-- the figures of a pool that is asked for go through three numbers
abbrev pub figures_word : Told (ℕ × ℕ × ℕ) → ℕ → ℕ → ℕ → ℕ × ℕ × ℕ × ℕ
figures_word (Told.refused number place) cells entries total = (word_of number place, cells, entries, total)
figures_word (Told.answer t) cells entries total = (word_of accepted 0, t.0, t.1, t.2)

unfoldable pub asked_word : Result Figures Refusal → ℕ → ℕ → ℕ → ℕ × ℕ × ℕ × ℕ
asked_word a cells entries total = figures_word (told_asked a) cells entries total

-- the depth and the number of entries of a map that is moved: the number is in the word, as it is of all calls that leave a map
abbrev pub depth_beside : Told (ℕ × ℕ) → Told (ℕ × ℕ)
depth_beside (Told.refused number place) = Told.refused number place
depth_beside (Told.answer t) = Told.answer (t.1, t.0)

unfoldable pub moved_word : Result Moved Refusal → ℕ → ℕ × ℕ
moved_word a old = both_word (depth_beside (told_moved a)) old
