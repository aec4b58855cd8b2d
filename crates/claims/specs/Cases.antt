-- The starred cases of the scope and those of the requests, as one joint table: each row is a test that is computed from the
-- definitions that the contracts of the calls use, and all of them hold. Assumes nothing.
use Rattle.std.specs.Prelude.{Result, Ok, Err, ◌≡◌, refl, Bool, true, false, not, ◌&&◌, List, [], ◌∷◌, ◌++◌, ℕ, zero, suc, ◌+◌, ◌*◌, ◌-◌, eqb, ℤ, pos, negsuc, neg_ℤ, length, Float}
use Rattle.std.proofs.Math.Option.{Option, none, some}
use Rattle.std.specs.Float.Ieee as Ieee
use Rattle.std.specs.Float.{nan, inf, fin}
use Rattle.std.specs.Float.Ieee.{is_nan}
use Rattle.zuniq.specs.Cells.{n_hash, lies_in, overlap, start, end}
use Rattle.refusal.specs.Refusals.{number_of, place_of}
use Rattle.refusal.specs.declared.Refusal.{Refusal}
use Rattle.zuniq.specs.Codec.{zuniq, encode, hash_at, is_zuniq_at, cell_up_to, decode, overlap_of, overlap_test}
use Rattle.zuniq.specs.declared.Decoded.{Decoded}
use Rattle.protection.specs.Protected.{is_listed, is_protected, refusal_from, protected_refusal}
use Rattle.merger.specs.Floats.{0·0, 1·0, invalid_density}
use Rattle.merger.specs.Merge.{chi_of_counts, merge_by_chi, merge_counts, accept_counts, quad_refusal, count_merger}
use Rattle.merger.specs.ChiError.{Fraction, exact_value, product_of, triples_of, distance, chi_within, chi_exact}
use Rattle.merger.specs.declared.Merge.{Merge}
use Rattle.mom.specs.Map.{is_yes, overlaps, fault_after, fault_of, fault_at, at_or, fault_from, first_fault}
use Rattle.build.specs.Map.{Entry, entry, joined, listed, whole, tops, defined_map}
use Rattle.build.specs.Stack.{step, collapse_up_to, collapse, run}
use Rattle.build.specs.Buffers.{batch, laid, filled, read_onto, held}
use Rattle.build.specs.Add.{settings_refusal, lengths_refusal, cell_refusal, cells_refusal, sum_refusal, total_refusal, map_refusal, sum_of, cell_end, map_end, space_refusal}
use Rattle.build.specs.Calls.{Buffers, add_call}
use Rattle.build.specs.Counts.{counts_refusal, add_counts}
use Rattle.build.specs.declared.counts.Added.{Added as CountsAdded}
use Rattle.build.specs.Densities.{density_refusal}
use Rattle.combine.specs.Overlay.{some_entry, fits, part, value_in, overlay_in, overlay}
use Rattle.combine.specs.Rules.{kept, combined, extras, split_count, defined_pool}
use Rattle.combine.specs.Slices.{entries_of}
use Rattle.combine.specs.Pool as Combining
use Rattle.combine.specs.Pool.{Given, pairs_refusal, places_refusal, pool_counts}
use Rattle.combine.specs.Ask.{figures_of, ask_counts, figures_refusal, commit_refusal, commit_counts}
use Rattle.combine.specs.declared.counts.Figures.{Figures}
use Rattle.moving.specs.Moving.{is_deeper, deep_refusal, entries_refusal, moving_refusal, moved_or, moved}
use Rattle.moving.specs.declared.Moved.{Moved}
use Rattle.coverage.specs.Ranges.{Range, range, from_of, to_of, ranges_of, in_ranges, all_in_ranges, in_coverage, join_touching, padded, ranges_refusal}
use Rattle.coverage.specs.Coverage.{entry_ranges, coverage_of, coverage_input_refusal, coverage_refusal, coverage_call}
use Rattle.clip.specs.Clip.{value_over, in_both, clip_in, clipped}
use Rattle.clip.specs.Call.{clip_input_refusal, clip_refusal, clip_call}
use Rattle.columns.specs.Columns as Columns
use Rattle.columns.specs.Columns.{by_column, by_row, named, rows_to_lay, rows_to_columns, columns_to_rows}
use Rattle.claims.specs.Demand3.{calls}
use Rattle.claims.specs.Former.{merge_blank_first, accept_blank_first}

pub every : List Bool → Bool
every [] = true
every (row ∷ rows) = row && every rows

-- ---- what a row of section 1 says
-- encoding answers this zuniq
is_zuniq : Result ℕ Refusal → ℕ → Bool
is_zuniq (Ok z) answer = eqb z answer
is_zuniq (Err r) answer = false

-- decoding answers this cell
is_cell : Decoded → ℕ → ℕ → Bool
is_cell (Decoded.Cell c) d h = eqb c.depth d && eqb c.hash h
is_cell Decoded.Nothing d h = false

is_none : Decoded → Bool
is_none (Decoded.Cell c) = false
is_none Decoded.Nothing = true

-- zuniq(d, h) = z, both ways, in zuniqs with the largest depth K
codes_in : ℕ → ℕ → ℕ → ℕ → Bool
codes_in K d h z = is_zuniq (encode K d h) z && is_cell (decode K z) d h

codes : ℕ → ℕ → ℕ → Bool
codes = codes_in 29

-- ---- section 1
pub section1 : List Bool
unfolding is_zuniq is_cell is_none codes_in codes zuniq n_hash encode hash_at is_zuniq_at cell_up_to decode
section1 =
    -- zuniq(29,0)=1
    codes 29 0 1
    -- (0,0)=288230376151711744
    ∷ codes 0 0 288230376151711744
    -- (0,11)=6629298651489370112
    ∷ codes 0 11 6629298651489370112
    -- (1,3): the scope prints 504403158263495552, which is no zuniq; the definition gives this number
    ∷ codes 1 3 504403158265495552
    ∷ is_none (decode 29 504403158263495552)
    -- (29,N−1)=6917529027641081855
    ∷ codes 29 (n_hash 29 - 1) 6917529027641081855
    -- "0, 2, 1152921504606846976 and 6917529027641081857 are none"
    ∷ is_none (decode 29 0)
    ∷ is_none (decode 29 2)
    ∷ is_none (decode 29 1152921504606846976)
    ∷ is_none (decode 29 6917529027641081857)
    ∷ []

-- ---- what a row of section 2 says
-- the count merger answers that the four are kept, with this chi
kept_with : Float → Result (Merge ℕ) Refusal → Bool
kept_with chi (Ok (Merge.Merged n)) = false
kept_with chi (Ok (Merge.Kept x)) = Ieee.eq x chi
kept_with chi (Err r) = false

-- the count merger answers this count
merged_to : ℕ → Result (Merge ℕ) Refusal → Bool
merged_to n (Ok (Merge.Merged m)) = eqb m n
merged_to n (Ok (Merge.Kept x)) = false
merged_to n (Err r) = false

3·0 : Float
3·0 = fin false 3 (pos 0)

3·5 : Float
3·5 = fin false 7 (negsuc 0)

5·0 : Float
5·0 = fin false 5 (pos 0)

6·0 : Float
6·0 = fin false 3 (pos 1)

-- ---- section 2: "M=0 from here on unless given"; the parent depth is 1
pub section2 : List Bool
unfolding is_listed is_protected refusal_from protected_refusal quad_refusal n_hash kept_with merged_to 3·0 3·5 5·0 6·0 count_merger merge_counts merge_by_chi chi_of_counts Ieee.add Ieee.sub Ieee.mul Ieee.div Ieee.of_int Ieee.lt Ieee.eq is_nan
section2 =
    -- "1,2,4,4: chi 3, kept at T=3, merged to 11 at 3.5"
    Ieee.eq (chi_of_counts 1 2 4 4) 3·0
    ∷ kept_with 3·0 (count_merger [] 0 3·0 1 0 1 2 4 4)
    ∷ merged_to 11 (count_merger [] 0 3·5 1 0 1 2 4 4)
    -- "0,0,0,5: kept at T=5, 5 at T=6"
    ∷ kept_with 5·0 (count_merger [] 0 5·0 1 0 0 0 0 5)
    ∷ merged_to 5 (count_merger [] 0 6·0 1 0 0 0 0 5)
    -- "4,4,4,4 kept at T=0"
    ∷ kept_with 0·0 (count_merger [] 0 0·0 1 0 4 4 4 4)
    ∷ []

-- ---- what a row of section 4 says
-- a map has exactly these entries: depth, hash and count, one after the other
is_map : List (Entry ℕ) → List ℕ → Bool
is_map [] [] = true
is_map [] (x ∷ rest) = false
is_map (e ∷ l) [] = false
is_map (e ∷ l) (d ∷ []) = false
is_map (e ∷ l) (d ∷ h ∷ []) = false
is_map (e ∷ l) (d ∷ h ∷ n ∷ rest) = eqb e.depth d && (eqb e.hash h && (eqb e.value n && is_map l rest))

-- the numbers from a on, n of them, and a number n times
from : ℕ → ℕ → List ℕ
from zero a = []
from (suc n) a = a ∷ from n (a + 1)

times : ℕ → ℕ → List ℕ
times zero a = []
times (suc n) a = a ∷ times n a

-- ---- section 4
pub section4 : List Bool
unfolding is_listed is_protected is_map from times 3·5 joined listed whole tops defined_map batch accept_counts merge_counts merge_by_chi chi_of_counts Ieee.add Ieee.sub Ieee.mul Ieee.div Ieee.of_int Ieee.lt
section4 =
    -- "D=2, cells 0 to 15 of count 1, T=3.5: (0,0) 16"
    is_map (defined_map (accept_counts 29 [] 0 3·5) 2 (batch 2 (from 16 0) (times 16 1))) (0 ∷ 0 ∷ 16 ∷ [])
    -- "with M=1 four depth-1 cells of 4"
    ∷ is_map (defined_map (accept_counts 29 [] 1 3·5) 2 (batch 2 (from 16 0) (times 16 1))) (1 ∷ 0 ∷ 4 ∷ 1 ∷ 1 ∷ 4 ∷ 1 ∷ 2 ∷ 4 ∷ 1 ∷ 3 ∷ 4 ∷ [])
    -- "D=1, cells 1,2,3,4 stay four"
    ∷ is_map (defined_map (accept_counts 29 [] 0 3·5) 1 (batch 1 (from 4 1) (times 4 1))) (1 ∷ 1 ∷ 1 ∷ 1 ∷ 2 ∷ 1 ∷ 1 ∷ 3 ∷ 1 ∷ 1 ∷ 4 ∷ 1 ∷ [])
    -- "Empty list, empty map"
    ∷ is_map (defined_map (accept_counts 29 [] 0 3·5) 2 []) []
    ∷ []

2·0 : Float
2·0 = fin false 1 (pos 1)

-- ---- section 5
pub section5 : List Bool
unfolding is_listed is_protected is_map 2·0 3·5 joined listed whole tops defined_map some_entry fits part value_in overlay_in overlay kept combined extras split_count lies_in overlap accept_counts merge_counts merge_by_chi chi_of_counts Ieee.add Ieee.sub Ieee.mul Ieee.div Ieee.of_int Ieee.lt
section5 =
    -- "Pool of (0,0) 10 and (1,1) 3 at T=2: 3, 6, 2, 2"
    is_map (defined_pool (accept_counts 29 [] 0 2·0) 1 (entry 0 0 10 ∷ []) (entry 1 1 3 ∷ [])) (1 ∷ 0 ∷ 3 ∷ 1 ∷ 1 ∷ 6 ∷ 1 ∷ 2 ∷ 2 ∷ 1 ∷ 3 ∷ 2 ∷ [])
    -- "at T=3.5 (0,0) 13"
    ∷ is_map (defined_pool (accept_counts 29 [] 0 3·5) 1 (entry 0 0 10 ∷ []) (entry 1 1 3 ∷ [])) (0 ∷ 0 ∷ 13 ∷ [])
    ∷ []

-- ---- note 1 of 02
pub note1 : List Bool
unfolding is_listed is_protected is_map from times joined listed whole tops defined_map batch accept_counts merge_counts merge_by_chi chi_of_counts Ieee.add Ieee.sub Ieee.mul Ieee.div Ieee.of_int Ieee.lt
note1 =
    -- "each cell stays as it is, since there is no parent": D=0, the twelve cells of count 1, T infinite
    is_map (defined_map (accept_counts 29 [] 0 (inf false)) 0 (batch 0 (from 12 0) (times 12 1)))
    (0 ∷ 0 ∷ 1 ∷ 0 ∷ 1 ∷ 1 ∷ 0 ∷ 2 ∷ 1 ∷ 0 ∷ 3 ∷ 1 ∷ 0 ∷ 4 ∷ 1 ∷ 0 ∷ 5 ∷ 1 ∷ 0 ∷ 6 ∷ 1 ∷ 0 ∷ 7 ∷ 1 ∷ 0 ∷ 8 ∷ 1 ∷ 0 ∷ 9 ∷ 1 ∷ 0 ∷ 10 ∷ 1 ∷ 0 ∷ 11 ∷ 1 ∷ [])
    ∷ []

-- ---- what a row of note 2 says
is_list : List ℕ → List ℕ → Bool
is_list [] [] = true
is_list [] (y ∷ ys) = false
is_list (x ∷ xs) [] = false
is_list (x ∷ xs) (y ∷ ys) = eqb x y && is_list xs ys

-- moving answers this depth and this number of entries, and leaves these zuniqs and counts in the output
leaves : Result Moved Refusal × List ℕ × List ℕ → ℕ → ℕ → List ℕ → List ℕ → Bool
leaves (Ok m, zs, vs) d n xs ws = eqb m.depth d && (eqb m.entries n && (is_list zs xs && is_list vs ws))
leaves (Err r, zs, vs) d n xs ws = false

-- moving is refused by this number, with this place, and leaves the output, which held 9 everywhere, as it was
refuses : ℕ → ℕ → Result Moved Refusal × List ℕ × List ℕ → Bool
refuses number place (Ok m, zs, vs) = false
refuses number place (Err r, zs, vs) = eqb (number_of r) number && (eqb (place_of r) place && (is_list zs (times (length zs) 9) && is_list vs (times (length vs) 9)))

-- ---- note 2 of 02: codes of narrow zuniqs, and moving
pub note2 : List Bool
unfolding is_zuniq is_cell is_none codes_in is_list leaves refuses times n_hash lies_in overlap zuniq encode hash_at is_zuniq_at cell_up_to decode overlap_of overlap_test is_yes overlaps fault_after fault_of fault_at at_or fault_from first_fault laid filled read_onto held lengths_refusal map_refusal space_refusal is_deeper deep_refusal entries_refusal moving_refusal moved_or moved
note2 =
    -- "u32 zuniqs, (2h + 1) × 4^(13−d), largest depth 13"
    codes_in 13 13 0 1
    ∷ codes_in 13 0 0 67108864
    ∷ codes_in 13 0 11 1543503872
    ∷ codes_in 13 13 (n_hash 13 - 1) 1610612735
    ∷ is_none (decode 13 0)
    ∷ is_none (decode 13 2)
    ∷ is_none (decode 13 268435456)
    ∷ is_none (decode 13 1610612737)
    -- "A narrowed map's depth is the smaller of its own and 13", whatever its entries are; "places after them are 0": (0,0) of 7
    ∷ leaves (moved 29 13 20 (288230376151711744 ∷ []) (7 ∷ []) (9 ∷ 9 ∷ []) (9 ∷ 9 ∷ [])) 13 1 (67108864 ∷ 0 ∷ []) (7 ∷ 0 ∷ [])
    ∷ leaves (moved 29 13 5 (288230376151711744 ∷ []) (7 ∷ []) (9 ∷ []) (9 ∷ [])) 5 1 (67108864 ∷ []) (7 ∷ [])
    -- "a widened one's its own"
    ∷ leaves (moved 13 29 2 (67108864 ∷ []) (7 ∷ []) (9 ∷ 9 ∷ []) (9 ∷ 9 ∷ [])) 2 1 (288230376151711744 ∷ 0 ∷ []) (7 ∷ 0 ∷ [])
    -- "13, an entry deeper than 13 is narrowed, place its entry": (13,0) and (14,4)
    ∷ refuses 13 1 (moved 29 13 14 (4294967296 ∷ 9663676416 ∷ []) (1 ∷ 2 ∷ []) (9 ∷ 9 ∷ []) (9 ∷ 9 ∷ []))
    -- "tried after 5", and before 11
    ∷ refuses 5 1 (moved 29 13 20 (1073741824 ∷ 0 ∷ []) (7 ∷ 8 ∷ []) (9 ∷ 9 ∷ []) (9 ∷ 9 ∷ []))
    ∷ refuses 13 0 (moved 29 13 20 (1073741824 ∷ []) (7 ∷ []) [] [])
    -- "For narrow maps number 1 means a depth over 13"
    ∷ refuses 1 0 (moved 13 29 14 [] [] [] [])
    -- "space is judged by that number", the number of entries
    ∷ refuses 11 0 (moved 13 29 13 (1 ∷ []) (7 ∷ []) [] [])
    ∷ []

-- ---- what a row of note 3 says
-- laying out, or the way back, answers this number of rows and leaves these bytes in the output
lays : Result ℕ Refusal × List ℕ → ℕ → List ℕ → Bool
lays (Ok number, bytes) n xs = eqb number n && is_list bytes xs
lays (Err r, bytes) n xs = false

-- it is refused by this number, with place 0, and leaves the output, which held 9 everywhere, as it was
refuses_rows : ℕ → Result ℕ Refusal × List ℕ → Bool
refuses_rows number (Ok n, bytes) = false
refuses_rows number (Err r, bytes) = eqb (number_of r) number && (eqb (place_of r) 0 && is_list bytes (times (length bytes) 9))

-- two rows that hold the numbers from 1 on, by column
columns8 : List ℕ
columns8 = 1 ∷ 9 ∷ 2 ∷ 10 ∷ 3 ∷ 11 ∷ 4 ∷ 12 ∷ 5 ∷ 13 ∷ 6 ∷ 14 ∷ 7 ∷ 15 ∷ 8 ∷ 16 ∷ []

columns12 : List ℕ
columns12 = 1 ∷ 13 ∷ 2 ∷ 14 ∷ 3 ∷ 15 ∷ 4 ∷ 16 ∷ 5 ∷ 17 ∷ 6 ∷ 18 ∷ 7 ∷ 19 ∷ 8 ∷ 20 ∷ 9 ∷ 21 ∷ 10 ∷ 22 ∷ 11 ∷ 23 ∷ 12 ∷ 24 ∷ []

columns16 : List ℕ
columns16 = 1 ∷ 17 ∷ 2 ∷ 18 ∷ 3 ∷ 19 ∷ 4 ∷ 20 ∷ 5 ∷ 21 ∷ 6 ∷ 22 ∷ 7 ∷ 23 ∷ 8 ∷ 24 ∷ 9 ∷ 25 ∷ 10 ∷ 26 ∷ 11 ∷ 27 ∷ 12 ∷ 28 ∷ 13 ∷ 29 ∷ 14 ∷ 30 ∷ 15 ∷ 31 ∷ 16 ∷ 32 ∷ []

-- ---- note 3 of 02: rows laid out by byte column, and the way back
pub note3 : List Bool
unfolding is_list lays refuses_rows from times columns8 columns12 columns16 Columns.every Columns.runs Columns.laid by_column by_row named rows_to_lay rows_to_columns columns_to_rows
note3 =
    -- "Byte j of row i stands at j × rows + i", "for 8, 12 and 16 byte rows"; "touches nothing past the rows"
    lays (rows_to_columns 8 (from 16 1) (times 17 9)) 2 (columns8 ++ (9 ∷ []))
    ∷ lays (rows_to_columns 12 (from 24 1) (times 24 9)) 2 columns12
    ∷ lays (rows_to_columns 16 (from 32 1) (times 32 9)) 2 columns16
    -- "and the way back"
    ∷ lays (columns_to_rows 8 columns8 (times 17 9)) 2 (from 16 1 ++ (9 ∷ []))
    ∷ lays (columns_to_rows 12 columns12 (times 24 9)) 2 (from 24 1)
    ∷ lays (columns_to_rows 16 columns16 (times 32 9)) 2 (from 32 1)
    -- one row stands as it stood, and no rows are accepted
    ∷ lays (rows_to_columns 12 (from 12 1) (times 12 9)) 1 (from 12 1)
    ∷ lays (rows_to_columns 16 [] (9 ∷ [])) 0 (9 ∷ [])
    -- "An uneven length, or a row length not named here, is number 4": 0 too, and where there are no bytes
    ∷ refuses_rows 4 (rows_to_columns 8 (from 15 1) (times 16 9))
    ∷ refuses_rows 4 (rows_to_columns 0 [] [])
    ∷ refuses_rows 4 (columns_to_rows 4 (from 8 1) (times 8 9))
    ∷ refuses_rows 4 (columns_to_rows 13 [] (9 ∷ []))
    -- "an output shorter than the input is 11", tried after 4
    ∷ refuses_rows 11 (rows_to_columns 8 (from 16 1) (times 15 9))
    ∷ refuses_rows 11 (columns_to_rows 12 columns12 (times 23 9))
    ∷ refuses_rows 4 (columns_to_rows 16 (from 17 1) (times 16 9))
    ∷ []

-- ---- what a row of note 4 says
-- the count merger is refused by this number, with place 0
refuses_four : ℕ → Result (Merge ℕ) Refusal → Bool
refuses_four number (Ok m) = false
refuses_four number (Err r) = eqb (number_of r) number && eqb (place_of r) 0

−1·0 : Float
−1·0 = fin true 1 (pos 0)

-- ---- note 4 of 02: blank sky; the parent depth is 1, and M = 0 unless given
pub note4 : List Bool
unfolding is_listed is_protected refusal_from protected_refusal quad_refusal n_hash kept_with merged_to refuses_four −1·0 is_map from times joined listed whole tops defined_map batch some_entry fits part value_in overlay_in overlay kept combined extras split_count lies_in overlap accept_counts count_merger merge_counts merge_by_chi chi_of_counts Ieee.add Ieee.sub Ieee.mul Ieee.div Ieee.of_int Ieee.lt Ieee.eq is_nan
note4 =
    -- "Four siblings of count 0 now merge at any T": 0, −1, −∞
    merged_to 0 (count_merger [] 0 0·0 1 0 0 0 0 0)
    ∷ merged_to 0 (count_merger [] 0 −1·0 1 0 0 0 0 0)
    ∷ merged_to 0 (count_merger [] 0 (inf true) 1 0 0 0 0 0)
    -- "where the parent depth is at least M": at M they merge, below it they are kept, with chi 0
    ∷ merged_to 0 (count_merger [] 1 0·0 1 0 0 0 0 0)
    ∷ kept_with 0·0 (count_merger [] 2 0·0 1 0 0 0 0 0)
    ∷ kept_with 0·0 (count_merger [] 2 (inf false) 1 0 0 0 0 0)
    -- nothing else changes: 4,4,4,4 and three blanks with a 1 are kept at T = 0, and a NaN is refused
    ∷ kept_with 0·0 (count_merger [] 0 0·0 1 0 4 4 4 4)
    ∷ kept_with 1·0 (count_merger [] 0 0·0 1 0 0 0 0 1)
    ∷ refuses_four 3 (count_merger [] 0 nan 1 0 0 0 0 0)
    -- "building and pooling take it over": D = 2, sixteen blank cells at T = 0 are (0,0) 0, and with M = 1 four of depth 1
    ∷ is_map (defined_map (accept_counts 29 [] 0 0·0) 2 (batch 2 (from 16 0) (times 16 0))) (0 ∷ 0 ∷ 0 ∷ [])
    ∷ is_map (defined_map (accept_counts 29 [] 1 0·0) 2 (batch 2 (from 16 0) (times 16 0))) (1 ∷ 0 ∷ 0 ∷ 1 ∷ 1 ∷ 0 ∷ 1 ∷ 2 ∷ 0 ∷ 1 ∷ 3 ∷ 0 ∷ [])
    -- pool of (0,0) 0 and (1,1) 0 at T = 0: (0,0) 0
    ∷ is_map (defined_pool (accept_counts 29 [] 0 0·0) 1 (entry 0 0 0 ∷ []) (entry 1 1 0 ∷ [])) (0 ∷ 0 ∷ 0 ∷ [])
    ∷ []

-- ---- what a row of note 6 says
-- a coverage has exactly these ranges: start and end, one after the other
are_ranges : List Range → List ℕ → Bool
are_ranges [] [] = true
are_ranges [] (x ∷ rest) = false
are_ranges (r ∷ rs) [] = false
are_ranges (r ∷ rs) (a ∷ []) = false
are_ranges (r ∷ rs) (a ∷ b ∷ rest) = eqb (from_of r) a && (eqb (to_of r) b && are_ranges rs rest)

-- writing a coverage answers this number of ranges, and leaves these starts and ends in the output
covers : Result ℕ Refusal × List ℕ × List ℕ → ℕ → List ℕ → List ℕ → Bool
covers (Ok number, ss, es) n xs ys = eqb number n && (is_list ss xs && is_list es ys)
covers (Err r, ss, es) n xs ys = false

-- it is refused by this number, with this place, and leaves the output, which held 9 everywhere, as it was
refuses_coverage : ℕ → ℕ → Result ℕ Refusal × List ℕ × List ℕ → Bool
refuses_coverage number place (Ok n, ss, es) = false
refuses_coverage number place (Err r, ss, es) = eqb (number_of r) number && (eqb (place_of r) place && (is_list ss (times (length ss) 9) && is_list es (times (length es) 9)))

-- a coverage that is given in starts and ends: accepted, or refused by 14 with this place
given_ranges : List ℕ → List ℕ → Option Refusal
given_ranges ss es = ranges_refusal (n_hash 29) 0 0 (ranges_of ss es)

accepts : Option Refusal → Bool
accepts none = true
accepts (some r) = false

refuses_range : ℕ → Option Refusal → Bool
refuses_range place none = false
refuses_range place (some r) = eqb (number_of r) 14 && eqb (place_of r) place

-- a map of this depth, in zuniqs and densities
given : ℕ → List ℕ → List Float → Given Float
given depth zs vs = record { depth = depth; zuniqs = zs; values = vs }

are_ones : List Float → Bool
are_ones [] = true
are_ones (v ∷ vs) = Ieee.eq v 1·0 && are_ones vs

-- clipping is refused by this number, with this place, and leaves the output, which held 9 and 1.0 everywhere, as it was
refuses_clip : ℕ → ℕ → Result ℕ Refusal × List ℕ × List Float → Bool
refuses_clip number place (Ok n, zs, vs) = false
refuses_clip number place (Err r, zs, vs) = eqb (number_of r) number && (eqb (place_of r) place && (is_list zs (times (length zs) 9) && are_ones vs))

-- ---- note 6 of 02: coverage and clipping, with a largest depth of 1 or 2 where the tree is walked, else of 29
pub note6 : List Bool
unfolding are_ranges covers refuses_coverage given_ranges accepts refuses_range given are_ones refuses_clip is_map is_list times −1·0 n_hash lies_in overlap start end zuniq hash_at is_zuniq_at cell_up_to decode overlap_of overlap_test is_yes overlaps fault_after fault_of fault_at at_or fault_from first_fault joined map_refusal pairs_refusal places_refusal invalid_density density_refusal ranges_of in_ranges all_in_ranges in_coverage join_touching padded ranges_refusal entry_ranges coverage_of coverage_input_refusal coverage_refusal coverage_call value_over in_both clip_in clipped clip_input_refusal clip_refusal clip_call Ieee.lt Ieee.eq is_nan
note6 =
    -- "rising ranges, none touching the next": neighbours share one, (1,0), (1,1) and (1,3), and (0,0) and (1,4)
    are_ranges (coverage_of 1 (1 ∷ 3 ∷ 7 ∷ [])) (0 ∷ 2 ∷ 3 ∷ 4 ∷ [])
    ∷ are_ranges (coverage_of 1 (4 ∷ 9 ∷ [])) (0 ∷ 5 ∷ [])
    -- "places after them are 0"; no entries, no ranges; (0,11) ends where the sky ends
    ∷ covers (coverage_call 29 (1 ∷ 3 ∷ 7 ∷ []) (9 ∷ 9 ∷ 9 ∷ []) (9 ∷ 9 ∷ 9 ∷ [])) 2 (0 ∷ 3 ∷ 0 ∷ []) (2 ∷ 4 ∷ 0 ∷ [])
    ∷ covers (coverage_call 29 [] (9 ∷ []) (9 ∷ [])) 0 (0 ∷ []) (0 ∷ [])
    ∷ covers (coverage_call 0 (6629298651489370112 ∷ []) (9 ∷ []) (9 ∷ [])) 1 (3170534137668829184 ∷ []) (3458764513820540928 ∷ [])
    -- "space is judged by it", the number of ranges, not of entries
    ∷ covers (coverage_call 29 (1 ∷ 3 ∷ []) (9 ∷ []) (9 ∷ [])) 1 (0 ∷ []) (2 ∷ [])
    ∷ refuses_coverage 11 0 (coverage_call 29 (1 ∷ 7 ∷ []) (9 ∷ []) (9 ∷ []))
    -- 1 before 4, 4 before 5, 5 before 11
    ∷ refuses_coverage 1 0 (coverage_call 30 (0 ∷ []) (9 ∷ []) [])
    ∷ refuses_coverage 4 0 (coverage_call 29 (0 ∷ []) (9 ∷ []) [])
    ∷ refuses_coverage 5 1 (coverage_call 29 (3 ∷ 1 ∷ []) [] [])
    -- "every cell that lies inside an entry and inside the coverage": (0,0) of 7 in [0, 3)
    ∷ is_map (clipped 1 (entry 0 0 7 ∷ []) (range 0 3 ∷ [])) (1 ∷ 0 ∷ 7 ∷ 1 ∷ 1 ∷ 7 ∷ 1 ∷ 2 ∷ 7 ∷ [])
    -- "while its parent, if any, doesn't lie inside both": the largest cells, shallower ones in the middle; a base cell has no parent
    ∷ is_map (clipped 2 (entry 0 0 7 ∷ []) (range 2 15 ∷ [])) (2 ∷ 2 ∷ 7 ∷ 2 ∷ 3 ∷ 7 ∷ 1 ∷ 1 ∷ 7 ∷ 1 ∷ 2 ∷ 7 ∷ 2 ∷ 12 ∷ 7 ∷ 2 ∷ 13 ∷ 7 ∷ 2 ∷ 14 ∷ 7 ∷ [])
    ∷ is_map (clipped 2 (entry 0 0 7 ∷ []) (range 0 192 ∷ [])) (0 ∷ 0 ∷ 7 ∷ [])
    -- "with the entry's density": two ranges in one entry, and two entries in one range
    ∷ is_map (clipped 1 (entry 0 0 7 ∷ entry 1 4 3 ∷ entry 1 6 5 ∷ []) (range 1 2 ∷ range 3 7 ∷ [])) (1 ∷ 1 ∷ 7 ∷ 1 ∷ 3 ∷ 7 ∷ 1 ∷ 4 ∷ 3 ∷ 1 ∷ 6 ∷ 5 ∷ [])
    -- "nothing merged": four siblings of one density
    ∷ is_map (clipped 1 (entry 1 0 7 ∷ entry 1 1 7 ∷ entry 1 2 7 ∷ entry 1 3 7 ∷ []) (range 0 48 ∷ [])) (1 ∷ 0 ∷ 7 ∷ 1 ∷ 1 ∷ 7 ∷ 1 ∷ 2 ∷ 7 ∷ 1 ∷ 3 ∷ 7 ∷ [])
    -- "Clipping to the map's own coverage gives its entries back": (0,0), (1,4), (1,6)
    ∷ is_map (clipped 1 (entry 0 0 7 ∷ entry 1 4 3 ∷ entry 1 6 5 ∷ []) (coverage_of 1 (4 ∷ 9 ∷ 13 ∷ []))) (0 ∷ 0 ∷ 7 ∷ 1 ∷ 4 ∷ 3 ∷ 1 ∷ 6 ∷ 5 ∷ [])
    -- no ranges, no entries, or none in common: no cells
    ∷ is_map (clipped 1 (entry 0 0 7 ∷ []) []) []
    ∷ is_map (clipped {A = ℕ} 1 [] (range 0 48 ∷ [])) []
    ∷ is_map (clipped 1 (entry 0 0 7 ∷ []) (range 4 48 ∷ [])) []
    -- "14, a range is empty, ends past N(29), or doesn't start above the previous end, place its range"
    ∷ accepts (given_ranges (0 ∷ 4 ∷ []) (3 ∷ 3458764513820540928 ∷ []))
    ∷ accepts (given_ranges [] [])
    ∷ refuses_range 0 (given_ranges (3 ∷ []) (3 ∷ []))
    ∷ refuses_range 1 (given_ranges (0 ∷ 9 ∷ []) (3 ∷ 8 ∷ []))
    ∷ refuses_range 1 (given_ranges (0 ∷ 4 ∷ []) (3 ∷ 3458764513820540929 ∷ []))
    ∷ refuses_range 1 (given_ranges (0 ∷ 3 ∷ []) (3 ∷ 5 ∷ []))
    ∷ refuses_range 2 (given_ranges (4 ∷ 8 ∷ 0 ∷ []) (6 ∷ 9 ∷ 3 ∷ []))
    -- a clip call: 1 before 4, 4 of each pair before 5, 5 before 6, 14 "tried after 6", and before 11
    ∷ refuses_clip 1 0 (clip_call (given 30 (0 ∷ []) []) [] [] (9 ∷ []) (1·0 ∷ []))
    ∷ refuses_clip 4 0 (clip_call (given 29 (0 ∷ []) []) [] [] (9 ∷ []) (1·0 ∷ []))
    ∷ refuses_clip 4 0 (clip_call (given 29 (0 ∷ []) (1·0 ∷ [])) (0 ∷ []) [] (9 ∷ []) (1·0 ∷ []))
    ∷ refuses_clip 4 0 (clip_call (given 29 (0 ∷ []) (1·0 ∷ [])) [] [] (9 ∷ 9 ∷ []) (1·0 ∷ []))
    ∷ refuses_clip 5 1 (clip_call (given 29 (3 ∷ 1 ∷ []) (−1·0 ∷ 1·0 ∷ [])) [] [] (9 ∷ []) (1·0 ∷ []))
    ∷ refuses_clip 6 1 (clip_call (given 29 (1 ∷ 3 ∷ []) (1·0 ∷ −1·0 ∷ [])) (3 ∷ []) (3 ∷ []) (9 ∷ []) (1·0 ∷ []))
    ∷ refuses_clip 14 1 (clip_call (given 29 (1 ∷ []) (1·0 ∷ [])) (0 ∷ 3 ∷ []) (3 ∷ 5 ∷ []) (9 ∷ []) (1·0 ∷ []))
    ∷ refuses_clip 14 0 (clip_call (given 29 (1 ∷ []) (1·0 ∷ [])) (3 ∷ []) (3 ∷ []) [] [])
    ∷ []

-- ---- what a row of note 7 says
-- the count merger is refused by this number, with this place
refuses_quad : ℕ → ℕ → Result (Merge ℕ) Refusal → Bool
refuses_quad number place (Ok m) = false
refuses_quad number place (Err r) = eqb (number_of r) number && eqb (place_of r) place

-- an add call is refused by this number, with this place, and leaves the buffers, which held 9 everywhere, as they were
refuses_add : ℕ → ℕ → Result CountsAdded Refusal × List ℕ × List ℕ → Bool
refuses_add number place (Ok a, zs, vs) = false
refuses_add number place (Err r, zs, vs) = eqb (number_of r) number && (eqb (place_of r) place && (is_list zs (times (length zs) 9) && is_list vs (times (length vs) 9)))

-- the zuniqs of (0,0), (1,0), (1,1) and (2,0)
z00 : ℕ
z00 = 288230376151711744

z10 : ℕ
z10 = 72057594037927936

z11 : ℕ
z11 = 216172782113783808

z20 : ℕ
z20 = 18014398509481984

-- ---- note 7 of 02: protected parents; M = 0 unless given. The merger's parent is (1,0); maps have a largest depth of 2, in which the zuniqs of
-- (1,0), (1,1), (0,0), (1,2) and (1,3) are 4, 12, 16, 20 and 28
pub note7 : List Bool
unfolding z00 z10 z11 z20 refuses_quad refuses_add kept_with merged_to is_list is_map from times 3·0 3·5 is_listed is_protected refusal_from protected_refusal quad_refusal n_hash zuniq hash_at is_zuniq_at cell_up_to decode joined listed whole tops defined_map batch some_entry fits part value_in overlay_in overlay kept combined extras split_count lies_in overlap accept_counts count_merger merge_counts merge_by_chi chi_of_counts add_counts add_call counts_refusal settings_refusal lengths_refusal Ieee.add Ieee.sub Ieee.mul Ieee.div Ieee.of_int Ieee.lt Ieee.eq is_nan
note7 =
    -- "A quad whose parent is listed is kept", with its chi; first, last and between others
    kept_with 3·0 (count_merger (z10 ∷ []) 0 3·5 1 0 1 2 4 4)
    ∷ kept_with 3·0 (count_merger (z20 ∷ z10 ∷ []) 0 3·5 1 0 1 2 4 4)
    ∷ kept_with 3·0 (count_merger (z10 ∷ z11 ∷ []) 0 3·5 1 0 1 2 4 4)
    ∷ kept_with 3·0 (count_merger (z20 ∷ z10 ∷ z11 ∷ []) 0 3·5 1 0 1 2 4 4)
    -- another parent, a child, and a cell of the same hash are not that parent; "An empty list changes nothing"
    ∷ merged_to 11 (count_merger (z11 ∷ []) 0 3·5 1 0 1 2 4 4)
    ∷ merged_to 11 (count_merger (z20 ∷ []) 0 3·5 1 0 1 2 4 4)
    ∷ merged_to 11 (count_merger (z00 ∷ []) 0 3·5 1 0 1 2 4 4)
    ∷ merged_to 11 (count_merger [] 0 3·5 1 0 1 2 4 4)
    -- a source among the four, and below M
    ∷ kept_with 1·0 (count_merger (z10 ∷ []) 0 3·5 1 0 0 0 0 1)
    ∷ kept_with 0·0 (count_merger (z10 ∷ []) 2 3·5 1 0 0 0 0 0)
    -- "A merger call now takes the parent's hash too, 7 if out of range"
    ∷ merged_to 11 (count_merger [] 0 3·5 1 47 1 2 4 4)
    ∷ refuses_quad 7 0 (count_merger [] 0 3·5 1 48 1 2 4 4)
    -- "15, a listed value is not a valid zuniq or not above the one before, place its index"
    ∷ refuses_quad 15 0 (count_merger (0 ∷ []) 0 3·5 1 0 1 2 4 4)
    ∷ refuses_quad 15 1 (count_merger (z10 ∷ 216172782113783810 ∷ z00 ∷ []) 0 3·5 1 0 1 2 4 4)
    ∷ refuses_quad 15 1 (count_merger (z10 ∷ z10 ∷ []) 0 3·5 1 0 1 2 4 4)
    ∷ refuses_quad 15 2 (count_merger (z10 ∷ z00 ∷ z11 ∷ []) 0 3·5 1 0 1 2 4 4)
    -- "tried after 3", and so before 4 and 7
    ∷ refuses_quad 1 0 (count_merger (0 ∷ []) 30 nan 29 0 1 2 4 4)
    ∷ refuses_quad 2 0 (count_merger (0 ∷ []) 30 nan 1 48 1 2 4 4)
    ∷ refuses_quad 3 0 (count_merger (0 ∷ []) 0 nan 1 48 1 2 4 4)
    ∷ refuses_quad 15 0 (count_merger (0 ∷ []) 0 3·5 1 48 1 2 4 4)
    ∷ refuses_add 3 0 (add_counts 29 (0 ∷ []) 1 0 nan 2 (9 ∷ []) (9 ∷ []) (48 ∷ []) [])
    ∷ refuses_add 15 0 (add_counts 29 (0 ∷ []) 1 0 3·5 2 (9 ∷ []) (9 ∷ []) (48 ∷ []) [])
    ∷ refuses_add 4 0 (add_counts 29 (z10 ∷ []) 1 0 3·5 2 (9 ∷ []) (9 ∷ []) (48 ∷ []) [])
    -- "narrow building takes narrow zuniqs": (13,0) and (0,0) of u32
    ∷ refuses_add 15 0 (add_counts 13 (z10 ∷ []) 1 0 3·5 2 (9 ∷ []) (9 ∷ []) (48 ∷ []) [])
    ∷ refuses_add 4 0 (add_counts 13 (1 ∷ 67108864 ∷ []) 1 0 3·5 2 (9 ∷ []) (9 ∷ []) (48 ∷ []) [])
    -- building: sixteen cells of 1 under (0,0) protected are four of 4; under (1,0) its four stay, and so does what is above
    ∷ is_map (defined_map (accept_counts 2 (16 ∷ []) 0 3·5) 2 (batch 2 (from 16 0) (times 16 1))) (1 ∷ 0 ∷ 4 ∷ 1 ∷ 1 ∷ 4 ∷ 1 ∷ 2 ∷ 4 ∷ 1 ∷ 3 ∷ 4 ∷ [])
    ∷ is_map (defined_map (accept_counts 2 (4 ∷ []) 0 3·5) 2 (batch 2 (from 16 0) (times 16 1)))
    (2 ∷ 0 ∷ 1 ∷ 2 ∷ 1 ∷ 1 ∷ 2 ∷ 2 ∷ 1 ∷ 2 ∷ 3 ∷ 1 ∷ 1 ∷ 1 ∷ 4 ∷ 1 ∷ 2 ∷ 4 ∷ 1 ∷ 3 ∷ 4 ∷ [])
    -- "entries may lie inside one another"
    ∷ is_map (defined_map (accept_counts 2 (16 ∷ 28 ∷ []) 0 3·5) 2 (batch 2 (from 16 0) (times 16 1)))
    (1 ∷ 0 ∷ 4 ∷ 1 ∷ 1 ∷ 4 ∷ 1 ∷ 2 ∷ 4 ∷ 2 ∷ 12 ∷ 1 ∷ 2 ∷ 13 ∷ 1 ∷ 2 ∷ 14 ∷ 1 ∷ 2 ∷ 15 ∷ 1 ∷ [])
    -- with every parent listed nothing merges
    ∷ is_map (defined_map (accept_counts 2 (4 ∷ 12 ∷ 16 ∷ 20 ∷ 28 ∷ []) 0 3·5) 2 (batch 2 (from 8 0) (times 8 1)))
    (2 ∷ 0 ∷ 1 ∷ 2 ∷ 1 ∷ 1 ∷ 2 ∷ 2 ∷ 1 ∷ 2 ∷ 3 ∷ 1 ∷ 2 ∷ 4 ∷ 1 ∷ 2 ∷ 5 ∷ 1 ∷ 2 ∷ 6 ∷ 1 ∷ 2 ∷ 7 ∷ 1 ∷ [])
    -- pooling: of (0,0) 10 and (1,1) 3 at T = 3.5 under (0,0) protected: 3, 6, 2, 2, in either order
    ∷ is_map (defined_pool (accept_counts 2 (16 ∷ []) 0 3·5) 1 (entry 0 0 10 ∷ []) (entry 1 1 3 ∷ [])) (1 ∷ 0 ∷ 3 ∷ 1 ∷ 1 ∷ 6 ∷ 1 ∷ 2 ∷ 2 ∷ 1 ∷ 3 ∷ 2 ∷ [])
    ∷ is_map (defined_pool (accept_counts 2 (16 ∷ []) 0 3·5) 1 (entry 1 1 3 ∷ []) (entry 0 0 10 ∷ [])) (1 ∷ 0 ∷ 3 ∷ 1 ∷ 1 ∷ 6 ∷ 1 ∷ 2 ∷ 2 ∷ 1 ∷ 3 ∷ 2 ∷ [])
    ∷ []

-- ---- what a row of note 8 says
-- asking answers this number of overlay cells, this number of entries and this total
asks : Result Figures Refusal → ℕ → ℕ → ℕ → Bool
asks (Ok f) cells entries total = eqb f.cells cells && (eqb f.entries entries && eqb f.total total)
asks (Err r) cells entries total = false

-- it is refused by this number, with this place
refuses_ask : ℕ → ℕ → Result Figures Refusal → Bool
refuses_ask number place (Ok f) = false
refuses_ask number place (Err r) = eqb (number_of r) number && eqb (place_of r) place

-- committing, or a pool, answers this number of entries and this total, and leaves these zuniqs and counts in the output
pools : Result CountsAdded Refusal × List ℕ × List ℕ → ℕ → ℕ → List ℕ → List ℕ → Bool
pools (Ok a, zs, vs) n sum xs ws = eqb a.entries n && (eqb a.total sum && (is_list zs xs && is_list vs ws))
pools (Err r, zs, vs) n sum xs ws = false

figures : ℕ → ℕ → ℕ → Figures
figures cells entries total = record { cells = cells; entries = entries; total = total }

-- a map of this depth, in zuniqs and counts
counted : ℕ → List ℕ → List ℕ → Given ℕ
counted depth zs vs = record { depth = depth; zuniqs = zs; values = vs }

-- the maps of the scope's pool, (0,0) 10 and (1,1) 3
ten : Given ℕ
ten = counted 0 (z00 ∷ []) (10 ∷ [])

three : Given ℕ
three = counted 1 (z11 ∷ []) (3 ∷ [])

-- the zuniqs of (1,2) and (1,3)
z12 : ℕ
z12 = 360287970189639680

z13 : ℕ
z13 = 504403158265495552

-- ---- note 8 of 02: a pool that is asked for before it is done; M = 0 and no protected parents unless given
pub note8 : List Bool
unfolding asks refuses_ask pools figures counted ten three z12 z13 z00 z10 z11 refuses_add is_list times 2·0 3·5 is_listed is_protected refusal_from protected_refusal n_hash zuniq hash_at is_zuniq_at cell_up_to decode overlap_of overlap_test is_yes overlaps fault_after fault_of fault_at at_or fault_from first_fault map_refusal laid filled joined listed whole tops defined_map some_entry fits part value_in overlay_in overlay kept combined extras split_count lies_in overlap entries_of accept_counts merge_counts merge_by_chi chi_of_counts sum_of Combining.settings_refusal pairs_refusal Combining.maps_refusal Combining.sums_refusal places_refusal Combining.pool_input_refusal Combining.pool_refusal Combining.pool_over pool_counts figures_of ask_counts figures_refusal commit_refusal commit_counts Ieee.add Ieee.sub Ieee.mul Ieee.div Ieee.of_int Ieee.lt Ieee.eq is_nan
note8 =
    -- "Ask answers the number of overlay cells, of entries after merging, and the total": at T = 2 the four stay, at T = 3.5 they merge
    asks (ask_counts [] ten three 0 2·0) 4 4 13
    ∷ asks (ask_counts [] ten three 0 3·5) 4 1 13
    -- below M, and under a protected parent, they stay; in either order; of two empty maps there is nothing
    ∷ asks (ask_counts [] ten three 1 3·5) 4 4 13
    ∷ asks (ask_counts (z00 ∷ []) ten three 0 3·5) 4 4 13
    ∷ asks (ask_counts [] three ten 0 3·5) 4 1 13
    ∷ asks (ask_counts [] (counted 0 [] []) (counted 1 [] []) 0 3·5) 0 0 0
    -- asking is refused as the pool: 1, 2, 3, 15, 4 of either map, 5 of the left map before the right, 10
    ∷ refuses_ask 1 0 (ask_counts (0 ∷ []) ten (counted 30 (0 ∷ []) []) 30 nan)
    ∷ refuses_ask 2 0 (ask_counts (0 ∷ []) ten (counted 1 (0 ∷ []) []) 30 nan)
    ∷ refuses_ask 3 0 (ask_counts (0 ∷ []) ten (counted 1 (0 ∷ []) []) 0 nan)
    ∷ refuses_ask 15 0 (ask_counts (0 ∷ []) ten (counted 1 (0 ∷ []) []) 0 3·5)
    ∷ refuses_ask 4 0 (ask_counts [] ten (counted 1 (0 ∷ []) []) 0 3·5)
    ∷ refuses_ask 4 0 (ask_counts [] (counted 0 [] (10 ∷ [])) three 0 3·5)
    ∷ refuses_ask 5 1 (ask_counts [] (counted 1 (z10 ∷ z00 ∷ []) (4294967295 ∷ 1 ∷ [])) (counted 1 (0 ∷ []) (3 ∷ [])) 0 3·5)
    ∷ refuses_ask 5 0 (ask_counts [] ten (counted 1 (0 ∷ []) (4294967295 ∷ [])) 0 3·5)
    ∷ refuses_ask 10 0 (ask_counts [] ten (counted 1 (z11 ∷ []) (4294967286 ∷ [])) 0 3·5)
    -- "Commit takes those figures with the same inputs and pools": into as many places as there are cells, or more, which are 0
    ∷ pools (commit_counts [] ten three 0 2·0 (figures 4 4 13) (times 4 9) (times 4 9)) 4 13 (z10 ∷ z11 ∷ z12 ∷ z13 ∷ []) (3 ∷ 6 ∷ 2 ∷ 2 ∷ [])
    ∷ pools (commit_counts [] ten three 0 3·5 (figures 4 1 13) (times 5 9) (times 5 9)) 1 13 (z00 ∷ times 4 0) (13 ∷ times 4 0)
    ∷ pools (commit_counts [] three ten 0 3·5 (figures 4 1 13) (times 4 9) (times 4 9)) 1 13 (z00 ∷ times 3 0) (13 ∷ times 3 0)
    ∷ pools (commit_counts [] (counted 0 [] []) (counted 1 [] []) 0 3·5 (figures 0 0 0) (9 ∷ []) (9 ∷ [])) 0 0 (0 ∷ []) (0 ∷ [])
    -- "The old single call stays"
    ∷ pools (pool_counts [] ten three 0 3·5 (times 4 9) (times 4 9)) 1 13 (z00 ∷ times 3 0) (13 ∷ times 3 0)
    -- "16, the figures are not those an ask would answer": each one more or less, those of another T, and those of another list
    ∷ refuses_add 16 0 (commit_counts [] ten three 0 3·5 (figures 3 1 13) (times 4 9) (times 4 9))
    ∷ refuses_add 16 0 (commit_counts [] ten three 0 3·5 (figures 5 1 13) (times 5 9) (times 5 9))
    ∷ refuses_add 16 0 (commit_counts [] ten three 0 3·5 (figures 4 0 13) (times 4 9) (times 4 9))
    ∷ refuses_add 16 0 (commit_counts [] ten three 0 3·5 (figures 4 2 13) (times 4 9) (times 4 9))
    ∷ refuses_add 16 0 (commit_counts [] ten three 0 3·5 (figures 4 1 12) (times 4 9) (times 4 9))
    ∷ refuses_add 16 0 (commit_counts [] ten three 0 3·5 (figures 4 1 14) (times 4 9) (times 4 9))
    ∷ refuses_add 16 0 (commit_counts [] ten three 0 2·0 (figures 4 1 13) (times 4 9) (times 4 9))
    ∷ refuses_add 16 0 (commit_counts (z00 ∷ []) ten three 0 3·5 (figures 4 1 13) (times 4 9) (times 4 9))
    -- "tried after 10", and before 11; 4 asks for output buffers of one length, which an ask has none of
    ∷ refuses_add 10 0 (commit_counts [] ten (counted 1 (z11 ∷ []) (4294967286 ∷ [])) 0 3·5 (figures 4 1 13) (times 3 9) (times 3 9))
    ∷ refuses_add 16 0 (commit_counts [] ten three 0 3·5 (figures 3 1 13) (times 3 9) (times 3 9))
    ∷ refuses_add 11 0 (commit_counts [] ten three 0 3·5 (figures 4 1 13) (times 3 9) (times 3 9))
    ∷ refuses_add 4 0 (commit_counts [] ten three 0 3·5 (figures 3 1 13) (times 4 9) (times 3 9))
    ∷ []

-- ---- note 9: how near the chi-square is
-- the exact number that an f64 stands for is n / d
stands_for : ℤ → ℕ → Float → Bool
stands_for n d x = is (exact_value x)
  where
    is : Option Fraction → Bool
    is none = false
    is (some q) = eqb (distance q.numerator n) 0 && eqb q.denominator d

-- the chi of four counts is within S / 2^50, and is not within S / 2^k
near : ℕ → ℕ → ℕ → ℕ → Bool
near n0 n1 n2 n3 = chi_within 50 (chi_of_counts n0 n1 n2 n3) n0 n1 n2 n3

not_within : ℕ → ℕ → ℕ → ℕ → ℕ → Bool
not_within k n0 n1 n2 n3 = not (chi_within k (chi_of_counts n0 n1 n2 n3) n0 n1 n2 n3)

is_total : ℕ → ℕ → ℕ → ℕ → Bool
is_total n0 n1 n2 n3 = chi_exact (chi_of_counts n0 n1 n2 n3) n0 n1 n2 n3

pub note9 : List Bool
unfolding stands_for near not_within is_total chi_within chi_exact kept_with merged_to 3·0 is_listed is_protected refusal_from protected_refusal quad_refusal n_hash
note9 =
    -- "chi being taken as the exact number that the f64 stands for"; NaN and infinity stand for none
    stands_for (pos 3) 1 (chi_of_counts 1 2 4 4)
    ∷ stands_for (pos 1306043891937443) 562949953421312 (chi_of_counts 1 2 3 4)
    ∷ stands_for (neg_ℤ (pos 1)) 35184372088832 (chi_of_counts 49 49 49 49)
    ∷ not (chi_within 50 nan 1 2 3 4)
    ∷ not (chi_within 50 (inf false) 1 2 3 4)
    -- 1, 2, 4 and 4: S = 11, P = 32 and E = 64, so that S × E − 16 × P is 192, exactly 3 × E
    ∷ kept_with 3·0 (count_merger [] 0 3·0 1 0 1 2 4 4)
    ∷ eqb (triples_of 1 2 4 4) 64
    ∷ eqb (product_of 1 2 4 4) 32
    ∷ chi_within 1000 (chi_of_counts 1 2 4 4) 1 2 4 4
    -- 1, 2, 3 and 4, of which the exact number is 2.32, and four equal counts, of which it is 0: once chi is 0, and once below it
    ∷ near 1 2 3 4
    ∷ near 1 1 1 1
    ∷ near 49 49 49 49
    -- so that at T = 0 the one four are merged, and other equal ones kept
    ∷ merged_to 196 (count_merger [] 0 0·0 1 0 49 49 49 49)
    ∷ kept_with 0·0 (count_merger [] 0 0·0 1 0 4 4 4 4)
    -- "with total S at most 4,294,967,295"
    ∷ near 1073741823 1073741824 1073741824 1073741824
    ∷ near 1 1 1 4294967292
    ∷ near 4294967292 1 1 1
    -- 2^53 in place of 2^50, and 2^52, is too much
    ∷ not_within 53 1 2 3 4
    ∷ not_within 53 49 49 49 49
    ∷ not_within 52 523355 524031 523745 523475
    -- other numbers are not that near: 2 and 3 for 2.32, and 0 for 3
    ∷ not (chi_within 50 2·0 1 2 3 4)
    ∷ not (chi_within 50 3·0 1 2 3 4)
    ∷ not (chi_within 50 0·0 1 2 4 4)
    -- "With a zero among them chi is exactly S"
    ∷ is_total 0 0 0 0
    ∷ is_total 0 2 4 4
    ∷ is_total 1 2 4 0
    ∷ is_total 5 0 0 7
    ∷ is_total 4294967295 0 0 0
    ∷ is_total 1431655765 1431655765 0 1431655765
    ∷ not (is_total 1 2 4 4)
    ∷ []

-- ---- note 10: fairer sharing of a remainder
-- the pool of the cell (0,h) of v with its first child, of count 0, in which nothing is merged, is four cells of these counts: in either order
split_into : ℕ → ℕ → List ℕ → Bool
split_into h v parts = is_list (counts_of (entry 0 h v ∷ []) (entry 1 (4 * h) 0 ∷ [])) parts && is_list (counts_of (entry 1 (4 * h) 0 ∷ []) (entry 0 h v ∷ [])) parts
  where
    values : List (Entry ℕ) → List ℕ
    values [] = []
    values (e ∷ l) = e.value ∷ values l

    counts_of : List (Entry ℕ) → List (Entry ℕ) → List ℕ
    counts_of l r = values (defined_pool (accept_counts 29 [] 1 2·0) 1 l r)

pub note10 : List Bool
unfolding split_into is_list is_map 2·0 is_listed is_protected joined listed whole tops defined_map some_entry fits part value_in overlay_in overlay kept combined extras split_count lies_in overlap accept_counts merge_counts merge_by_chi chi_of_counts Ieee.add Ieee.sub Ieee.mul Ieee.div Ieee.of_int Ieee.lt
note10 =
    -- "for parent hash h the extra ones go to children h mod 4, (h + 1) mod 4 and onwards, (v mod 4) of them": none, one, two and three, under
    -- each h mod 4
    split_into 0 4 (1 ∷ 1 ∷ 1 ∷ 1 ∷ [])
    ∷ split_into 0 5 (2 ∷ 1 ∷ 1 ∷ 1 ∷ [])
    ∷ split_into 0 6 (2 ∷ 2 ∷ 1 ∷ 1 ∷ [])
    ∷ split_into 0 7 (2 ∷ 2 ∷ 2 ∷ 1 ∷ [])
    ∷ split_into 1 4 (1 ∷ 1 ∷ 1 ∷ 1 ∷ [])
    ∷ split_into 1 5 (1 ∷ 2 ∷ 1 ∷ 1 ∷ [])
    ∷ split_into 1 6 (1 ∷ 2 ∷ 2 ∷ 1 ∷ [])
    ∷ split_into 1 7 (1 ∷ 2 ∷ 2 ∷ 2 ∷ [])
    ∷ split_into 2 4 (1 ∷ 1 ∷ 1 ∷ 1 ∷ [])
    ∷ split_into 2 5 (1 ∷ 1 ∷ 2 ∷ 1 ∷ [])
    ∷ split_into 2 6 (1 ∷ 1 ∷ 2 ∷ 2 ∷ [])
    ∷ split_into 2 7 (2 ∷ 1 ∷ 2 ∷ 2 ∷ [])
    ∷ split_into 3 4 (1 ∷ 1 ∷ 1 ∷ 1 ∷ [])
    ∷ split_into 3 5 (1 ∷ 1 ∷ 1 ∷ 2 ∷ [])
    ∷ split_into 3 6 (2 ∷ 1 ∷ 1 ∷ 2 ∷ [])
    ∷ split_into 3 7 (2 ∷ 2 ∷ 1 ∷ 2 ∷ [])
    -- the next base cells go on as the first; the largest count, and less than one each
    ∷ split_into 6 3 (1 ∷ 0 ∷ 1 ∷ 1 ∷ [])
    ∷ split_into 11 1 (0 ∷ 0 ∷ 0 ∷ 1 ∷ [])
    ∷ split_into 9 4294967295 (1073741823 ∷ 1073741824 ∷ 1073741824 ∷ 1073741824 ∷ [])
    -- level by level, each by its own parent's hash: of (0,2) of 7 child (1,11) gets 2, and of these (2,47) and (2,44) one each
    ∷ is_map (defined_pool (accept_counts 29 [] 29 2·0) 2 (entry 0 2 7 ∷ []) (entry 2 45 0 ∷ []))
    (1 ∷ 8 ∷ 2 ∷ 1 ∷ 9 ∷ 1 ∷ 1 ∷ 10 ∷ 2 ∷ 2 ∷ 44 ∷ 1 ∷ 2 ∷ 45 ∷ 0 ∷ 2 ∷ 46 ∷ 0 ∷ 2 ∷ 47 ∷ 1 ∷ [])
    -- merged again what was split is what it was
    ∷ is_map (defined_pool (accept_counts 29 [] 0 (inf false)) 2 (entry 0 2 7 ∷ []) (entry 2 45 0 ∷ [])) (0 ∷ 2 ∷ 7 ∷ [])
    -- "01's worked pool of 10 on (0,0) is unchanged"
    ∷ is_map (defined_pool (accept_counts 29 [] 0 2·0) 1 (entry 0 0 10 ∷ []) (entry 1 1 3 ∷ [])) (1 ∷ 0 ∷ 3 ∷ 1 ∷ 1 ∷ 6 ∷ 1 ∷ 2 ∷ 2 ∷ 1 ∷ 3 ∷ 2 ∷ [])
    -- on (0,1) it is 2, 3 + 3, 3, 2
    ∷ is_map (defined_pool (accept_counts 29 [] 0 2·0) 1 (entry 0 1 10 ∷ []) (entry 1 5 3 ∷ [])) (1 ∷ 4 ∷ 2 ∷ 1 ∷ 5 ∷ 6 ∷ 1 ∷ 6 ∷ 3 ∷ 1 ∷ 7 ∷ 2 ∷ [])
    ∷ []

-- ---- what a row of note 11 says
-- the answers of add calls, one after the other: 0, the number of entries and the total, or 1, the number of the refusal and its place
told : List (Result CountsAdded Refusal) → List ℕ
told [] = []
told (Ok a ∷ l) = 0 ∷ a.entries ∷ a.total ∷ told l
told (Err r ∷ l) = 1 ∷ number_of r ∷ place_of r ∷ told l

-- blank sky in two add calls under this list, D = 1 and T = 0: (1,0) to (1,3), then (1,4), into four places that held 9; what they leave and answer
blank_calls : List ℕ → Buffers ℕ × List (Result CountsAdded Refusal)
blank_calls P =
    calls 29 P 1 0 0·0 (record { number = 0; zuniqs = times 4 9; values = times 4 9 })
    (record { hashes = from 4 0; values = times 4 0 } ∷ record { hashes = 4 ∷ []; values = 0 ∷ [] } ∷ [])

-- the zuniq of (1,4)
z14 : ℕ
z14 = 648518346341351424

-- blank maps: (0,0), (1,1) and (2,0), and (1,0) to (1,3)
sky : Given ℕ
sky = counted 0 (z00 ∷ []) (0 ∷ [])

corner : Given ℕ
corner = counted 1 (z11 ∷ []) (0 ∷ [])

deep : Given ℕ
deep = counted 2 (z20 ∷ []) (0 ∷ [])

apart : Given ℕ
apart = counted 1 (z10 ∷ z11 ∷ z12 ∷ z13 ∷ []) (times 4 0)

-- ---- note 11 of 02: protected beats blank; M = 0 and T = 0 unless given. The merger's parent is (1,0); maps and their zuniqs as for note 7,
-- asks, commits and add calls in zuniqs of the largest depth 29
pub note11 : List Bool
unfolding told blank_calls calls step collapse_up_to collapse run cell_refusal cells_refusal sum_refusal total_refusal cell_end map_end space_refusal z14 sky corner deep apart z00 z10 z11 z12 z13 z20 asks pools figures counted refuses_add kept_with merged_to is_list is_map from times 3·5 −1·0 is_listed is_protected refusal_from protected_refusal quad_refusal n_hash zuniq hash_at is_zuniq_at cell_up_to decode overlap_of overlap_test is_yes overlaps fault_after fault_of fault_at at_or fault_from first_fault map_refusal laid filled read_onto held joined listed whole tops defined_map batch some_entry fits part value_in overlay_in overlay kept combined extras split_count lies_in overlap accept_counts count_merger merge_counts merge_by_chi merge_blank_first accept_blank_first chi_of_counts add_counts add_call counts_refusal settings_refusal lengths_refusal Ieee.add Ieee.sub Ieee.mul Ieee.div Ieee.of_int Ieee.lt Ieee.eq is_nan entries_of sum_of Combining.settings_refusal pairs_refusal Combining.maps_refusal Combining.sums_refusal places_refusal Combining.pool_input_refusal Combining.pool_refusal Combining.pool_over pool_counts figures_of ask_counts figures_refusal commit_refusal commit_counts
note11 =
    -- "from parent depth M on, four zero counts with a listed parent were merged and now stay", with their chi, 0: at any T, and at M
    kept_with 0·0 (count_merger (z10 ∷ []) 0 0·0 1 0 0 0 0 0)
    ∷ kept_with 0·0 (count_merger (z10 ∷ []) 0 3·5 1 0 0 0 0 0)
    ∷ kept_with 0·0 (count_merger (z10 ∷ []) 0 −1·0 1 0 0 0 0 0)
    ∷ kept_with 0·0 (count_merger (z10 ∷ []) 0 (inf true) 1 0 0 0 0 0)
    ∷ kept_with 0·0 (count_merger (z10 ∷ []) 0 (inf false) 1 0 0 0 0 0)
    ∷ kept_with 0·0 (count_merger (z10 ∷ []) 1 0·0 1 0 0 0 0 0)
    -- below M they stayed before
    ∷ kept_with 0·0 (count_merger (z10 ∷ []) 2 0·0 1 0 0 0 0 0)
    -- blank quads of other parents merge as before: another parent, a child, and a cell of the same hash are listed
    ∷ merged_to 0 (count_merger (z11 ∷ []) 0 0·0 1 0 0 0 0 0)
    ∷ merged_to 0 (count_merger (z20 ∷ []) 0 0·0 1 0 0 0 0 0)
    ∷ merged_to 0 (count_merger (z00 ∷ []) 0 0·0 1 0 0 0 0 0)
    ∷ merged_to 0 (count_merger (z20 ∷ z11 ∷ z00 ∷ []) 1 0·0 1 0 0 0 0 0)
    -- building: sixteen blank cells are (0,0) without a list; under (1,0) its four stay, and so does what is above; under (0,0) four of depth 1
    ∷ is_map (defined_map (accept_counts 2 [] 0 0·0) 2 (batch 2 (from 16 0) (times 16 0))) (0 ∷ 0 ∷ 0 ∷ [])
    ∷ is_map (defined_map (accept_counts 2 (4 ∷ []) 0 0·0) 2 (batch 2 (from 16 0) (times 16 0)))
    (2 ∷ 0 ∷ 0 ∷ 2 ∷ 1 ∷ 0 ∷ 2 ∷ 2 ∷ 0 ∷ 2 ∷ 3 ∷ 0 ∷ 1 ∷ 1 ∷ 0 ∷ 1 ∷ 2 ∷ 0 ∷ 1 ∷ 3 ∷ 0 ∷ [])
    ∷ is_map (defined_map (accept_counts 2 (16 ∷ []) 0 0·0) 2 (batch 2 (from 16 0) (times 16 0))) (1 ∷ 0 ∷ 0 ∷ 1 ∷ 1 ∷ 0 ∷ 1 ∷ 2 ∷ 0 ∷ 1 ∷ 3 ∷ 0 ∷ [])
    -- before, either list gave (0,0)
    ∷ is_map (defined_map (accept_blank_first 2 (4 ∷ []) 0 0·0) 2 (batch 2 (from 16 0) (times 16 0))) (0 ∷ 0 ∷ 0 ∷ [])
    ∷ is_map (defined_map (accept_blank_first 2 (16 ∷ []) 0 0·0) 2 (batch 2 (from 16 0) (times 16 0))) (0 ∷ 0 ∷ 0 ∷ [])
    -- with every parent listed nothing merges, blank or not: (1,0) blank, (1,1) not
    ∷ is_map (defined_map (accept_counts 2 (4 ∷ 12 ∷ 16 ∷ 20 ∷ 28 ∷ []) 0 3·5) 2 (batch 2 (from 8 0) (times 4 0 ++ times 4 1)))
    (2 ∷ 0 ∷ 0 ∷ 2 ∷ 1 ∷ 0 ∷ 2 ∷ 2 ∷ 0 ∷ 2 ∷ 3 ∷ 0 ∷ 2 ∷ 4 ∷ 1 ∷ 2 ∷ 5 ∷ 1 ∷ 2 ∷ 6 ∷ 1 ∷ 2 ∷ 7 ∷ 1 ∷ [])
    -- "Every list that protects no blank quad's parent gives its former map": (1,0) blank and not listed, (1,1) listed and not blank
    ∷ is_map (defined_map (accept_counts 2 (12 ∷ 16 ∷ []) 0 3·5) 2 (batch 2 (from 8 0) (times 4 0 ++ times 4 1))) (1 ∷ 0 ∷ 0 ∷ 2 ∷ 4 ∷ 1 ∷ 2 ∷ 5 ∷ 1 ∷ 2 ∷ 6 ∷ 1 ∷ 2 ∷ 7 ∷ 1 ∷ [])
    ∷ is_map (defined_map (accept_blank_first 2 (12 ∷ 16 ∷ []) 0 3·5) 2 (batch 2 (from 8 0) (times 4 0 ++ times 4 1))) (1 ∷ 0 ∷ 0 ∷ 2 ∷ 4 ∷ 1 ∷ 2 ∷ 5 ∷ 1 ∷ 2 ∷ 6 ∷ 1 ∷ 2 ∷ 7 ∷ 1 ∷ [])
    -- "ask's entries": (0,0) with (1,1), without and with (0,0) listed; (0,0) with (2,0), the quad above (1,0) too
    ∷ asks (ask_counts [] sky corner 0 0·0) 4 1 0
    ∷ asks (ask_counts (z00 ∷ []) sky corner 0 0·0) 4 4 0
    ∷ asks (ask_counts [] sky deep 0 0·0) 7 1 0
    ∷ asks (ask_counts (z10 ∷ []) sky deep 0 0·0) 7 7 0
    ∷ asks (ask_counts (z00 ∷ []) sky deep 0 0·0) 7 4 0
    -- "and number 16 follow": the figures without the list are refused with it, and the other way round
    ∷ refuses_add 16 0 (commit_counts (z00 ∷ []) sky corner 0 0·0 (figures 4 1 0) (times 4 9) (times 4 9))
    ∷ pools (commit_counts (z00 ∷ []) sky corner 0 0·0 (figures 4 4 0) (times 4 9) (times 4 9)) 4 0 (z10 ∷ z11 ∷ z12 ∷ z13 ∷ []) (times 4 0)
    ∷ refuses_add 16 0 (commit_counts [] sky corner 0 0·0 (figures 4 4 0) (times 4 9) (times 4 9))
    ∷ pools (commit_counts [] sky corner 0 0·0 (figures 4 1 0) (times 4 9) (times 4 9)) 1 0 (z00 ∷ times 3 0) (times 4 0)
    -- "calls handed the longer map judge by it": two add calls into four places, the second one refused by 11 where the list keeps four entries
    ∷ is_list (told (blank_calls []).1) (0 ∷ 1 ∷ 0 ∷ 0 ∷ 2 ∷ 0 ∷ [])
    ∷ is_list (blank_calls []).0.zuniqs (z00 ∷ z14 ∷ 0 ∷ 0 ∷ [])
    ∷ is_list (told (blank_calls (z00 ∷ [])).1) (0 ∷ 4 ∷ 0 ∷ 1 ∷ 11 ∷ 0 ∷ [])
    ∷ is_list (blank_calls (z00 ∷ [])).0.zuniqs (z10 ∷ z11 ∷ z12 ∷ z13 ∷ [])
    -- and so a pool that is handed them, with a place for one
    ∷ pools (pool_counts [] sky (counted 1 [] []) 0 0·0 (9 ∷ []) (9 ∷ [])) 1 0 (z00 ∷ []) (0 ∷ [])
    ∷ refuses_add 11 0 (pool_counts [] apart (counted 1 [] []) 0 0·0 (9 ∷ []) (9 ∷ []))
    ∷ []

-- ---- all of them
pub starred_cases : every (section1 ++ (section2 ++ (section4 ++ (section5 ++ (note1 ++ (note2 ++ (note3 ++ (note4 ++ (note6 ++ (note7 ++ (note8 ++ (note9 ++ (note10 ++ note11))))))))))))) ≡ true
unfolding every section1 section2 section4 section5 note1 note2 note3 note4 note6 note7 note8 note9 note10 note11
starred_cases = refl
