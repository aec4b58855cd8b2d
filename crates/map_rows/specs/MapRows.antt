-- Section 7 of the scope: the check and lookup of a map that comes as count rows, and note 2 of document 02: as narrow rows.
use Rattle.std.specs.Prelude.{◌≡◌, cond, List, [], ◌∷◌, ℕ, ◌+◌, ltb, length, Option, Result, Ok, Err}
use Rattle.refusal.specs.declared.Refusal.{Refusal}
use Rattle.mom.specs.Map.{map_check}
use Rattle.mom.specs.Lookup.{ContainingAnswer, RunAnswer}
use Rattle.mom.specs.declared.FirstFault.{FirstFault}
use Rattle.mom.specs.declared.lookup.Run.{Run}
use Rattle.rows.specs.Rows.{rows_to_read, zuniqs_of}
use Rattle.map_rows.specs.declared.CountRows.{CountRows}

-- how wide the zuniqs of a map are: the largest depth that they hold, the bytes of a row, and those of the zuniq in it
pub record Width : Type 0 where
  pub largest : ℕ
  pub row_bytes : ℕ
  pub zuniq_bytes : ℕ

-- u64 zuniqs in count rows
abbrev pub wide : Width
wide = record { largest = 29; row_bytes = 12; zuniq_bytes = 8 }

-- Note 2: "u32 zuniqs, [..] largest depth 13", "rows of 8 bytes"
abbrev pub narrow : Width
narrow = record { largest = 13; row_bytes = 8; zuniq_bytes = 4 }

-- zuniqs of w bytes, up to depth K, in rows with a count of 4 bytes: `width 29 8` is `wide`, `width 13 4` is `narrow`
abbrev pub width : ℕ → ℕ → Width
width K w = record { largest = K; row_bytes = w + 4; zuniq_bytes = w }

-- the zuniqs of the rows
abbrev pub zuniqs_in : Width → List ℕ → List ℕ
zuniqs_in v bytes = zuniqs_of v.row_bytes v.zuniq_bytes bytes

-- "In the C check and lookup a map comes as at most 4,096 count rows (more is number 11)"; "row bytes to be read don't divide
-- evenly" (4)
unfoldable pub map_rows : Width → List ℕ → Result ℕ Refusal
map_rows v bytes = rows_to_read v.row_bytes (length bytes) (4096 ∷ [])

-- where the call has the map's depth: "The depth is over 29" (1) comes first; "For narrow maps number 1 means a depth over 13."
unfoldable pub map_rows_at : Width → ℕ → List ℕ → Result ℕ Refusal
map_rows_at v D bytes = cond (ltb v.largest D) (Err Refusal.DepthOutOfRange) (map_rows v bytes)

unfoldable pub check_rows_as : Width → Result ℕ Refusal → ℕ → List ℕ → Result (Option FirstFault) Refusal
check_rows_as v (Ok n) D bytes = map_check v.largest D (zuniqs_in v bytes)
check_rows_as v (Err r) D bytes = Err r

unfoldable pub check_rows : Width → ℕ → List ℕ → Result (Option FirstFault) Refusal
check_rows v D bytes = check_rows_as v (map_rows_at v D bytes) D bytes

-- what lookup may answer over the zuniqs of the rows
unfoldable pub ContainingOver : Width → Result ℕ Refusal → ℕ → List ℕ → ℕ → Result (Option ℕ) Refusal → Type 0
ContainingOver v (Ok n) D bytes q answer = ContainingAnswer v.largest D (zuniqs_in v bytes) q answer
ContainingOver v (Err r) D bytes q answer = answer ≡ Err r

unfoldable pub RunOver : Width → Result ℕ Refusal → List ℕ → ℕ → Result Run Refusal → Type 0
RunOver v (Ok n) bytes q answer = RunAnswer v.largest (zuniqs_in v bytes) q answer
RunOver v (Err r) bytes q answer = answer ≡ Err r

-- the bytes, as rows of zuniqs, or why they are no map's
abbrev pub IsMapRows : {Z : Type 0} → Result ℕ Refusal → List ℕ → Result (CountRows Z) Refusal → Type 0
IsMapRows (Ok n) bytes (Ok rows) = rows.bytes.now ≡ bytes
IsMapRows (Ok n) bytes (Err r) = ⊥
IsMapRows (Err x) bytes (Ok rows) = ⊥
IsMapRows (Err x) bytes (Err r) = x ≡ r
