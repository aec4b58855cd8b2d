-- Section 7 of the scope: the lines that the program `mombuild` reads, and those that it prints.
use Rattle.std.specs.Prelude.{cond, Option, Some, None, List, [], ◌∷◌, ◌++◌, ℕ, zero, suc, ◌+◌, ltb, length}
use Rattle.zuniq.specs.Codec.{decode}
use Rattle.zuniq.specs.declared.Decoded.{Decoded}
use Rattle.text.specs.Text.{lf, comma, position, up_to, past, number, decimal}
use Rattle.map_text.specs.declared.read.Settings.{Settings}
use Rattle.map_text.specs.declared.read.CountedCell.{CountedCell}

-- ---- lines
-- "a line `D,M,T`", "fields in a fixed order parted by commas, no quoting"; "D, M: 255; T [..]: 4,294,967,295". A field that is
-- missing is empty, and an empty one is no number; one too many leaves a comma in the last.
abbrev pub settings_of : Option ℕ → Option ℕ → Option ℕ → Option Settings
settings_of (Some D) (Some M) (Some T) = Some (record { depth = D; depth_threshold = M; thousandths = T })
settings_of (Some D) (Some M) None = None
settings_of (Some D) None t = None
settings_of None m t = None

unfoldable pub settings_line : List ℕ → Option Settings
settings_line line =
    settings_of (number 255 (up_to comma line)) (number 255 (up_to comma (past comma line)))
    (number 4294967295 (past comma (past comma line)))

-- "lines `hash,count`"; "count: 4,294,967,295; hash: u64"
abbrev pub cell_of : Option ℕ → Option ℕ → Option CountedCell
cell_of (Some h) (Some n) = Some (record { hash = h; count = n })
cell_of (Some h) None = None
cell_of None n = None

unfoldable pub cell_line : List ℕ → Option CountedCell
cell_line line = cell_of (number 18446744073709551615 (up_to comma line)) (number 4294967295 (past comma line))

-- "each line ended by LF": the first line of a text, unreadable where no LF ends it
unfoldable pub first_settings : List ℕ → Option Settings
first_settings l = cond (ltb (position lf l) (length l)) (settings_line (up_to lf l)) None

unfoldable pub first_cell : List ℕ → Option CountedCell
first_cell l = cond (ltb (position lf l) (length l)) (cell_line (up_to lf l)) None

-- ---- a text
-- the cells of the lines up to the first unreadable one, and that line's number if there is one
pub record Cells : Type 0 where
  pub hashes : List ℕ
  pub counts : List ℕ
  pub unreadable : Option ℕ

abbrev pub no_cells : Option ℕ → Cells
no_cells unreadable = record { hashes = []; counts = []; unreadable = unreadable }

abbrev pub with_cell : Option CountedCell → ℕ → Cells → Cells
with_cell (Some x) line c = record { hashes = x.hash ∷ c.hashes; counts = x.count ∷ c.counts; unreadable = c.unreadable }
with_cell None line c = no_cells (Some line)

-- where a text ends there is no line more
abbrev pub unless_ended : List ℕ → Cells → Cells
unless_ended [] c = no_cells None
unless_ended (x ∷ l) c = c

-- "at most 2,048 lines `hash,count`", "a further line [..] is unreadable": the lines of a text, of which `most` may be cells and
-- the first has the number `line`
unfoldable pub cells : (most line : ℕ) → List ℕ → Cells
cells zero line l = unless_ended l (no_cells (Some line))
cells (suc most) line l = unless_ended l (with_cell (first_cell l) line (cells most (line + 1) (past lf l)))

-- two numbers at the end of a line
unfoldable pub pair_text : ℕ → ℕ → List ℕ
pair_text m n = decimal m ++ (comma ∷ (decimal n ++ (lf ∷ [])))

-- "It prints each entry as `depth,hash,count`"
unfoldable pub entry_text : ℕ → ℕ → ℕ → List ℕ
entry_text d h n = decimal d ++ (comma ∷ pair_text h n)

-- a zuniq and a count of a map; what is no zuniq is no entry
abbrev pub zuniq_text : Decoded → ℕ → List ℕ
zuniq_text (Decoded.Cell c) n = entry_text c.depth c.hash n
zuniq_text Decoded.Nothing n = []

-- the entries of a map that stands in two buffers
unfoldable pub entries_text : List ℕ → List ℕ → List ℕ
entries_text [] ns = []
entries_text (z ∷ zs) [] = []
entries_text (z ∷ zs) (n ∷ ns) = zuniq_text (decode 29 z) n ++ entries_text zs ns

-- "then `end,entries,total`"
unfoldable pub end_text : ℕ → ℕ → List ℕ
end_text entries total = 101 ∷ 110 ∷ 100 ∷ comma ∷ pair_text entries total

-- "or only `refused,number,place`"
unfoldable pub refused_text : ℕ → ℕ → List ℕ
refused_text n place = 114 ∷ 101 ∷ 102 ∷ 117 ∷ 115 ∷ 101 ∷ 100 ∷ comma ∷ pair_text n place
