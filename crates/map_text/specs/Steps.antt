-- What reading the lines leaves.
use Rattle.std.specs.Prelude.{◌≡◌, Option, Some, None, MatchOption, Result, Ok, Err, List, ◌++◌, ℕ, ◌≤◌, length, drop}
use Rattle.std.specs.Borrow.{Bor}
use Rattle.text.specs.Text.{lf, past}
use Rattle.map_text.specs.Lines.{Cells, first_cell}
use Rattle.map_text.specs.declared.read.CountedCell.{CountedCell}
use Rattle.map_text.specs.declared.read.UnreadableLine.{UnreadableLine}

-- what reading n cells answers
abbrev pub cell_lines : ℕ → Option ℕ → Result ℕ UnreadableLine
cell_lines n None = Ok n
cell_lines n (Some line) = Err (record { line = line })

-- What reading the cells leaves in two buffers: the cells that were read, and all else as it was.
pub record CellsAre (c : Cells) (r : Result ℕ UnreadableLine) (hs ns hs' ns' : List ℕ) : Type 0 where
  pub answer : r ≡ cell_lines (length c.hashes) c.unreadable
  pub paired : length c.hashes ≡ length c.counts
  pub fit : length c.hashes ≤ 2048
  pub hashes_are : hs' ≡ c.hashes ++ drop (length c.hashes) hs
  pub counts_are : ns' ≡ c.counts ++ drop (length c.counts) ns

-- What reading the line that a text begins with answers: its cell, and what stands behind it.
abbrev pub FirstCellIs : List ℕ → Option (CountedCell × Bor (List ℕ)) → Type 0
FirstCellIs l r = MatchOption r (first_cell l ≡ None) (λ x. (first_cell l ≡ Some x.0) × (x.1.now ≡ past lf l))
