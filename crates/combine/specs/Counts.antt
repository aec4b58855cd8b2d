-- Section 5 of the scope: what the pool keeps of the overlay.
use Rattle.std.specs.Prelude.{List, ℕ}
use Rattle.build.specs.Map.{Entry, entry}
use Rattle.combine.specs.Overlay.{overlay}
use Rattle.combine.specs.Rules.{kept, split_count, pool_rule, pooled_count}
use Rattle.combine.specs.Heads.{shown_as}
use Rattle.combine.specs.Slices.{entries_of}
use Rattle.combine.specs.Cells.{as_entry, saw_of}
use Rattle.combine.specs.declared.cells.LhsRhsBoth.{LhsRhsBoth}

-- an overlay cell with the count that it is kept with
abbrev pub pooled : LhsRhsBoth ℕ → Entry ℕ
pooled s = let e = shown_as as_entry (saw_of s) in entry e.depth e.hash (pooled_count e.value)

-- the cells that the pool keeps of the overlay, before merging
abbrev pub pool_cells : List ℕ → List ℕ → List ℕ → List ℕ → List (Entry ℕ)
pool_cells lz lv rz rv = kept pool_rule (overlay split_count 29 (entries_of lz lv) (entries_of rz rv))
