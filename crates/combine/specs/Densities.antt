-- Section 5 of the scope: what the product keeps of the overlay.
use Rattle.std.specs.Prelude.{Bool, ◌||◌, List, ℕ, Float}
use Rattle.std.specs.Float.Ieee.{is_nan}
use Rattle.merger.specs.Floats.{is_infinite}
use Rattle.build.specs.Map.{Entry}
use Rattle.combine.specs.Overlay.{some_entry, overlay}
use Rattle.combine.specs.Rules.{kept, copy_density, product_rule}
use Rattle.combine.specs.Slices.{entries_of}

-- the cells that the product keeps of the overlay, before merging
abbrev pub product_cells : Float → List ℕ → List Float → List ℕ → List Float → List (Entry Float)
product_cells k lz lv rz rv = kept (product_rule k) (overlay copy_density 29 (entries_of lz lv) (entries_of rz rv))

-- "the product of an overlay cell, before merging, is not finite"
abbrev pub not_finite : Float → Bool
not_finite x = is_nan x || is_infinite x

abbrev pub some_not_finite : List (Entry Float) → Bool
some_not_finite l = some_entry (λ e. not_finite e.value) l
