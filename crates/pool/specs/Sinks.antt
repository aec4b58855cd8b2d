-- What it takes to merge cells of counts.
use Rattle.std.specs.Prelude.{List, ℕ, ◌≤◌}
use Rattle.build.specs.Map.{Entry}
use Rattle.build.specs.Counts.{total_of}
use Rattle.combine.specs.Sinks.{Room}

abbrev pub CanMerge : List ℕ → List ℕ → List (Entry ℕ) → Type 0
CanMerge zs vs l = Room zs vs l × (total_of l ≤ 4294967295)
