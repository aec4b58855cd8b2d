-- Note 6 of document 02: what is promised of the clipped map.
use Rattle.std.specs.Prelude.{◌≡◌, List, ◌↔◌, ℕ, suc, ◌/◌, ◌≤◌, ◌<◌, Float, take}
use Rattle.zuniq.specs.Cells.{n_hash}
use Rattle.mom.specs.Map.{ValidMap}
use Rattle.build.specs.Map.{Entry}
use Rattle.build.specs.Promises.{Has, LiesIn, Covers}
use Rattle.combine.specs.Slices.{entries_of}
use Rattle.combine.specs.Pool.{Given, entries}
use Rattle.coverage.specs.Ranges.{Range, ranges_of, intersection}
use Rattle.coverage.specs.Coverage.{coverage_of}
use Rattle.coverage.specs.Promises.{AllInside}

-- "every cell that lies inside an entry and inside the coverage while its parent, if any, doesn't lie inside both, with the entry's
-- density"
pub record ClipCell {A : Type 0} (K : ℕ) (l : List (Entry A)) (rs : List Range) (e : Entry A) : Type 0 where
  pub deep : e.depth ≤ K
  pub sky : e.hash < n_hash e.depth
  pub over : (c : Entry A) × Has l c × LiesIn e.depth e.hash c × (e.value ≡ c.value)
  pub inside : AllInside K rs e.depth e.hash
  pub parent : (p : ℕ) → e.depth ≡ suc p → Covers l p (e.hash / 4) → AllInside K rs p (e.hash / 4) → ⊥

-- What is shown of every call that clips: it answered n cells, and left xs and ws in the output. They are a valid map of depth 29 with
-- exactly the cells of that sentence, and its coverage is what the map's own and the given one have in common.
pub record Clips (m : Given Float) (ss es : List ℕ) (n : ℕ) (xs : List ℕ) (ws : List Float) : Type 0 where
  pub valid : ValidMap 29 29 (take n xs)
  pub cells : (e : Entry Float) → Has (entries_of (take n xs) (take n ws)) e ↔ ClipCell 29 (entries m) (ranges_of ss es) e
  pub reach : coverage_of 29 (take n xs) ≡ intersection (coverage_of 29 m.zuniqs) (ranges_of ss es)
