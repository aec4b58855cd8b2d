-- Note 6 of document 02: the clip call. Its refusals are one definition, the first that applies in the order of the table; its answer
-- and the output afterwards are another.
use Rattle.std.specs.Prelude.{Result, Ok, Err, List, map, ℕ, ltb, Float, length}
use Rattle.std.proofs.Math.Option.{Option, none, some}
use Rattle.refusal.specs.declared.Refusal.{Refusal}
use Rattle.zuniq.specs.Cells.{n_hash}
use Rattle.merger.specs.Floats.{0·0}
use Rattle.mom.specs.Map.{first_fault}
use Rattle.refusal.specs.Checks.{or_else, refused_if}
use Rattle.build.specs.Map.{Entry}
use Rattle.build.specs.Buffers.{zuniq_of, value_of}
use Rattle.build.specs.Add.{map_refusal}
use Rattle.build.specs.Densities.{density_refusal}
use Rattle.combine.specs.Slices.{entries_of}
use Rattle.combine.specs.Pool.{Given, pairs_refusal, places_refusal}
use Rattle.coverage.specs.Ranges.{ranges_of, padded, ranges_refusal}
use Rattle.clip.specs.Clip.{clipped}

-- "Given a density map and a coverage": the cells, from the buffers
abbrev pub clipped_of : List ℕ → List Float → List ℕ → List ℕ → List (Entry Float)
clipped_of zs vs ss es = clipped 29 (entries_of zs vs) (ranges_of ss es)

-- Rows 1, 4, of the map, the coverage and the output, 5, 6 and 14: "tried after 6". m is the map, ss and es are the coverage, `places`
-- and `values` the lengths of the output.
unfoldable pub clip_input_refusal : Given Float → List ℕ → List ℕ → ℕ → ℕ → Option Refusal
clip_input_refusal m ss es places values =
    or_else (refused_if (ltb 29 m.depth) Refusal.DepthOutOfRange)
    (or_else (pairs_refusal (length m.zuniqs) (length m.values) (length ss) (length es) places values)
    (or_else (map_refusal (first_fault 29 m.depth m.zuniqs))
    (or_else (density_refusal 0 m.values)
    (ranges_refusal (n_hash 29) 0 0 (ranges_of ss es)))))

-- and 11: "Both answer the number of cells or ranges; space is judged by it"
unfoldable pub clip_refusal : Given Float → List ℕ → List ℕ → ℕ → ℕ → Option Refusal
clip_refusal m ss es places values =
    or_else (clip_input_refusal m ss es places values) (places_refusal places (length (clipped_of m.zuniqs m.values ss es)))

-- the answer, and the output afterwards, which held zs and vs: the cells l, "and places after them are 0"
abbrev pub clipped_or : Option Refusal → List (Entry Float) → List ℕ → List Float → Result ℕ Refusal × List ℕ × List Float
clipped_or (some r) l zs vs = (Err r, zs, vs)
clipped_or none l zs vs = (Ok (length l), padded 0 (length zs) (map (zuniq_of 29) l), padded 0·0 (length vs) (map value_of l))

unfoldable pub clip_call : Given Float → List ℕ → List ℕ → List ℕ → List Float → Result ℕ Refusal × List ℕ × List Float
clip_call m ss es zs vs = clipped_or (clip_refusal m ss es (length zs) (length vs)) (clipped_of m.zuniqs m.values ss es) zs vs
