-- Note 6 of document 02: "From a map's depth and zuniqs, write its coverage". The call's refusals are one definition, the first that
-- applies in the order of the table; its answer and both output buffers afterwards are another.
use Rattle.std.specs.Prelude.{Result, Ok, Err, not, List, [], ◌∷◌, map, ℕ, eqb, ltb, length}
use Rattle.std.proofs.Math.Option.{Option, none, some}
use Rattle.refusal.specs.declared.Refusal.{Refusal}
use Rattle.zuniq.specs.Cells.{start, end}
use Rattle.zuniq.specs.Codec.{decode}
use Rattle.zuniq.specs.declared.Decoded.{Decoded}
use Rattle.mom.specs.Map.{first_fault}
use Rattle.refusal.specs.Checks.{or_else, refused_if}
use Rattle.build.specs.Add.{map_refusal}
use Rattle.coverage.specs.Ranges.{Range, range, join_touching, padded, from_of, to_of}

-- the range of the cell of a zuniq, in front of others; what is no zuniq has none
abbrev pub with_range : ℕ → Decoded → List Range → List Range
with_range K (Decoded.Cell c) rs = range (start K c.depth c.hash) (end K c.depth c.hash) ∷ rs
with_range K Decoded.Nothing rs = rs

-- the ranges of a map's entries
unfoldable pub entry_ranges : ℕ → List ℕ → List Range
entry_ranges K [] = []
entry_ranges K (z ∷ zs) = with_range K (decode K z) (entry_ranges K zs)

-- "its coverage: exactly the depth-29 cells that lie in an entry, as rising ranges, none touching the next"
unfoldable pub coverage_of : ℕ → List ℕ → List Range
coverage_of K zs = join_touching (entry_ranges K zs)

-- ---- the call
-- Rows 1, "4. Paired buffers differ in length", of the output, and 5: D is the depth of the map, zs are its zuniqs, `starts` and `ends`
-- the lengths of the output.
unfoldable pub coverage_input_refusal : ℕ → List ℕ → ℕ → ℕ → Option Refusal
coverage_input_refusal D zs starts ends =
    or_else (refused_if (ltb 29 D) Refusal.DepthOutOfRange)
    (or_else (refused_if (not (eqb starts ends)) Refusal.LengthMismatch)
    (map_refusal (first_fault 29 D zs)))

-- and 11: "Both answer the number of cells or ranges; space is judged by it"
unfoldable pub coverage_refusal : ℕ → List ℕ → ℕ → ℕ → Option Refusal
coverage_refusal D zs starts ends =
    or_else (coverage_input_refusal D zs starts ends) (refused_if (ltb starts (length (coverage_of 29 zs))) Refusal.NoSpace)

-- the answer, and the output afterwards, which held ss and es: the ranges, "and places after them are 0"
abbrev pub covered_or : Option Refusal → List Range → List ℕ → List ℕ → Result ℕ Refusal × List ℕ × List ℕ
covered_or (some r) rs ss es = (Err r, ss, es)
covered_or none rs ss es = (Ok (length rs), padded 0 (length ss) (map from_of rs), padded 0 (length es) (map to_of rs))

unfoldable pub coverage_call : ℕ → List ℕ → List ℕ → List ℕ → Result ℕ Refusal × List ℕ × List ℕ
coverage_call D zs ss es = covered_or (coverage_refusal D zs (length ss) (length es)) (coverage_of 29 zs) ss es
