-- What the C functions of the ingest process answer of lookup in a map that comes as rows. "Our Rust ingest
-- process calls check, lookup and rows as C functions on numbers and byte slices."
use Rattle.std.specs.Prelude.{◌≡◌, List, ℕ, Option, Result}
use Rattle.refusal.specs.declared.Refusal.{Refusal}
use Rattle.mom.specs.declared.lookup.Run.{Run}
use Rattle.map_rows.specs.MapRows.{Width, map_rows, map_rows_at, ContainingOver, RunOver}
use Rattle.words.specs.Words.{containing_word, run_word}

-- The map is of this width: the word of an answer that lookup may give over the zuniqs of the rows

pub record ContainingInRows (v : Width) (D : ℕ) (bytes : List ℕ) (q r : ℕ) : Type 0 where
  pub answer : Result (Option ℕ) Refusal
  pub is : ContainingOver v (map_rows_at v D bytes) D bytes q answer
  pub told : r ≡ containing_word answer

-- "a run is answered as its first place and its length"
pub record RunInRows (v : Width) (bytes : List ℕ) (q old r number : ℕ) : Type 0 where
  pub answer : Result Run Refusal
  pub is : RunOver v (map_rows v bytes) bytes q answer
  pub told : (r, number) ≡ run_word answer old
