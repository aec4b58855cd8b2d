-- What the C functions answer of calls whose answer is not one word of the library's: a run or an entry that lookup may give,
-- and an add, combining, moving, coverage or clip call with both buffers.
use Rattle.std.specs.Prelude.{◌≡◌, List, ℕ, Option, Result}
use Rattle.refusal.specs.declared.Refusal.{Refusal}
use Rattle.mom.specs.Lookup.{ContainingAnswer, RunAnswer}
use Rattle.mom.specs.declared.lookup.Run.{Run}
use Rattle.build.specs.declared.counts.Added.{Added}
use Rattle.moving.specs.declared.Moved.{Moved}
use Rattle.words.specs.Words.{number_word, containing_word, run_word, counts_word, moved_word}

-- the word of an answer that lookup may give; K is the largest depth of the zuniq type
pub record ContainingIs (K D : ℕ) (zs : List ℕ) (q r : ℕ) : Type 0 where
  pub answer : Result (Option ℕ) Refusal
  pub is : ContainingAnswer K D zs q answer
  pub told : r ≡ containing_word answer

pub record RunIs (K : ℕ) (zs : List ℕ) (q old r number : ℕ) : Type 0 where
  pub answer : Result Run Refusal
  pub is : RunAnswer K zs q answer
  pub told : (r, number) ≡ run_word answer old

-- the number of entries, their total, and both buffers
unfoldable pub counts_added_word : Result Added Refusal × List ℕ × List ℕ → ℕ → ℕ × ℕ × List ℕ × List ℕ
counts_added_word t old = let w = counts_word t.0 old in (w.0, w.1, t.1, t.2)

-- the number of rows, with what the call leaves in the lent buffer or columns
unfoldable pub number_told : {A : Type 0} → Result ℕ Refusal × A → ℕ × A
number_told t = (number_word t.0, t.1)

-- the number of entries, of ranges or of cells, and both buffers
unfoldable pub buffers_told : {A B : Type 0} → Result ℕ Refusal × A × B → ℕ × A × B
buffers_told t = (number_word t.0, t.1, t.2)

-- the number of entries, the depth, and both buffers
unfoldable pub moved_map_word : Result Moved Refusal × List ℕ × List ℕ → ℕ → ℕ × ℕ × List ℕ × List ℕ
moved_map_word t old = let w = moved_word t.0 old in (w.0, w.1, t.1, t.2)
