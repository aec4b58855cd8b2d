-- Section 7 of the scope: what the program `mombuild` reads and prints.
use Rattle.std.specs.Prelude.{◌≡◌, cond, List, [], ◌∷◌, ◌++◌, ℕ, zero, suc, ◌+◌, eqb, Float, Option, Some, None, Result, Ok, Err, length, take, replicate}
use Rattle.std.specs.declared.ops.ControlFlow.{ControlFlow}
use Rattle.std.specs.declared.ops.ControlFlow.TheVariants.{Break, Continue}
use Rattle.refusal.specs.Refusals.{number_of, place_of}
use Rattle.refusal.specs.declared.Refusal.{Refusal}
use Rattle.merger.specs.Floats.{◌⊘◌, float}
use Rattle.build.specs.Counts.{add_counts}
use Rattle.build.specs.declared.counts.Added.{Added}
use Rattle.text.specs.Text.{lf, past, Written}
use Rattle.map_text.specs.declared.read.Settings.{Settings}
use Rattle.map_text.specs.Lines.{first_settings, Cells, cells, entries_text, end_text, refused_text}
use Rattle.mombuild.specs.declared.FailedRead.{FailedRead}

-- what is read of a text: all of its numbers, or "the line (from 1)" that is the first unreadable one
pub data Reading : Type 0 where
  unreadable : (line : ℕ) → Reading
  readable : (D M T : ℕ) (hashes counts : List ℕ) → Reading

abbrev pub reading_of_cells : ℕ → ℕ → ℕ → List ℕ → List ℕ → Option ℕ → Reading
reading_of_cells D M T hs ns (Some line) = unreadable line
reading_of_cells D M T hs ns None = readable D M T hs ns

abbrev pub reading_of : Option Settings → Cells → Reading
reading_of (Some s) c = reading_of_cells s.depth s.depth_threshold s.thousandths c.hashes c.counts c.unreadable
reading_of None c = unreadable 1

-- "a line `D,M,T` [..], then at most 2,048 lines `hash,count`"; "an empty input (line 1) is unreadable", since no LF ends its line 1
unfoldable pub reading : List ℕ → Reading
reading l = reading_of (first_settings l) (cells 2048 2 (past lf l))

-- ---- the answer
-- "T in thousandths (divided by 1000 in f64)"
unfoldable pub thousandths : ℕ → Float
thousandths T = float T ⊘ float 1000

-- a buffer of the program: 2,048 places
unfoldable pub places : List ℕ
places = replicate 2048 0

-- what is printed of an add call's answer and the two buffers afterwards
abbrev pub answer_text : Result Added Refusal → List ℕ → List ℕ → List ℕ
answer_text (Err r) zs ns = refused_text (number_of r) (place_of r)
answer_text (Ok a) zs ns = entries_text (take a.entries zs) (take a.entries ns) ++ end_text a.entries a.total

-- of the map of all cells, nothing being held and no parent protected
unfoldable pub map_text : ℕ → ℕ → Float → List ℕ → List ℕ → List ℕ
map_text D M T hs ns = let t = add_counts 29 [] D M T 0 places places hs ns in answer_text t.0 t.1 t.2

-- "number 0 with the line (from 1) for unreadable text"
abbrev pub printed : Reading → List ℕ
printed (unreadable line) = refused_text 0 line
printed (readable D M T hs ns) = map_text D M (thousandths T) hs ns

-- The program: what it prints, by what it reads. "All text is read before anything is checked."
unfoldable pub mombuild : List ℕ → List ℕ
mombuild l = printed (reading l)

-- ---- a read that fails
-- how often a byte stands in a text
unfoldable pub occurrences : ℕ → List ℕ → ℕ
occurrences b [] = 0
occurrences b (x ∷ l) = cond (eqb x b) (suc (occurrences b l)) (occurrences b l)

-- the first line that could not be read whole where a read failed behind l: the first unreadable one of l, else the one that begins behind
-- its last LF
abbrev pub broken_line : List ℕ → Reading → ℕ
broken_line l (unreadable line) = line
broken_line l (readable D M T hs ns) = occurrences lf l + 1

-- what is printed then: no map
unfoldable pub broken_off : List ℕ → List ℕ
broken_off l = refused_text 0 (broken_line l (reading l))

-- what could be read of an input: so many bytes to its end or until the buffer was full, or so many until a read failed
abbrev pub Input : Type 0
Input = Result ℕ FailedRead

-- what a read behind n bytes comes to, by its answer: how many bytes it put at the start, 0 at the end of the input, an error where it failed
abbrev pub step_of : {E : Type 0} → Result ℕ E → ℕ → ControlFlow Input ℕ
step_of (Err e) n = Break (Err (record { behind = n }))
step_of (Ok zero) n = Break (Ok n)
step_of (Ok (suc k)) n = Continue (suc k)

-- ---- the buffers
-- how many bytes were read
abbrev pub bytes_of : Input → ℕ
bytes_of (Ok n) = n
bytes_of (Err failed) = failed.behind

-- What stands in a buffer once an input is read into it: the input's first bytes, as many as the buffer has places, and so all of it where a
-- place is left; where a read failed behind so many, those.
abbrev pub HoldsInput : Input → (buffer whole : List ℕ) → Type 0
HoldsInput (Ok n) buffer whole = take n buffer ≡ take (length buffer) whole
HoldsInput (Err failed) buffer whole = take failed.behind buffer ≡ take failed.behind whole

-- What is written for an input of which so many bytes stand in the program's buffer: what the whole input asks for, whatever it is. The bytes
-- are its first ones, as many as the buffer has places, and so all of it where a place is left.
abbrev pub PrintedFor : Input → (buffer before after : List ℕ) → ℕ → Type 0
PrintedFor (Ok n) buffer before after end =
    (whole : List ℕ) → take n buffer ≡ take (length buffer) whole → Written before 0 (mombuild whole) after end
PrintedFor (Err failed) buffer before after end = Written before 0 (broken_off (take failed.behind buffer)) after end
