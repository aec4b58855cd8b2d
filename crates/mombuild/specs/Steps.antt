-- What the inner functions of the program promise.
use Rattle.std.specs.Prelude.{◌≡◌, List, ℕ, ◌≤◌, Result, Ok, Err, length, take}
use Rattle.map_text.specs.declared.read.UnreadableLine.{UnreadableLine}
use Rattle.mombuild.specs.Mombuild.{Reading, unreadable, readable, reading}
use Rattle.mombuild.specs.declared.ReadableText.{ReadableText}

-- what was read of a text, its cells standing in two buffers
abbrev pub read_of : Result ReadableText UnreadableLine → List ℕ → List ℕ → Reading
read_of (Err e) hs ns = unreadable e.line
read_of (Ok t) hs ns = readable t.settings.depth t.settings.depth_threshold t.settings.thousandths (take t.cells hs) (take t.cells ns)

abbrev pub cells_of : Result ReadableText UnreadableLine → ℕ
cells_of (Err e) = 0
cells_of (Ok t) = t.cells

-- A text is read into the first places of two buffers.
pub record TextIs (l : List ℕ) (r : Result ReadableText UnreadableLine) (hs ns : List ℕ) : Type 0 where
  pub reads : reading l ≡ read_of r hs ns
  pub hashes_fit : cells_of r ≤ length hs
  pub counts_fit : cells_of r ≤ length ns
  pub few : cells_of r ≤ 2048
