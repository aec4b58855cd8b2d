-- The laws of a read that fails: how many lines a readable text has. Assumes nothing.
use mathlib.Core.Path.{◌≡◌, refl, ap, ◌∙◌}
use mathlib.Core.Bool.{Bool, true, false, cond}
use mathlib.Core.List.{List, [], ◌∷◌}
use Prim.Native.Nat.{ℕ, zero, suc, ◌+◌, ◌<◌}
use native.Mathlib.Omega.{arith}
use native.Mathlib.Numerals.{add-one}
use lib.Dec.{eqb, ltb}
use lib.ListN.{length, drop}
use borrow.Author.Tests.{ltb-true}
use Rattle.text.specs.Text.{lf, position, up_to, past}
use Rattle.map_text.specs.Lines.{settings_line, first_settings, first_cell, with_cell, cells, refused_text}
use Rattle.map_text.specs.declared.read.Settings.{Settings}
use Rattle.map_text.specs.declared.read.CountedCell.{CountedCell}
use Rattle.std.specs.Prelude.{Option, Some, None}
use Rattle.std.proofs.lemmas.Option.{none-some}
use Rattle.map_text.proofs.Passing.{cell_ended}
use Rattle.mombuild.specs.Mombuild.{unreadable, readable, reading_of, reading, occurrences, broken_off}

-- ---- lines
-- A line that is ended has one LF.
lines_from : (l : List ℕ) → position lf l < length l → occurrences lf l ≡ suc (occurrences lf (drop (suc (position lf l)) l))
unfolding occurrences position
lines_from [] p = absurd (omega arith)
lines_from (x ∷ l) p = by (eqb x lf) refl p (lines_from l)
  where
    by : (t : Bool) → eqb x lf ≡ t → cond t 0 (suc (position lf l)) < suc (length l)
        → (position lf l < length l → occurrences lf l ≡ suc (occurrences lf (drop (suc (position lf l)) l)))
        → cond t (suc (occurrences lf l)) (occurrences lf l) ≡ suc (occurrences lf (drop (cond t 0 (suc (position lf l))) l))
    by true e p h = refl
    by false e p h = h (omega arith)

lines_past : (l : List ℕ) → position lf l < length l → occurrences lf l ≡ suc (occurrences lf (past lf l))
unfolding past
lines_past l p = rw (add-one (position lf l)) (lines_from l p)

settings_ended : (l : List ℕ) {s : Settings} → first_settings l ≡ Some s → position lf l < length l
unfolding first_settings
settings_ended l {s} e = by (ltb (position lf l) (length l)) refl e
  where
    by : (t : Bool) → ltb (position lf l) (length l) ≡ t → cond t (settings_line (up_to lf l)) None ≡ Some s → position lf l < length l
    by true p e = ltb-true (position lf l) (length l) p
    by false p e = absurd (none-some s e)

-- Cells that are all read have an LF each.
cells-lines : (most line : ℕ) (l : List ℕ) → (cells most line l).unreadable ≡ None → occurrences lf l ≡ length (cells most line l).hashes
unfolding cells occurrences
cells-lines zero line [] e = refl
cells-lines zero line (x ∷ l) e = let z : ◌≡◌ {A = ℕ} 0 1 = cc in absurd (omega arith)
cells-lines (suc most) line [] e = refl
cells-lines (suc most) line (x ∷ l) e = by (first_cell (x ∷ l)) refl e (cells-lines most (line + 1) (past lf (x ∷ l)))
  where
    by : (c : Option CountedCell) → first_cell (x ∷ l) ≡ c → (with_cell c line (cells most (line + 1) (past lf (x ∷ l)))).unreadable ≡ None
        → ((cells most (line + 1) (past lf (x ∷ l))).unreadable ≡ None → occurrences lf (past lf (x ∷ l)) ≡ length (cells most (line + 1) (past lf (x ∷ l))).hashes)
        → occurrences lf (x ∷ l) ≡ length (with_cell c line (cells most (line + 1) (past lf (x ∷ l)))).hashes
    by None q e ih = let z : ◌≡◌ {A = ℕ} 0 1 = cc in absurd (omega arith)
    by (Some c) q e ih = lines_past (x ∷ l) (cell_ended (x ∷ l) q) ∙ ap suc (ih e)

-- A readable text has a line for its settings and one for each cell.
readable_lines : (l : List ℕ) {D M T : ℕ} {hs ns : List ℕ} → reading l ≡ readable D M T hs ns → occurrences lf l ≡ length hs + 1
unfolding reading
readable_lines l {D} {M} {T} {hs} {ns} e = by (first_settings l) refl (cells 2048 2 (past lf l)).unreadable refl e
  where
    by : (s : Option Settings) → first_settings l ≡ s → (u : Option ℕ) → (cells 2048 2 (past lf l)).unreadable ≡ u
        → reading_of s (cells 2048 2 (past lf l)) ≡ readable D M T hs ns → occurrences lf l ≡ length hs + 1
    by None q u r e = let z : ◌≡◌ {A = ℕ} 0 1 = cc in absurd (omega arith)
    by (Some s) q (Some x) r e = let f = rw r at e in let z : ◌≡◌ {A = ℕ} 0 1 = cc in absurd (omega arith)
    by (Some s) q None r e =
        let f = rw r at e in
        let same : (cells 2048 2 (past lf l)).hashes ≡ hs = cc in
        omega (arith, lines_past l (settings_ended l q), cells-lines 2048 2 (past lf l) r, ap length same)

-- ---- what is printed
pub broken_in_line : (l : List ℕ) {line : ℕ} → reading l ≡ unreadable line → refused_text 0 line ≡ broken_off l
unfolding broken_off
broken_in_line l e = rw e refl

pub broken_behind : (l : List ℕ) {D M T : ℕ} {hs ns : List ℕ} → reading l ≡ readable D M T hs ns → refused_text 0 (length hs + 2) ≡ broken_off l
unfolding broken_off
broken_behind l {hs = hs} e = let lines : length hs + 2 ≡ occurrences lf l + 1 = omega (arith, readable_lines l e) in rw (e, lines) refl
