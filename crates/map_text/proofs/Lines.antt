-- The laws of lines, by what stands before and behind their commas. Assumes nothing.
use mathlib.Core.Path.{◌≡◌, refl, ap, sym, ◌∙◌}
use mathlib.Core.List.{List, []}
use Prim.Native.Nat.{ℕ}
use native.Mathlib.Omega.{arith}
use lib.ListN.{length}
use borrow.Author.Tests.{lt-ltb, le-ltb}
use Rattle.std.specs.Prelude.{Option, Some, None}
use Rattle.text.specs.Text.{lf, comma, position, up_to, past, SplitAtFirst, number}
use Rattle.map_text.specs.Lines.{settings_of, settings_line, cell_of, cell_line, first_cell}
use Rattle.text.proofs.Parts.{past-none}
use Rattle.text.proofs.Numbers.{number-of_none, number-le}

-- ---- `hash,count`
cell_no_count : (x : Option ℕ) → cell_of x None ≡ None
cell_no_count (Some h) = refl
cell_no_count None = refl

-- A line without a comma.
pub cell_alone : (line : List ℕ) → position comma line ≡ length line → None ≡ cell_line line
unfolding cell_line
cell_alone line e =
    let gone = ap (number 4294967295) (past-none comma line (omega arith)) ∙ number-of_none 4294967295 [] refl in
    sym (ap (cell_of (number 18446744073709551615 (up_to comma line))) gone ∙ cell_no_count (number 18446744073709551615 (up_to comma line)))

-- What stands before the comma and behind it.
pub cell_is : {line hash count : List ℕ} → SplitAtFirst comma line hash count → {x y : Option ℕ} → number 18446744073709551615 hash ≡ x
    → number 4294967295 count ≡ y → cell_of x y ≡ cell_line line
unfolding cell_line
cell_is w p q = rw (← p, ← q, w.before_is, w.behind_is) refl

-- ---- `D,M,T`
settings_no_thousandths : (x y : Option ℕ) → settings_of x y None ≡ None
settings_no_thousandths (Some D) (Some M) = refl
settings_no_thousandths (Some D) None = refl
settings_no_thousandths None y = refl

-- A line with fewer than two commas.
settings_short : (line : List ℕ) → past comma (past comma line) ≡ [] → None ≡ settings_line line
unfolding settings_line
settings_short line e =
    let gone = ap (number 4294967295) e ∙ number-of_none 4294967295 [] refl in
    sym (ap (settings_of (number 255 (up_to comma line)) (number 255 (up_to comma (past comma line)))) gone
    ∙ settings_no_thousandths (number 255 (up_to comma line)) (number 255 (up_to comma (past comma line))))

pub settings_alone : (line : List ℕ) → position comma line ≡ length line → None ≡ settings_line line
settings_alone line e =
    let none = past-none comma line (omega arith) in
    settings_short line (ap (past comma) none ∙ past-none comma [] (omega arith))

module _ {line depth rest : List ℕ} (v : SplitAtFirst comma line depth rest) where
  pub settings_pair : position comma rest ≡ length rest → None ≡ settings_line line
  settings_pair f = settings_short line (ap (past comma) (sym v.behind_is) ∙ past-none comma rest (omega arith))

  -- What stands before the first comma, before the second, and behind it.
  pub settings_are : {threshold thousandths : List ℕ} → SplitAtFirst comma rest threshold thousandths → {x y z : Option ℕ} → number 255 depth ≡ x → number 255 threshold ≡ y
      → number 4294967295 thousandths ≡ z → settings_of x y z ≡ settings_line line
  unfolding settings_line
  settings_are w p q s = rw (← p, ← q, ← s, w.before_is, w.behind_is, v.before_is, v.behind_is) refl

-- ---- the line that a text begins with
pub first_unended : (l : List ℕ) → position lf l ≡ length l → first_cell l ≡ None
unfolding first_cell
first_unended l e = rw (le-ltb (position lf l) (length l) (omega arith)) refl

pub first_ended : {l line behind : List ℕ} → SplitAtFirst lf l line behind → first_cell l ≡ cell_line line
unfolding first_cell
first_ended {l} w = rw (lt-ltb (position lf l) (length l) w.there, w.before_is) refl

-- what `read_cell` and `read_settings` use of a line without a comma, and of a number that is cast
pub ruleset lines = (cell_alone, settings_alone, number-le)
