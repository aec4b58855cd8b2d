-- Of a text that is longer than any readable one, the first 86,080 bytes are enough: what is printed for them is printed for
-- the whole text. A readable line `D,M,T` has at most 63 bytes with its LF, and a readable line `hash,count` at most 42, so
-- that after all of them a byte is left, and the line that it begins is one too many. Assumes nothing.
use mathlib.Core.Path.{◌≡◌, refl, ap, sym, ◌∙◌}
use mathlib.Core.Bool.{Bool, true, false, cond}
use mathlib.Core.List.{List, [], ◌∷◌}
use Prim.Native.Nat.{ℕ, zero, suc, ◌+◌, ◌*◌, ◌-◌, ◌≤◌, ◌<◌}
use native.Mathlib.Omega.{arith}
use lib.Dec.{eqb, leb, ltb}
use lib.ListN.{length, take, drop, length-take, length-drop}
use lib.Seq.{take-take, length-take-le, take-nil}
use borrow.Author.Tests.{lt-ltb, le-ltb, leb-true, leb-false, ltb-true, ltb-false}
use Rattle.text.specs.Text.{lf, comma, position, up_to, past, number}
use Rattle.mombuild.specs.Mombuild.{reading_of, reading, printed, mombuild}
use Rattle.map_text.specs.Lines.{settings_of, settings_line, first_settings, cell_of, cell_line, first_cell, Cells, no_cells, with_cell, unless_ended, cells}
use Rattle.map_text.specs.declared.read.Settings.{Settings}
use Rattle.map_text.specs.declared.read.CountedCell.{CountedCell}
use Rattle.std.specs.Prelude.{Option, Some, None}
use Rattle.text.proofs.Parts.{position-le}
use Rattle.text.proofs.Numbers.{number-of_many}

-- ---- long lines
length_up_to : (b : ℕ) (l : List ℕ) → length (up_to b l) ≡ position b l
unfolding up_to
length_up_to b l = length-take-le (position b l) l (position-le b l)

length-past : (b : ℕ) (l : List ℕ) → length (past b l) ≡ length l - (position b l + 1)
unfolding past
length-past b l = length-drop (position b l + 1) l

-- Of two fields in more than 41 bytes one is longer than a number.
cell_long : (line : List ℕ) → 41 < length line → cell_line line ≡ None
unfolding cell_line
cell_long line p = by (leb (position comma line) 20) refl (number 18446744073709551615 (up_to comma line)) refl
  where
    by : (t : Bool) → leb (position comma line) 20 ≡ t → (x : Option ℕ) → number 18446744073709551615 (up_to comma line) ≡ x
        → cell_of (number 18446744073709551615 (up_to comma line)) (number 4294967295 (past comma line)) ≡ None
    by true e None q = rw q refl
    by true e (Some h) q =
        let short = leb-true (position comma line) 20 e in
        rw (q, number-of_many 4294967295 (past comma line) (omega (arith, length-past comma line))) refl
    by false e x q =
        let long = leb-false (position comma line) 20 e in
        rw (number-of_many 18446744073709551615 (up_to comma line) (omega (arith, length_up_to comma line))) refl

-- Of three in more than 62 bytes likewise.
settings_long : (line : List ℕ) → 62 < length line → settings_line line ≡ None
unfolding settings_line
settings_long line p = by (leb (position comma line) 20) refl (leb (position comma (past comma line)) 20) refl (number 255 (up_to comma line)) refl (number 255 (up_to comma (past comma line))) refl
  where
    by : (t : Bool) → leb (position comma line) 20 ≡ t → (u : Bool) → leb (position comma (past comma line)) 20 ≡ u
        → (x : Option ℕ) → number 255 (up_to comma line) ≡ x → (y : Option ℕ) → number 255 (up_to comma (past comma line)) ≡ y
        → settings_of (number 255 (up_to comma line)) (number 255 (up_to comma (past comma line))) (number 4294967295 (past comma (past comma line))) ≡ None
    by true e u f None q y r = rw q refl
    by true e u f (Some D) q None r = rw (q, r) refl
    by true e true f (Some D) q (Some M) r =
        let first = leb-true (position comma line) 20 e in
        let second = leb-true (position comma (past comma line)) 20 f in
        let rest = length-past comma line in
        rw (q, r, number-of_many 4294967295 (past comma (past comma line)) (omega (arith, rest, length-past comma (past comma line)))) refl
    by true e false f (Some D) q (Some M) r =
        let long = leb-false (position comma (past comma line)) 20 f in
        rw (q, number-of_many 255 (up_to comma (past comma line)) (omega (arith, length_up_to comma (past comma line)))) refl
    by false e u f x q y r =
        let long = leb-false (position comma line) 20 e in
        rw (number-of_many 255 (up_to comma line) (omega (arith, length_up_to comma line))) refl

-- ---- the first line of a prefix
drop_of_take : (m n : ℕ) (l : List ℕ) → drop m (take n l) ≡ take (n - m) (drop m l)
drop_of_take zero n l = let e : n - 0 ≡ n = omega arith in rw e refl
drop_of_take (suc m) zero l = let e : 0 - suc m ≡ 0 = omega arith in rw e refl
drop_of_take (suc m) (suc n) [] = sym (take-nil (suc n - suc m))
drop_of_take (suc m) (suc n) (x ∷ l) = let e : suc n - suc m ≡ n - m = omega arith in rw e (drop_of_take m n l)

-- A byte that stands before the end of the prefix stands where it stood.
position-within : (b n : ℕ) (l : List ℕ) → position b l < n → position b (take n l) ≡ position b l
unfolding position
position-within b zero l p = absurd (omega arith)
position-within b (suc n) [] p = refl
position-within b (suc n) (x ∷ l) p = by (eqb x b) refl p (λ q. position-within b n l q)
  where
    by : (t : Bool) → eqb x b ≡ t → cond t 0 (suc (position b l)) < suc n → (position b l < n → position b (take n l) ≡ position b l)
        → cond t 0 (suc (position b (take n l))) ≡ cond t 0 (suc (position b l))
    by true e p h = refl
    by false e p h = ap suc (h (omega arith))

-- One that stands behind it is not in the prefix.
position-beyond : (b n : ℕ) (l : List ℕ) → n ≤ position b l → position b (take n l) ≡ length (take n l)
unfolding position
position-beyond b zero l p = refl
position-beyond b (suc n) [] p = refl
position-beyond b (suc n) (x ∷ l) p = by (eqb x b) refl p (λ q. position-beyond b n l q)
  where
    by : (t : Bool) → eqb x b ≡ t → suc n ≤ cond t 0 (suc (position b l)) → (n ≤ position b l → position b (take n l) ≡ length (take n l))
        → cond t 0 (suc (position b (take n l))) ≡ suc (length (take n l))
    by true e p h = absurd (omega arith)
    by false e p h = ap suc (h (omega arith))

-- the first line, read by f
abbrev first : {A : Type 0} → (List ℕ → A) → A → List ℕ → A
first f unread l = cond (ltb (position lf l) (length l)) (f (up_to lf l)) unread

-- A prefix as long as any line that f reads has the same first line.
first-of_take : {A : Type 0} (f : List ℕ → A) (unread : A) (n : ℕ) (l : List ℕ) → ((line : List ℕ) → n ≤ length line → f line ≡ unread)
    → first f unread (take n l) ≡ first f unread l
unfolding up_to
first-of_take {A} f unread n l long = by (ltb (position lf l) n) refl (ltb (position lf l) (length l)) refl
  where
    by : (t : Bool) → ltb (position lf l) n ≡ t → (u : Bool) → ltb (position lf l) (length l) ≡ u → first f unread (take n l) ≡ first f unread l
    by true e true g =
        let a = ltb-true (position lf l) n e in
        let b = ltb-true (position lf l) (length l) g in
        rw (position-within lf n l a, lt-ltb (position lf l) (length (take n l)) (omega (arith, length-take n l)), g, take-take (position lf l) n l (omega arith)) refl
    by true e false g =
        let a = ltb-true (position lf l) n e in
        let b = ltb-false (position lf l) (length l) g in
        rw (position-within lf n l a, le-ltb (position lf l) (length (take n l)) (omega (arith, length-take n l)), g) refl
    by false e true g =
        let a = ltb-false (position lf l) n e in
        rw (position-beyond lf n l a, le-ltb (length (take n l)) (length (take n l)) (omega arith), g) (sym (long (take (position lf l) l) (omega (arith, length-take-le (position lf l) l (position-le lf l)))))
    by false e false g =
        let a = ltb-false (position lf l) n e in
        rw (position-beyond lf n l a, le-ltb (length (take n l)) (length (take n l)) (omega arith), g) refl

-- What stands behind it is a prefix of what stood there.
past_of_take : (n : ℕ) (l : List ℕ) → position lf l < n → past lf (take n l) ≡ take (n - (position lf l + 1)) (past lf l)
unfolding past
past_of_take n l p = rw (position-within lf n l p) (drop_of_take (position lf l + 1) n l)

-- ---- lines
cell_of_take : (n : ℕ) (l : List ℕ) → 42 ≤ n → first_cell (take n l) ≡ first_cell l
unfolding first_cell
cell_of_take n l p = first-of_take cell_line None n l (λ line q. cell_long line (omega arith))

settings_of_take : (n : ℕ) (l : List ℕ) → 63 ≤ n → first_settings (take n l) ≡ first_settings l
unfolding first_settings
settings_of_take n l p = first-of_take settings_line None n l (λ line q. settings_long line (omega arith))

-- A line that is read is short.
cell_short : (l : List ℕ) (c : CountedCell) → first_cell l ≡ Some c → position lf l ≤ 41
unfolding first_cell up_to
cell_short l c e = by (leb (position lf l) 41) refl (ltb (position lf l) (length l)) refl e
  where
    by : (t : Bool) → leb (position lf l) 41 ≡ t → (u : Bool) → ltb (position lf l) (length l) ≡ u
        → cond u (cell_line (take (position lf l) l)) None ≡ Some c → position lf l ≤ 41
    by true p u g e = leb-true (position lf l) 41 p
    by false p true g e =
        let long = leb-false (position lf l) 41 p in
        let none = cell_long (take (position lf l) l) (omega (arith, length-take-le (position lf l) l (position-le lf l))) in
        let z : ◌≡◌ {A = ℕ} 0 1 = cc in
        absurd (omega arith)
    by false p false g e = let z : ◌≡◌ {A = ℕ} 0 1 = cc in absurd (omega arith)

settings_short : (l : List ℕ) (s : Settings) → first_settings l ≡ Some s → position lf l ≤ 62
unfolding first_settings up_to
settings_short l s e = by (leb (position lf l) 62) refl (ltb (position lf l) (length l)) refl e
  where
    by : (t : Bool) → leb (position lf l) 62 ≡ t → (u : Bool) → ltb (position lf l) (length l) ≡ u
        → cond u (settings_line (take (position lf l) l)) None ≡ Some s → position lf l ≤ 62
    by true p u g e = leb-true (position lf l) 62 p
    by false p true g e =
        let long = leb-false (position lf l) 62 p in
        let none = settings_long (take (position lf l) l) (omega (arith, length-take-le (position lf l) l (position-le lf l))) in
        let z : ◌≡◌ {A = ℕ} 0 1 = cc in
        absurd (omega arith)
    by false p false g e = let z : ◌≡◌ {A = ℕ} 0 1 = cc in absurd (omega arith)

-- ---- texts
-- A prefix is empty only where the text is.
unless_of_take : (n : ℕ) (l : List ℕ) (c : Cells) → 1 ≤ n → unless_ended (take n l) c ≡ unless_ended l c
unless_of_take zero l c p = absurd (omega arith)
unless_of_take (suc n) [] c p = refl
unless_of_take (suc n) (x ∷ l) c p = refl

cells-of_take : (left line n : ℕ) (l : List ℕ) → 42 * left + 1 ≤ n → cells left line (take n l) ≡ cells left line l
unfolding cells
cells-of_take zero line n l p = unless_of_take n l (no_cells (Some line)) (omega arith)
cells-of_take (suc left) line n l p =
    unless_of_take n l (with_cell (first_cell (take n l)) line (cells left (line + 1) (past lf (take n l)))) (omega arith)
    ∙ ap (unless_ended l) (rw (cell_of_take n l (omega arith)) (by (first_cell l) refl (cells-of_take left (line + 1))))
  where
    by : (x : Option CountedCell) → first_cell l ≡ x → ((n : ℕ) (l : List ℕ) → 42 * left + 1 ≤ n → cells left (line + 1) (take n l) ≡ cells left (line + 1) l)
        → with_cell x line (cells left (line + 1) (past lf (take n l))) ≡ with_cell x line (cells left (line + 1) (past lf l))
    by None e ih = refl
    by (Some c) e ih =
        let short = cell_short l c e in
        ap (with_cell (Some c) line)
        (ap (cells left (line + 1)) (past_of_take n l (omega arith)) ∙ ih (n - (position lf l + 1)) (past lf l) (omega arith))

reading-of_take : (n : ℕ) (l : List ℕ) → 86080 ≤ n → reading (take n l) ≡ reading l
unfolding reading
reading-of_take n l p = rw (settings_of_take n l (omega arith)) (by (first_settings l) refl)
  where
    by : (x : Option Settings) → first_settings l ≡ x → reading_of x (cells 2048 2 (past lf (take n l))) ≡ reading_of x (cells 2048 2 (past lf l))
    by None e = refl
    by (Some s) e =
        let short = settings_short l s e in
        ap (reading_of (Some s))
        (ap (cells 2048 2) (past_of_take n l (omega arith)) ∙ cells-of_take 2048 2 (n - (position lf l + 1)) (past lf l) (omega arith))

-- What is printed for the first 86,080 bytes, or more, is printed for the whole text.
pub prefix_is_enough : (n : ℕ) (l : List ℕ) → 86080 ≤ n → mombuild (take n l) ≡ mombuild l
unfolding mombuild
prefix_is_enough n l p = ap printed (reading-of_take n l p)
