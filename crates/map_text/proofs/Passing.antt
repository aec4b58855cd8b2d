-- Reading the cells of a text line by line into two buffers. Assumes nothing.
use mathlib.Core.Path.{◌≡◌, refl, ap, sym, ◌∙◌}
use mathlib.Core.Bool.{Bool, true, false, cond}
use mathlib.Core.List.{List, [], ◌∷◌, ◌++◌, append-nil}
use Prim.Native.Nat.{ℕ, zero, suc, ◌+◌, ◌-◌, ◌<◌}
use native.Mathlib.Omega.{arith}
use native.Mathlib.Numerals.{add-one}
use lib.Dec.{ltb}
use lib.ListN.{length, drop, set, get_or, length-append, length-set}
use lib.Seq.{drop-cons, set_at, append_snoc}
use Rattle.std.proofs.lemmas.Option.{none-some}
use borrow.Author.Tests.{ltb-true}
use Rattle.std.specs.Prelude.{Option, Some, None, Result, Ok, Err}
use Rattle.text.specs.Text.{lf, position, up_to, past}
use Rattle.map_text.specs.Lines.{Cells, no_cells, cells, first_cell, cell_line}
use Rattle.map_text.specs.Steps.{cell_lines, CellsAre}
use Rattle.map_text.specs.declared.read.CountedCell.{CountedCell}
use Rattle.map_text.specs.declared.read.UnreadableLine.{UnreadableLine}

-- A line that is read is ended.
pub cell_ended : (l : List ℕ) {x : CountedCell} → first_cell l ≡ Some x → position lf l < length l
unfolding first_cell
cell_ended l {x} e = by (ltb (position lf l) (length l)) refl e
  where
    by : (t : Bool) → ltb (position lf l) (length l) ≡ t → cond t (cell_line (up_to lf l)) None ≡ Some x → position lf l < length l
    by true p e = ltb-true (position lf l) (length l) p
    by false p e = absurd (none-some x e)

-- What is read behind some cells.
abbrev pub joined : List ℕ → List ℕ → Cells → Cells
joined p q c = record { hashes = p ++ c.hashes; counts = q ++ c.counts; unreadable = c.unreadable }

-- ---- the first line of what is left
-- no line is left
pub cells-end : (left line : ℕ) → cells left line [] ≡ no_cells None
unfolding cells
cells-end zero line = refl
cells-end (suc left) line = refl

module _ (line : ℕ) (x : ℕ) (l : List ℕ) where
  -- one too many
  pub cells-further : cells 0 line (x ∷ l) ≡ no_cells (Some line)
  unfolding cells
  cells-further = refl

  pub cells-stop : (left : ℕ) → first_cell (x ∷ l) ≡ None → cells (suc left) line (x ∷ l) ≡ no_cells (Some line)
  unfolding cells
  cells-stop left e = rw e refl

  pub cells-next : (left : ℕ) (c : CountedCell) → first_cell (x ∷ l) ≡ Some c → (p q : List ℕ)
      → joined p q (cells (suc left) line (x ∷ l)) ≡ joined (p ++ (c.hash ∷ [])) (q ++ (c.count ∷ [])) (cells left (line + 1) (past lf (x ∷ l)))
  unfolding cells
  cells-next left c e p q =
      let d = cells left (line + 1) (past lf (x ∷ l)) in
      rw (e, append_snoc p c.hash d.hashes, append_snoc q c.count d.counts) refl

-- ---- the loop
-- n cells are read, and `rest` is left of the text; `left` more may come; p and q are what was written.
pub record Passing (C : Cells) (rest hs ns hs' ns' : List ℕ) (n : ℕ) : Type 0 where
  pub left : ℕ
  pub p : List ℕ
  pub q : List ℕ
  pub left_is : left + n ≡ 2048
  pub p_length : length p ≡ n
  pub q_length : length q ≡ n
  pub hs_length : length hs' ≡ length hs
  pub ns_length : length ns' ≡ length ns
  pub hs_is : hs' ≡ p ++ drop n hs
  pub ns_is : ns' ≡ q ++ drop n ns
  pub goal : joined p q (cells left (n + 2) rest) ≡ C

set_next : (p l : List ℕ) (n x : ℕ) → length p ≡ n → n < length l → set (p ++ drop n l) n x ≡ (p ++ (x ∷ [])) ++ drop (n + 1) l
set_next p l n x e u = rw (drop-cons l n 0 u, add-one n) (set_at p (get_or l n 0) (drop (suc n) l) x n e ∙ sym (append_snoc p x (drop (suc n) l)))

more : (k n : ℕ) → k + n ≡ 2048 → n < 2048 → k ≡ suc (k - 1)
more k n e u = omega arith

module _ {C : Cells} {hs ns hs' ns' : List ℕ} {n : ℕ} where
  module _ {rest : List ℕ} (w : Passing C rest hs ns hs' ns' n) where
    -- Nothing more is read.
    stopped : (u : Option ℕ) (r : Result ℕ UnreadableLine) → r ≡ cell_lines (length (w.p ++ [])) u → cells w.left (n + 2) rest ≡ no_cells u → CellsAre C r hs ns hs' ns'
    stopped u r a e = let ended = ap (joined w.p w.q) (sym e) ∙ w.goal in rw (sym ended) (record {
      answer = a;
      paired = rw (append-nil w.p, append-nil w.q) (w.p_length ∙ sym w.q_length);
      fit = rw (append-nil w.p) (omega (arith, w.left_is, w.p_length));
      hashes_are = rw (append-nil w.p, w.p_length) w.hs_is;
      counts_are = rw (append-nil w.q, w.q_length) w.ns_is;
    })

  -- The text ends.
  pub passing_end : {rest : List ℕ} → Passing C rest hs ns hs' ns' n → length rest ≡ 0 → CellsAre C (Ok n) hs ns hs' ns'
  passing_end {rest = []} w u = stopped w None (Ok n) (ap (λ k. Ok k) (sym w.p_length ∙ ap length (sym (append-nil w.p)))) (cells-end w.left (n + 2))
  passing_end {rest = x ∷ l} w u = absurd (omega arith)

  -- It ends behind as many cells as there may be.
  pub passing_whole : {rest : List ℕ} → Passing C rest hs ns hs' ns' n → length rest ≡ 0 → n ≡ 2048 → CellsAre C (Ok 2048) hs ns hs' ns'
  passing_whole w u e = rw (← e) (passing_end w u)

  -- One line more than there may be.
  pub passing_full : {rest : List ℕ} → Passing C rest hs ns hs' ns' n → 0 < length rest → n ≡ 2048 → CellsAre C (Err (record { line = 2050 })) hs ns hs' ns'
  passing_full {rest = []} w u e = absurd (omega arith)
  passing_full {rest = x ∷ l} w u e =
      let none_left : w.left ≡ 0 = omega (arith, w.left_is) in
      let line : n + 2 ≡ 2050 = omega arith in
      stopped w (Some 2050) (Err (record { line = 2050 })) refl (rw (none_left, line) (cells-further 2050 x l))

  -- A line that can't be read.
  pub passing_stop : {rest : List ℕ} → Passing C rest hs ns hs' ns' n → 0 < length rest → n < 2048 → first_cell rest ≡ None → CellsAre C (Err (record { line = n + 2 })) hs ns hs' ns'
  passing_stop {rest = []} w u v e = absurd (omega arith)
  passing_stop {rest = x ∷ l} w u v e =
      stopped w (Some (n + 2)) (Err (record { line = n + 2 })) refl (rw (more w.left n w.left_is v) (cells-stop (n + 2) x l (w.left - 1) e))

  -- A cell.
  pub Passing-next : {rest : List ℕ} → Passing C rest hs ns hs' ns' n → 0 < length rest → n < 2048 → {c : CountedCell} → n < length hs → n < length ns → first_cell rest ≡ Some c
      → Passing C (past lf rest) hs ns (set hs' n c.hash) (set ns' n c.count) (n + 1)
  Passing-next {rest = []} w u v {c} a b e = absurd (omega arith)
  Passing-next {rest = x ∷ l} w u v {c} a b e = record {
    left = w.left - 1;
    p = p';
    q = q';
    left_is = omega (arith, w.left_is);
    p_length = length-append w.p (c.hash ∷ []) ∙ ap (λ k. k + 1) w.p_length;
    q_length = length-append w.q (c.count ∷ []) ∙ ap (λ k. k + 1) w.q_length;
    hs_length = length-set hs' n c.hash ∙ w.hs_length;
    ns_length = length-set ns' n c.count ∙ w.ns_length;
    hs_is = ap (λ l. set l n c.hash) w.hs_is ∙ set_next w.p hs n c.hash w.p_length a;
    ns_is = ap (λ l. set l n c.count) w.ns_is ∙ set_next w.q ns n c.count w.q_length b;
    goal = ahead;
  }
    where
      p' : List ℕ
      p' = w.p ++ (c.hash ∷ [])

      q' : List ℕ
      q' = w.q ++ (c.count ∷ [])

      some_left : w.left ≡ suc (w.left - 1)
      some_left = more w.left n w.left_is v

      ahead : joined p' q' (cells (w.left - 1) (n + 1 + 2) (past lf (x ∷ l))) ≡ C
      ahead =
          ap (λ k. joined p' q' (cells (w.left - 1) k (past lf (x ∷ l)))) (omega arith) ∙ sym (cells-next (n + 2) x l (w.left - 1) c e w.p w.q)
          ∙ ap (λ k. joined w.p w.q (cells k (n + 2) (x ∷ l))) (sym some_left) ∙ w.goal
