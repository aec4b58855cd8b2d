-- From columns to rows: the words of the columns are read, and put a row apart. Assumes nothing.
use mathlib.Core.Path.{refl, ◌∙◌}
use Prim.Native.Nat.{◌-◌, ◌≤◌}
use native.Mathlib.Nat.{mul-one}
use native.Mathlib.Omega.{arith}
use lib.Seq.{length-take-le}
use Rattle.columns.proofs.Fours.{rows_inside, columns_inside, Turned-to_rows}
use Rattle.columns.proofs.Quadruples.{words_put}
use Rattle.columns.proofs.direction.ToRowsDirection.turn_four.Goals as goal

pub read_words-requires : goal.read_words-requires
read_words-requires c =
    let a = c.args in
    let block : a.end - a.row ≤ 64 = omega arith in
    λ i j h l. rw (mul-one i) (columns_inside a.row a.end a.column _ c.requires.0 a.shape.rows c.requires.2 i j (rw (length-take-le _ _ block) at h) l)

pub overflow_mul-row : goal.overflow_mul-row
overflow_mul-row c = omega (arith, c.requires.3 c.args.row c.args.column c.requires.0 (omega arith))

pub write_words-requires : goal.write_words-requires
write_words-requires c =
    let a = c.args in
    let block : a.end - a.row ≤ 64 = omega arith in
    let long = c.read_words.auto.words ∙ length-take-le _ _ block in
    λ i j h l. rows_inside a.row a.end a.column _ c.requires.0 a.shape.row_size c.requires.3 i j (rw long at h) l

pub returns : goal.returns
returns c =
    let a = c.args in
    let block : a.end - a.row ≤ 64 = omega arith in
    Turned-to_rows a.shape.row_size a.shape.rows a.row a.end a.column c.requires.0 a.source.now _ _
    (words_put _ c.read_words.new.words _ _ (λ p. (c.type_inv.source p).fits) (length-take-le _ _ block) c.read_words.auto.words _ _ _ _ _ (λ i j. rw (mul-one i) refl) c.read_words.ensures c.write_words.ensures)
