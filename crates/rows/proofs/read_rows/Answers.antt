-- `read_rows` meets its contract: it reads two columns. Assumes nothing.
use mathlib.Core.Path.{refl, sym, ◌∙◌}
use Rattle.std.proofs.lemmas.Result.{err_from_is_err_and}
use Rattle.rows.proofs.Numbers.{length_of-numbers}
use Rattle.rows.proofs.Loops.{table_read, table_not_read}
use Rattle.rows.proofs.read_rows.Goals as goal

pub returns-in_err-rows : goal.returns-in_err-rows
returns-in_err-rows g c =
    let a = c.args in
    let zs = length_of-numbers g.Z.LittleEndian.number g.Z.LittleEndian.numbers g.met.Z.LittleEndian.numbers_are a.zuniqs.now in
    let vs = length_of-numbers g.V.LittleEndian.number g.V.LittleEndian.numbers g.met.V.LittleEndian.numbers_are a.values.now in
    let p = err_from_is_err_and c.from_residual.result c.from_residual.ensures.1 in
    rw (p.1, p.2) (table_not_read _ _ a.bytes.now _ _ (rw (c.SIZE.ensures, c.SIZE-2.ensures) refl) zs vs _ (sym c.rows_to_read.ensures.answer ∙ c.in_err-rows.was))

pub returns : goal.returns
returns g c =
    let a = c.args in
    let zs = length_of-numbers g.Z.LittleEndian.number g.Z.LittleEndian.numbers g.met.Z.LittleEndian.numbers_are a.zuniqs.now in
    let vs = length_of-numbers g.V.LittleEndian.number g.V.LittleEndian.numbers g.met.V.LittleEndian.numbers_are a.values.now in
    rw (c.read_column.ensures, c.read_column-2.ensures, c.SIZE-3.ensures)
    (table_read _ _ a.bytes.now _ _ (rw (c.SIZE.ensures, c.SIZE-2.ensures) refl) zs vs _ (sym c.rows_to_read.ensures.answer ∙ c.in_ok-rows.was))
