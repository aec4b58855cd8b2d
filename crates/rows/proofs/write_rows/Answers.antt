-- `write_rows` meets its contract. Assumes nothing.
use mathlib.Core.Path.{◌≡◌, refl, sym, ◌∙◌}
use Prim.Native.Nat.{◌+◌}
use native.Mathlib.Nat.{mul-le-mul_right, le_trans}
use native.Mathlib.Omega.{arith}
use Rattle.std.proofs.lemmas.Result.{err_from_is_err_and}
use Rattle.rows.proofs.Numbers.{length_of-numbers, number-of}
use Rattle.rows.proofs.Loops.{with_rows, table_written, table_not_written, with_no_rows, with_next_row}
use Rattle.rows.proofs.write_rows.Goals as goal

pub returns-in_err-rows : goal.returns-in_err-rows
returns-in_err-rows g c =
    let a = c.args in
    let zs = length_of-numbers g.Z.LittleEndian.number g.Z.LittleEndian.numbers g.met.Z.LittleEndian.numbers_are a.zuniqs.now in
    let vs = length_of-numbers g.V.LittleEndian.number g.V.LittleEndian.numbers g.met.V.LittleEndian.numbers_are a.values.now in
    let p = err_from_is_err_and c.from_residual.result c.from_residual.ensures.1 in
    rw (p.1, p.2) (table_not_written _ _ a.bytes.now _ _ (rw (c.SIZE.ensures, c.SIZE-2.ensures) refl) zs vs _ (sym c.rows_to_write.ensures.answer ∙ c.in_err-rows.was))

pub loop-row-init : goal.loop-row-init
loop-row-init g c = with_no_rows _ _ _ _ _

pub loop-row-preserved : goal.loop-row-preserved
loop-row-preserved g c =
    let a = c.args in
    let i = c.loop-row.row in
    let fits = c.in_ok-rows.ensures.fits in
    let z = number-of g.Z.LittleEndian.number g.Z.LittleEndian.numbers g.met.Z.LittleEndian.numbers_are a.zuniqs.now i _ (omega arith) c.index-zuniqs-row.is in
    let v = number-of g.V.LittleEndian.number g.V.LittleEndian.numbers g.met.V.LittleEndian.numbers_are a.values.now i _ (omega arith) c.index-values-row.is in
    let so_far = le_trans (mul-le-mul_right (c.SIZE.result + c.SIZE-2.result) c.loop-row.auto.row-end) fits.0 in
    let next = with_next_row g.Z.LittleEndian.SIZE g.V.LittleEndian.SIZE _ _ a.bytes.now i (rw (c.SIZE.ensures, c.SIZE-2.ensures) at so_far) in
    rw (c.write-in-loop-row.ensures, c.write.ensures, c.loop-row.invariant, z, v, c.SIZE.ensures, c.SIZE-2.ensures, c.SIZE-in-loop-row.ensures) next

pub returns : goal.returns
unfolding with_rows
returns g c =
    let a = c.args in
    let zs = length_of-numbers g.Z.LittleEndian.number g.Z.LittleEndian.numbers g.met.Z.LittleEndian.numbers_are a.zuniqs.now in
    let vs = length_of-numbers g.V.LittleEndian.number g.V.LittleEndian.numbers g.met.V.LittleEndian.numbers_are a.values.now in
    let all : c.loop-row.row ≡ c.in_ok-rows.rows = omega arith in
    rw (c.loop-row.invariant, all) (table_written _ _ a.bytes.now _ _ (rw (c.SIZE.ensures, c.SIZE-2.ensures) refl) zs vs _ (sym c.rows_to_write.ensures.answer ∙ c.in_ok-rows.was))
