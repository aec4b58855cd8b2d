-- `zuniq_at` meets its contract. Assumes nothing.
use mathlib.Core.Path.{◌∙◌}
use Rattle.rows.proofs.Zuniqs.{zuniq_of_row, no_row}
use Rattle.rows.proofs.zuniq_at.Goals as goal

pub returns-then-row-bytes : goal.returns-then-row-bytes
returns-then-row-bytes g c =
    let a = c.args in
    rw c.count_row_size-then-row-bytes.ensures at c.read.ensures ∙ zuniq_of_row _ g.Z.LittleEndian.SIZE a.bytes.now a.row (rw c.count_row_size.ensures at c.if-row-bytes.true)

pub returns : goal.returns
returns g c =
    let a = c.args in
    g.met.Z.LittleEndian.default_is _ c.default.ensures ∙ no_row _ g.Z.LittleEndian.SIZE a.bytes.now a.row (rw c.count_row_size.ensures at c.if-row-bytes.false)
