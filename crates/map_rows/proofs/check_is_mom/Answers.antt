-- `check_is_mom` meets its contract. Assumes nothing.
use Rattle.std.proofs.Common.{◌≡◌, Err, rules}
use Rattle.map_rows.specs.MapRows.{width}
use Rattle.map_rows.proofs.OverRows.{rows_err, rows_ok, check_refused, check_of_rows}
use Rattle.map_rows.proofs.check_is_mom.Goals as goal

pub returns-in_err-map_rows_at : goal.returns-in_err-map_rows_at
returns-in_err-map_rows_at g c =
    let e : c.from_residual.result ≡ Err c.in_err-map_rows_at.field-0.0 = search rules in
    check_refused (width g.Z.ZUniqHashT.MAX_DEPTH g.Z.LittleEndian.SIZE) c.args.bytes.now c.args.depth (rows_err _ _ _ _ (rw c.in_err-map_rows_at.was at c.map_rows_at.ensures)) e

pub returns : goal.returns
returns g c =
    let ok = rows_ok _ _ _ (rw c.in_ok-map_rows_at.was at c.map_rows_at.ensures) in
    check_of_rows (width g.Z.ZUniqHashT.MAX_DEPTH g.Z.LittleEndian.SIZE) c.args.bytes.now c.args.depth ok.1 (rw ok.2 at c.first_fault_in.ensures)
