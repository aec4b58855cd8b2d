-- `get_cell_containing` meets its contract. Assumes nothing.
use Rattle.std.proofs.Common.{◌≡◌, Err, rules}
use Rattle.map_rows.specs.MapRows.{width}
use Rattle.map_rows.proofs.OverRows.{rows_err, rows_ok, containing_refused, containing_of_rows}
use Rattle.map_rows.proofs.get_cell_containing.Goals as goal

pub returns-in_err-map_rows_at : goal.returns-in_err-map_rows_at
returns-in_err-map_rows_at g c =
    let e : c.from_residual.result ≡ Err c.in_err-map_rows_at.field-0.0 = search rules in
    containing_refused (width g.Z.ZUniqHashT.MAX_DEPTH g.Z.LittleEndian.SIZE) c.args.bytes.now _ _ c.args.depth (rows_err _ _ _ _ (rw c.in_err-map_rows_at.was at c.map_rows_at.ensures)) e

pub returns : goal.returns
returns g c =
    let ok = rows_ok _ _ _ (rw c.in_ok-map_rows_at.was at c.map_rows_at.ensures) in
    containing_of_rows (width g.Z.ZUniqHashT.MAX_DEPTH g.Z.LittleEndian.SIZE) c.args.bytes.now _ _ c.args.depth ok.1 (rw ok.2 at c.get_cell_containing_in.ensures)
