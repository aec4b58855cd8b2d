-- `get_overlapped_run` meets its contract. Assumes nothing.
use Rattle.std.proofs.Common.{◌≡◌, Err, rules}
use Rattle.map_rows.specs.MapRows.{width}
use Rattle.map_rows.proofs.OverRows.{rows_err, rows_ok, run_refused, run_of_rows}
use Rattle.map_rows.proofs.get_overlapped_run.Goals as goal

pub returns-in_err-map_rows : goal.returns-in_err-map_rows
returns-in_err-map_rows g c =
    let e : c.from_residual.result ≡ Err c.in_err-map_rows.field-0.0 = search rules in
    run_refused (width g.Z.ZUniqHashT.MAX_DEPTH g.Z.LittleEndian.SIZE) c.args.bytes.now _ _ (rows_err _ _ _ _ (rw c.in_err-map_rows.was at c.map_rows.ensures)) e

pub returns : goal.returns
returns g c =
    let ok = rows_ok _ _ _ (rw c.in_ok-map_rows.was at c.map_rows.ensures) in
    run_of_rows (width g.Z.ZUniqHashT.MAX_DEPTH g.Z.LittleEndian.SIZE) c.args.bytes.now _ _ ok.1 (rw ok.2 at c.get_overlapped_run_in.ensures)
