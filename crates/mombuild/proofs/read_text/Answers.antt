-- `read_text` meets its contract: its lines are those of the definition. Assumes nothing.
use Rattle.std.proofs.Common.{◌≡◌, Some, None, Ok, Err, arith}
use Rattle.map_text.specs.Lines.{settings_line}
use Rattle.mombuild.proofs.Reading.{unended, no_settings, no_cell, all_cells}
use Rattle.mombuild.proofs.read_text.Goals as goal

pub returns-in_err-line : goal.returns-in_err-line
returns-in_err-line c =
    let error : c.from_residual.result ≡ Err (record { line = 1 }) = grind arith in
    let stop : c.split_once.result ≡ None = grind arith in
    rw error (unended c.args.text.now (rw stop at c.split_once.ensures))

pub returns-in_err-settings : goal.returns-in_err-settings
returns-in_err-settings c =
    let error : c.from_residual-in_err-settings.result ≡ Err (record { line = 1 }) = grind arith in
    let split : c.split_once.result ≡ Some (c.in_ok-line.line, c.in_ok-line.rest) = grind arith in
    let stop : settings_line c.in_ok-line.line.now ≡ None = grind arith in
    rw error (no_settings c.args.text.now (rw split at c.split_once.ensures) stop)

pub returns-in_err-cells : goal.returns-in_err-cells
returns-in_err-cells c =
    let error : c.from_residual-in_err-cells.result ≡ Err c.in_err-cells.field-0.0 = grind arith in
    let stop : c.read_cells.result ≡ Err c.in_err-cells.field-0.0 = grind arith in
    let split : c.split_once.result ≡ Some (c.in_ok-line.line, c.in_ok-line.rest) = grind arith in
    let settings : settings_line c.in_ok-line.line.now ≡ Some c.in_ok-settings.settings = grind arith in
    rw error (no_cell c.args.text.now (rw split at c.split_once.ensures) settings c.read_cells.ensures stop)

pub returns : goal.returns
returns c =
    let split : c.split_once.result ≡ Some (c.in_ok-line.line, c.in_ok-line.rest) = grind arith in
    let settings : settings_line c.in_ok-line.line.now ≡ Some c.in_ok-settings.settings = grind arith in
    let read : c.read_cells.result ≡ Ok c.in_ok-cells.cells = grind arith in
    all_cells c.args.text.now (rw split at c.split_once.ensures) settings c.read_cells.ensures read
