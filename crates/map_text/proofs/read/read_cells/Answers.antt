-- `read::read_cells` meets its contract. The loop's invariant is `Passing`. Assumes nothing.
use Rattle.std.proofs.Common.{length, ◌≡◌, ◌<◌, ◌+◌, Some, None, Err, arith}
use Rattle.map_text.proofs.Passing.{passing_end, passing_whole, passing_full, passing_stop, Passing-next}
use Rattle.map_text.proofs.read.read_cells.Goals as goal

pub returns-then-is_empty : goal.returns-then-is_empty
returns-then-is_empty c = let none : length c.loop-n.rest.now ≡ 0 = grind arith in passing_end c.loop-n.invariant none

pub returns-in_err-cell : goal.returns-in_err-cell
returns-in_err-cell c =
    let some : 0 < length c.loop-n.rest.now = grind arith in
    let stop : c.read_first_cell.result ≡ None = grind arith in
    let error : c.from_residual.result ≡ Err (record { line = c.loop-n.n + 2 }) = grind arith in
    rw error (passing_stop c.loop-n.invariant some (omega arith) (rw stop at c.read_first_cell.ensures))

pub loop-n-preserved : goal.loop-n-preserved
loop-n-preserved c =
    let some : 0 < length c.loop-n.rest.now = grind arith in
    let read : c.read_first_cell.result ≡ Some (c.in_ok-cell.cell, c.in_ok-cell.behind) = grind arith in
    let cell = rw read at c.read_first_cell.ensures in
    rw cell.1 (Passing-next c.loop-n.invariant some (omega arith) (omega arith) (omega arith) cell.0)

pub returns-then-is_empty-2 : goal.returns-then-is_empty-2
returns-then-is_empty-2 c =
    let none : length c.loop-n.rest.now ≡ 0 = grind arith in
    passing_whole c.loop-n.invariant none (omega arith)

pub returns-else-is_empty-2 : goal.returns-else-is_empty-2
returns-else-is_empty-2 c =
    let some : 0 < length c.loop-n.rest.now = grind arith in
    passing_full c.loop-n.invariant some (omega arith)
