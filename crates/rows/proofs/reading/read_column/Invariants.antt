use Rattle.std.proofs.Common.{◌≡◌, ◌++◌, drop}
use Rattle.rows.specs.Rows.{numbers_in}
use Rattle.rows.proofs.reading.read_column.Given as goal

abbrev pub invariant-loop-row : goal.invariant-loop-row
invariant-loop-row g l =
    let t = g.T.LittleEndian in
    t.numbers l.numbers ≡ numbers_in l.row_size l.at t.SIZE l.bytes l.row ++ drop l.row (t.numbers l.initial.numbers)
