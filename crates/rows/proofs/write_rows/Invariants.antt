use Rattle.std.proofs.Common.{◌≡◌}
use Rattle.rows.proofs.Loops.{with_rows}
use Rattle.rows.proofs.write_rows.Given as goal

abbrev pub invariant-loop-row : goal.invariant-loop-row
invariant-loop-row g l =
    let z = g.Z.LittleEndian in
    let v = g.V.LittleEndian in
    l.bytes ≡ with_rows z.SIZE v.SIZE (z.numbers l.zuniqs) (v.numbers l.values) l.initial.bytes l.row
