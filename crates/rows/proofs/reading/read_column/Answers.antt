-- `read_column` meets its contract. Assumes nothing.
use mathlib.Core.Path.{refl, ◌∙◌}
use native.Mathlib.Omega.{arith}
use Rattle.rows.specs.Rows.{numbers_in, number_in}
use Rattle.rows.proofs.Numbers.{numbers-set, length_of-numbers}
use Rattle.rows.proofs.Loops.{store_next}
use Rattle.rows.proofs.reading.read_column.Goals as goal

pub loop-row-init : goal.loop-row-init
unfolding numbers_in
loop-row-init g c = refl

pub loop-row-preserved : goal.loop-row-preserved
unfolding number_in
loop-row-preserved g c =
    let t = g.T.LittleEndian in
    let are = g.met.T.LittleEndian.numbers_are in
    numbers-set t.number t.numbers are c.loop-row.numbers c.loop-row.row c.read.result
    ∙ rw (c.loop-row.invariant, c.read.ensures) (store_next c.args.row_size c.args.at t.SIZE c.args.bytes.now _ c.loop-row.row (omega (arith, length_of-numbers t.number t.numbers are c.args.numbers.now)))
