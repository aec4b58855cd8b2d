-- `are_overlapping_cells` meets its contract. Assumes nothing.
use mathlib.Core.Path.{sym}
use Prim.Native.Nat.{◌-◌}
use native.Mathlib.Nat.{le_of_lt}
use Rattle.zuniq.proofs.Basics.{four_pow_two}
use Rattle.zuniq.proofs.Ranges.{overlap-sym, overlap-ancestor}
use Rattle.zuniq.proofs.are_overlapping_cells.Goals as goal

pub returns-then-depth_l-depth_r : goal.returns-then-depth_l-depth_r
returns-then-depth_l-depth_r c =
    let a = c.args in
    rw (← four_pow_two (a.depth_r - a.depth_l)) (sym (overlap-ancestor a.depth_l a.hash_l a.depth_r a.hash_r c.if-depth_l-depth_r.true))

pub returns : goal.returns
returns c =
    let a = c.args in
    rw (← four_pow_two (a.depth_l - a.depth_r), overlap-sym) (sym (overlap-ancestor a.depth_r a.hash_r a.depth_l a.hash_l (le_of_lt c.if-depth_l-depth_r.false)))
