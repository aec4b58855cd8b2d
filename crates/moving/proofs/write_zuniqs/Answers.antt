-- `write_zuniqs` meets its contract. Assumes nothing.
use mathlib.Core.Path.{◌≡◌, refl, ◌∙◌}
use mathlib.Core.List.{map}
use Prim.Native.Nat.{◌-◌}
use lib.ListN.{length, length-map}
use lib.Seq.{take_all}
use native.Mathlib.Omega.{arith}
use Rattle.zuniq.specs.Cells.{n_hash}
use Rattle.zuniq.proofs.Basics.{four_pow_pos}
use Rattle.zuniq.proofs.Numbers.{length-numbers, number_at, numbers-set}
use Rattle.moving.specs.Widths.{in_width}
use Rattle.moving.proofs.Copying.{copy_next, clear_next}
use Rattle.moving.proofs.write_zuniqs.Goals as goal

pub change_width-requires : goal.change_width-requires
change_width-requires g c =
    let z = g.Z.ZUniqHashT in
    let zs = c.args.zuniqs.now in
    let i = c.loop-i.i in
    rw (number_at z.number z.numbers g.met.Z.ZUniqHashT.numbers_are zs i _ c.loop-i-test.true c.index-zuniqs-i.is) (c.requires.1 i c.loop-i-test.true)

pub loop-i-preserved : goal.loop-i-preserved
loop-i-preserved g c =
    let z = g.Z.ZUniqHashT in
    let w = g.W.ZUniqHashT in
    let zs = c.args.zuniqs.now in
    let i = c.loop-i.i in
    let z_are = g.met.Z.ZUniqHashT.numbers_are in
    let w_are = g.met.W.ZUniqHashT.numbers_are in
    let here = number_at z.number z.numbers z_are zs i _ c.loop-i-test.true c.index-zuniqs-i.is in
    numbers-set w.number w.numbers w_are c.loop-i.out i c.change_width.result
    ∙ rw (c.loop-i.invariant, c.change_width.ensures, here)
    (copy_next (in_width z.MAX_DEPTH w.MAX_DEPTH) (z.numbers zs) (w.numbers c.args.out.now) i _ (omega (arith, length-numbers z.number z.numbers z_are zs)) (omega (arith, length-numbers w.number w.numbers w_are c.args.out.now)) refl)

pub of_u64-requires : goal.of_u64-requires
unfolding n_hash
of_u64-requires g c = omega (arith, four_pow_pos g.W.ZUniqHashT.MAX_DEPTH)

pub loop-place-init : goal.loop-place-init
loop-place-init g c =
    let z = g.Z.ZUniqHashT in
    let zs = c.args.zuniqs.now in
    let long = length-numbers z.number z.numbers g.met.Z.ZUniqHashT.numbers_are zs in
    let end : c.loop-i.i ≡ length zs = omega arith in
    let none : length zs - length zs ≡ 0 = omega arith in
    rw (none, c.loop-i.invariant, end, take_all (length zs) (z.numbers zs) (omega arith)) refl

pub loop-place-preserved : goal.loop-place-preserved
loop-place-preserved g c =
    let z = g.Z.ZUniqHashT in
    let w = g.W.ZUniqHashT in
    let f = in_width z.MAX_DEPTH w.MAX_DEPTH in
    let zs = z.numbers c.args.zuniqs.now in
    let w_are = g.met.W.ZUniqHashT.numbers_are in
    let place = c.loop-place.place in
    let long : length (map f zs) ≡ length c.args.zuniqs.now = length-map zs f ∙ length-numbers z.number z.numbers g.met.Z.ZUniqHashT.numbers_are c.args.zuniqs.now in
    let room = length-numbers w.number w.numbers w_are c.args.out.now in
    numbers-set w.number w.numbers w_are c.loop-place.out place c.of_u64.result
    ∙ rw (c.loop-place.invariant, c.of_u64.ensures) (rw long at (clear_next (map f zs) (w.numbers c.args.out.now) place (omega arith) (omega arith)))
