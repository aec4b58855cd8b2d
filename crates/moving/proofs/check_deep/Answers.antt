-- `check_deep` meets its contract. The loop's invariant: the entries so far are not refused. Assumes nothing.
use mathlib.Core.Path.{refl}
use native.Mathlib.Omega.{arith}
use Rattle.zuniq.proofs.Numbers.{length-numbers, number_at}
use Rattle.moving.proofs.Deep.{deep_at, deep_end}
use Rattle.moving.proofs.check_deep.Goals as goal

pub loop-i-init : goal.loop-i-init
loop-i-init g c = refl

pub returns-then-is_deep : goal.returns-then-is_deep
returns-then-is_deep g c =
    let z = g.Z.ZUniqHashT in
    let w = g.W.ZUniqHashT in
    let zs = c.args.zuniqs.now in
    let i = c.loop-i.i in
    let are = g.met.Z.ZUniqHashT.numbers_are in
    let here = number_at z.number z.numbers are zs i _ c.loop-i-test.true c.index-zuniqs-i.is in
    rw (← c.loop-i.invariant, deep_at z.MAX_DEPTH w.MAX_DEPTH i (z.numbers zs) (omega (arith, length-numbers z.number z.numbers are zs)), ← here, ← c.is_deep.ensures, c.if-is_deep.true) refl

pub loop-i-preserved : goal.loop-i-preserved
loop-i-preserved g c =
    let z = g.Z.ZUniqHashT in
    let w = g.W.ZUniqHashT in
    let zs = c.args.zuniqs.now in
    let i = c.loop-i.i in
    let are = g.met.Z.ZUniqHashT.numbers_are in
    let here = number_at z.number z.numbers are zs i _ c.loop-i-test.true c.index-zuniqs-i.is in
    rw (deep_at z.MAX_DEPTH w.MAX_DEPTH i (z.numbers zs) (omega (arith, length-numbers z.number z.numbers are zs)), ← here, ← c.is_deep.ensures, c.if-is_deep.false) at c.loop-i.invariant

pub returns : goal.returns
returns g c =
    let z = g.Z.ZUniqHashT in
    let w = g.W.ZUniqHashT in
    let zs = c.args.zuniqs.now in
    let are = g.met.Z.ZUniqHashT.numbers_are in
    rw (← c.loop-i.invariant, deep_end z.MAX_DEPTH w.MAX_DEPTH c.loop-i.i (z.numbers zs) (omega (arith, length-numbers z.number z.numbers are zs))) refl
