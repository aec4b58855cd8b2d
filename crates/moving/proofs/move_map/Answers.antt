-- `move_map` meets its contract. Assumes nothing.
use mathlib.Core.Path.{sym, ◌∙◌}
use native.Mathlib.Omega.{arith}
use Rattle.std.proofs.lemmas.Result.{err_from_is_err_and}
use Rattle.refusal.proofs.Checks.{none_of_ok, some_of_err}
use Rattle.zuniq.proofs.Numbers.{length-numbers}
use Rattle.moving.proofs.Moving.{movable, moved-refused, moved_by, each_moves}
use Rattle.moving.proofs.move_map.Goals as goal
use Rattle.moving.proofs.move_map.Goals.{In_ok-check}

pub returns-in_err-check : goal.returns-in_err-check
returns-in_err-check g c =
    let w = g.W.ZUniqHashT in
    let p = err_from_is_err_and c.from_residual.result c.from_residual.ensures.1 in
    let o = some_of_err _ _ _ (sym c.check.ensures ∙ c.in_err-check.was) in
    rw (p.1, p.2) (moved-refused _ _ _ _ _ _ _ (rw (length-numbers w.number w.numbers g.met.W.ZUniqHashT.numbers_are c.args.out_zuniqs.now) o))

pub write_zuniqs-requires : goal.write_zuniqs-requires
write_zuniqs-requires g c =
    let z = g.Z.ZUniqHashT in
    let zs = c.args.zuniqs.now in
    let m = movable _ _ _ _ _ _ _ (none_of_ok _ _ _ (sym c.check.ensures ∙ c.in_ok-check.was)) in
    let long = length-numbers z.number z.numbers g.met.Z.ZUniqHashT.numbers_are zs in
    (omega (arith, m.room), λ i l. each_moves _ _ _ _ _ _ _ m i (omega arith))

pub write_counts-requires : goal.write_counts-requires
write_counts-requires g c =
    let m = movable _ _ _ _ _ _ _ (none_of_ok _ _ _ (sym c.check.ensures ∙ c.in_ok-check.was)) in
    omega (arith, m.room, m.paired, m.outputs)

pub returns : goal.returns
returns g c =
    let z = g.Z.ZUniqHashT in
    let w = g.W.ZUniqHashT in
    let a = c.args in
    let long = length-numbers z.number z.numbers g.met.Z.ZUniqHashT.numbers_are a.zuniqs.now in
    let room = length-numbers w.number w.numbers g.met.W.ZUniqHashT.numbers_are a.out_zuniqs.now in
    let o = none_of_ok _ _ _ (sym c.check.ensures ∙ c.in_ok-check.was) in
    let m = movable _ _ _ _ _ _ _ o in
    let zuniqs = rw (← room, ← long) at c.write_zuniqs.ensures in
    let counts = rw (← m.paired) at c.write_counts.ensures in
    rw (← long) (moved_by z.MAX_DEPTH w.MAX_DEPTH a.depth (z.numbers a.zuniqs.now) a.counts.now (w.numbers a.out_zuniqs.now) a.out_counts.now (rw room o) _ _ zuniqs counts _ (rw c.MAX_DEPTH.ensures at c.min.ensures))
