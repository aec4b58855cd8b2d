-- `push_siblings` meets its contract. Assumes nothing.
use mathlib.Core.Path.{refl, sym}
use Prim.Native.Nat.{◌-◌, ◌/◌}
use native.Mathlib.Omega.{arith}
use Rattle.zuniq.specs.Codec.{zuniq, IsZuniqOf}
use Rattle.zuniq.proofs.Numbers.{length-numbers}
use Rattle.build.proofs.Places.{Stored, stored}
use Rattle.build.proofs.Collapsing.{parent_zuniq}
use Rattle.build.proofs.Siblings.{no_fourth_pushed, Collapsed-pushed, kept_added, merged_added}
use Rattle.build.proofs.stack.push_siblings.Given.{Over}
use Rattle.build.proofs.stack.push_siblings.Goals as goal
use Rattle.build.proofs.stack.push_siblings.Goals.{After-append, Start}

-- ---- the parent
parent : (g : Over) (s : Start g) → let a = s.args in let K = g.M.Zuniq.ZUniqHashT.MAX_DEPTH in IsZuniqOf K (zuniq K (a.depth - 1) (a.hash / 4)) (a.depth - 1) (a.hash / 4)
parent g s =
    let a = s.args in
    let p = s.requires.quad in
    let K = g.M.Zuniq.ZUniqHashT.MAX_DEPTH in
    let first : IsZuniqOf K (zuniq K a.depth a.hash) a.depth a.hash = record { deep = p.1; hash = omega (arith, p.2); is = refl } in
    parent_zuniq p.0 first

-- ---- is appended
put : (g : Over) (c : After-append g) → let a = c.args in
    let z = g.M.Zuniq.ZUniqHashT in
    Stored z.MAX_DEPTH a.n (z.number c.to_zuniq_unchecked-zuniq.result) (a.depth - 1) (a.hash / 4) c.in-Merged.value (z.numbers a.zuniqs.now) a.values.now (z.numbers c.append.new.zuniqs) c.append.new.values
put g c =
    let p = c.requires.room in
    let z = g.M.Zuniq.ZUniqHashT in
    let v = parent g (goal.at.After-append g c).Start in
    stored z.MAX_DEPTH p.0 (omega (arith, p.1, length-numbers z.number z.numbers g.met.M.Zuniq.ZUniqHashT.numbers_are c.args.zuniqs.now)) (omega (arith, p.2)) (record { deep = v.deep; hash = v.hash; is = c.to_zuniq_unchecked-zuniq.ensures }) c.append.ensures

-- ---- the answers
pub merge-requires-clause-cell : goal.merge-requires-clause-cell
merge-requires-clause-cell g c = let v = parent g (goal.at.merge-requires-clause-cell g c).Start in (v.deep, v.hash)

pub returns-in_default : goal.returns-in_default
returns-in_default g c = kept_added c.requires.quad.0 c.requires.quad.3 (sym c.in_default.ensures.accepts) c.append_siblings.ensures

pub to_zuniq_unchecked-zuniq-requires : goal.to_zuniq_unchecked-zuniq-requires
to_zuniq_unchecked-zuniq-requires g c = let v = parent g (goal.at.to_zuniq_unchecked-zuniq-requires g c).Start in (v.deep, v.hash)

pub returns-then-parent_hash-ne3 : goal.returns-then-parent_hash-ne3
returns-then-parent_hash-ne3 g c =
    let p = c.requires.quad in
    merged_added p.0 p.3 (sym c.in-Merged.ensures.accepts) (no_fourth_pushed (put g (goal.at.returns-then-parent_hash-ne3 g c).After-append) c.if-parent_hash-ne3.true)

pub collapse-requires-clause-top : goal.collapse-requires-clause-top
collapse-requires-clause-top g c = let s = put g (goal.at.collapse-requires-clause-top g c).After-append in (omega arith, s.top, s.value c.in-Merged.value)

pub collapse-requires-clause-fits : goal.collapse-requires-clause-fits
collapse-requires-clause-fits g c =
    let a = c.args in
    let s = put g (goal.at.collapse-requires-clause-fits g c).After-append in
    (s.stands, rw s.map_is (omega (arith, c.requires.fits, g.met.M.Merger.keeps_weight a.merger.now (a.depth - 1) (a.hash / 4) a.v0 a.v1 a.v2 a.v3 c.in-Merged.value (sym c.in-Merged.ensures.accepts))))

pub returns : goal.returns
returns g c =
    let p = c.requires.quad in
    merged_added p.0 p.3 (sym c.in-Merged.ensures.accepts) (Collapsed-pushed (put g (goal.at.returns g c).After-append) c.collapse.ensures)
