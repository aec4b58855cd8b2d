-- `push` meets its contract. Assumes nothing.
use mathlib.Core.Path.{sym, ◌∙◌}
use native.Mathlib.Omega.{arith}
use Rattle.zuniq.proofs.Numbers.{length-numbers}
use Rattle.build.proofs.Places.{Stored, stored}
use Rattle.build.proofs.Collapsing.{Turning-starts, no_quad_collapsed}
use Rattle.build.proofs.Siblings.{Collapsed-pushed}
use Rattle.build.proofs.stack.push.Given.{Over}
use Rattle.build.proofs.stack.push.Goals as goal
use Rattle.build.proofs.stack.push.Goals.{After-append}

-- ---- the cell is appended
put : (g : Over) (c : After-append g) → let a = c.args in
    let z = g.M.Zuniq.ZUniqHashT in
    Stored z.MAX_DEPTH a.n (z.number a.zuniq) a.depth a.hash a.value (z.numbers a.zuniqs.now) a.values.now (z.numbers c.append.new.zuniqs) c.append.new.values
put g c =
    let p = c.requires.room in
    let z = g.M.Zuniq.ZUniqHashT in
    stored z.MAX_DEPTH p.0 (omega (arith, p.1, length-numbers z.number z.numbers g.met.M.Zuniq.ZUniqHashT.numbers_are c.args.zuniqs.now)) p.2 c.requires.cell c.append.ensures

-- ---- the answers
pub returns-then-not-are_siblings : goal.returns-then-not-are_siblings
returns-then-not-are_siblings g c =
    let s = put g (goal.at.returns-then-not-are_siblings g c).After-append in
    Collapsed-pushed s (no_quad_collapsed (Turning-starts {u = c.args.value} _ s.stands (omega arith) s.top (s.value c.args.value)) (sym c.are_siblings.ensures ∙ c.if-not-are_siblings.true))

pub are_siblings-requires : goal.are_siblings-requires
are_siblings-requires g c =
    let s = put g (goal.at.are_siblings-requires g c).After-append in
    let z = g.M.Zuniq.ZUniqHashT in
    (omega (arith, s.stands.zuniqs, length-numbers z.number z.numbers g.met.M.Zuniq.ZUniqHashT.numbers_are c.append.new.zuniqs), s.top)

pub collapse-requires-clause-top : goal.collapse-requires-clause-top
collapse-requires-clause-top g c = let s = put g (goal.at.collapse-requires-clause-top g c).After-append in (omega arith, s.top, s.value c.args.value)

pub collapse-requires-clause-fits : goal.collapse-requires-clause-fits
collapse-requires-clause-fits g c = let s = put g (goal.at.collapse-requires-clause-fits g c).After-append in (s.stands, rw s.map_is c.requires.fits)

pub returns : goal.returns
returns g c = Collapsed-pushed (put g (goal.at.returns g c).After-append) c.collapse.ensures
