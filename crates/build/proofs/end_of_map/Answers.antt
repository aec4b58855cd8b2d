-- `end_of_map` meets its contract. Assumes nothing.
use mathlib.Core.Path.{◌≡◌, sym, ◌∙◌, ap}
use native.Mathlib.Omega.{arith}
use native.Mathlib.Nat.{mod-eq_of_lt}
use Prim.Native.Nat.{◌-◌, ◌<◌, ◌≤◌}
use lib.ListN.{length, get_or}
use Rattle.zuniq.specs.Cells.{n_hash}
use Rattle.zuniq.specs.Codec.{decode}
use Rattle.zuniq.proofs.Numbers.{length-numbers, number_at}
use Rattle.build.specs.Add.{map_end, cell_end}
use Rattle.build.proofs.Ends.{LastEnds, n_hash-mono, map_end-last, map_end-none, last_ends}
use Rattle.build.proofs.end_of_map.Given.{Over}
use Rattle.build.proofs.end_of_map.Goals as goal
use Rattle.build.proofs.end_of_map.Goals.{Else-len-eq0, After-from_zuniq, In-Cell}

-- ---- the last entry
some_left : (g : Over) (c : Else-len-eq0 g) → 0 < length (g.Z.ZUniqHashT.numbers c.args.zuniqs.now)
some_left g c =
    let z = g.Z.ZUniqHashT in
    omega (arith, c.if-len-eq0.false, length-numbers z.number z.numbers g.met.Z.ZUniqHashT.numbers_are c.args.zuniqs.now)

decoded : (g : Over) (c : After-from_zuniq g) → let zs = g.Z.ZUniqHashT.numbers c.args.zuniqs.now in decode g.Z.ZUniqHashT.MAX_DEPTH (get_or zs (length zs - 1) 0) ≡ c.from_zuniq.result
decoded g c =
    let z = g.Z.ZUniqHashT in
    let are = g.met.Z.ZUniqHashT.numbers_are in
    let zs = c.args.zuniqs.now in
    let last = number_at z.number z.numbers are zs (length zs - 1) c.index-zuniqs-len.result (omega (arith, c.if-len-eq0.false)) c.index-zuniqs-len.is in
    rw (length-numbers z.number z.numbers are zs, ← last) (sym c.from_zuniq.ensures.answer)

ends : (g : Over) (c : In-Cell g) → let a = c.args in
    let last = c.in-Cell.last in
    LastEnds a.depth last.depth last.hash (map_end g.Z.ZUniqHashT.MAX_DEPTH a.depth (g.Z.ZUniqHashT.numbers a.zuniqs.now))
ends g c =
    let a = c.args in
    let last = c.in-Cell.last in
    last_ends g.Z.ZUniqHashT.MAX_DEPTH a.depth (g.Z.ZUniqHashT.numbers a.zuniqs.now) last.depth last.hash c.requires.1 (some_left g (goal.at.In-Cell g c).Else-len-eq0) (decoded g (goal.at.In-Cell g c).After-from_zuniq ∙ c.in-Cell.is)

deepest : (g : Over) (c : In-Cell g) → (c.args.depth ≤ 29)
deepest g c = omega (arith, c.requires.0, g.met.Z.ZUniqHashT.max_depth)

-- ---- the answers
pub returns-then-len-eq0 : goal.returns-then-len-eq0
returns-then-len-eq0 g c =
    let z = g.Z.ZUniqHashT in
    let zs = c.args.zuniqs.now in
    sym (map_end-none z.MAX_DEPTH c.args.depth (z.numbers zs) (length-numbers z.number z.numbers g.met.Z.ZUniqHashT.numbers_are zs ∙ c.if-len-eq0.true))

pub returns-in_default : goal.returns-in_default
unfolding cell_end
returns-in_default g c =
    let a = c.args in
    let z = g.Z.ZUniqHashT in
    sym (map_end-last z.MAX_DEPTH a.depth (z.numbers a.zuniqs.now) (some_left g (goal.at.returns-in_default g c).Else-len-eq0) ∙ ap (cell_end a.depth) (decoded g (goal.at.returns-in_default g c).After-from_zuniq ∙ c.in_default.is))

pub overflow_add-result : goal.overflow_add-result
unfolding n_hash
overflow_add-result g c = record { fits = omega (arith, (ends g (goal.at.overflow_add-result g c).In-Cell).small, n_hash-mono c.args.depth 29 (deepest g (goal.at.overflow_add-result g c).In-Cell)) }

pub overflow_sub-result : goal.overflow_sub-result
overflow_sub-result g c = (ends g (goal.at.overflow_sub-result g c).In-Cell).shallow

pub returns : goal.returns
unfolding n_hash
returns g c =
    let e = ends g (goal.at.returns g c).In-Cell in
    rw e.end_is (mod-eq_of_lt (omega (arith, e.within, n_hash-mono c.args.depth 29 (deepest g (goal.at.returns g c).In-Cell))))
