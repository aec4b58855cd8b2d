-- `change_width` meets its contract. Assumes nothing.
use mathlib.Core.Path.{◌∙◌}
use Rattle.moving.proofs.Widths.{shifted_left, shifted_right}
use Rattle.moving.proofs.change_width.Goals as goal

pub of_u64-requires : goal.of_u64-requires
of_u64-requires g c =
    let z = c.as_u64-number.ensures in
    let f = c.MAX_DEPTH-from.ensures in
    let t = c.MAX_DEPTH-to.ensures in
    rw (z, f, t, shifted_left _ _ _ c.requires (rw (f, t) at c.if-from-to.true) g.met.W.ZUniqHashT.max_depth) c.requires

pub of_u64-requires-else-from-to : goal.of_u64-requires-else-from-to
of_u64-requires-else-from-to g c =
    let z = c.as_u64-number.ensures in
    let f = c.MAX_DEPTH-from.ensures in
    let t = c.MAX_DEPTH-to.ensures in
    rw (z, f, t, shifted_right _ _ _ c.requires (rw (f, t) at c.if-from-to.false)) c.requires

pub returns-then-from-to : goal.returns-then-from-to
returns-then-from-to g c =
    let z = c.as_u64-number.ensures in
    let f = c.MAX_DEPTH-from.ensures in
    let t = c.MAX_DEPTH-to.ensures in
    c.of_u64.ensures ∙ rw (z, f, t) (shifted_left _ _ _ c.requires (rw (f, t) at c.if-from-to.true) g.met.W.ZUniqHashT.max_depth)

pub returns-else-from-to : goal.returns-else-from-to
returns-else-from-to g c =
    let z = c.as_u64-number.ensures in
    let f = c.MAX_DEPTH-from.ensures in
    let t = c.MAX_DEPTH-to.ensures in
    c.of_u64-else-from-to.ensures ∙ rw (z, f, t) (shifted_right _ _ _ c.requires (rw (f, t) at c.if-from-to.false))
