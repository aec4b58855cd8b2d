-- `collapse` meets its contract. The loop's invariant is `Turning`, with the total of the weights. Assumes nothing.
use mathlib.Core.Path.{◌≡◌, refl, sym, ◌∙◌}
use mathlib.Core.Bool.{true}
use Prim.Native.Nat.{◌-◌, ◌/◌, ◌≤◌, ◌<◌}
use native.Mathlib.Omega.{arith}
use lib.ListN.{length, get_or, length-set}
use Rattle.build.specs.Standing.{quad_at}
use Rattle.zuniq.proofs.Numbers.{length-numbers, numbers-set, element_at}
use Rattle.build.proofs.Places.{Behind-set, Behind-same, Behind-trans}
use Rattle.build.proofs.Collapsing.{Turning-starts, turning_ends, no_quad_ends, kept_ends, four_left, turns, parent_zuniq, four_within, turn_total}
use Rattle.build.proofs.stack.collapse.Given.{Over}
use Rattle.build.proofs.stack.collapse.Goals as goal
use Rattle.build.proofs.stack.collapse.Goals.{Else-not-are_siblings, After-merge, In-loop-depth}

-- ---- a turn

deep : (g : Over) (c : In-loop-depth g) → 0 < c.loop-depth.depth
deep g c = omega (arith, c.loop-depth-test.true)

-- in which four siblings are found

quad : (g : Over) (c : Else-not-are_siblings g) → let o = c.loop-depth in quad_at g.M.Zuniq.ZUniqHashT.MAX_DEPTH o.n (g.M.Zuniq.ZUniqHashT.numbers o.zuniqs) o.depth o.hash ≡ true
quad g c = sym c.are_siblings.ensures ∙ c.if-not-are_siblings.false

room : (g : Over) (c : Else-not-are_siblings g) → let o = c.loop-depth in (4 ≤ o.n) × (o.n ≤ length o.zuniqs) × (o.n ≤ length o.values)
room g c =
    let o = c.loop-depth in
    let z = g.M.Zuniq.ZUniqHashT in
    let w = o.invariant.3.stands in
    (four_left o.invariant.3 (quad g c), omega (arith, w.zuniqs, length-numbers z.number z.numbers g.met.M.Zuniq.ZUniqHashT.numbers_are o.zuniqs), w.values)

-- and whose values the merger is given

asked : (g : Over) (c : After-merge g) → let o = c.loop-depth in
    let u = c.args.value in
    g.M.Merger.accept c.args.merger.now (o.depth - 1) (o.hash / 4) (get_or o.values (o.n - 4) u) (get_or o.values (o.n - 3) u) (get_or o.values (o.n - 2) u) o.value
    ≡ g.M.Merger.accept c.args.merger.now (o.depth - 1) (o.hash / 4) c.index-values-first.result c.index-values-n.result c.index-values-n-in-loop-depth.result o.value
asked g c =
    let o = c.loop-depth in
    let u = c.args.value in
    let r = room g (goal.at.After-merge g c).Else-not-are_siblings in
    rw (
      element_at o.values (o.n - 4) u _ (omega (arith, r)) c.index-values-first.is,
      element_at o.values (o.n - 3) u _ (omega (arith, r)) c.index-values-n.is,
      element_at o.values (o.n - 2) u _ (omega (arith, r)) c.index-values-n-in-loop-depth.is,
    ) refl

-- ---- the answers
pub loop-depth-init : goal.loop-depth-init
loop-depth-init g c = let p = c.requires in (omega arith, refl, refl, Turning-starts c.args.n p.fits.0 p.top.0 p.top.1 p.top.2, p.fits.1, Behind-same _ _ _)

pub returns-then-not-are_siblings : goal.returns-then-not-are_siblings
returns-then-not-are_siblings g c =
    let o = c.loop-depth in
    record {
      stands = o.invariant.3.stands;
      least = o.invariant.0;
      is = no_quad_ends o.invariant.3 (deep g (goal.at.returns-then-not-are_siblings g c).In-loop-depth) (sym c.are_siblings.ensures ∙ c.if-not-are_siblings.true);
      behind = o.invariant.5;
    }

pub overflow_sub-first : goal.overflow_sub-first
overflow_sub-first g c = omega (arith, room g (goal.at.overflow_sub-first g c).Else-not-are_siblings)

pub overflow_sub-n : goal.overflow_sub-n
overflow_sub-n g c = omega (arith, room g (goal.at.overflow_sub-n g c).Else-not-are_siblings)

pub overflow_sub-n-in-loop-depth : goal.overflow_sub-n-in-loop-depth
overflow_sub-n-in-loop-depth g c = omega (arith, room g (goal.at.overflow_sub-n-in-loop-depth g c).Else-not-are_siblings)

pub merge-requires-clause-cell : goal.merge-requires-clause-cell
merge-requires-clause-cell g c =
    let p = parent_zuniq (deep g (goal.at.merge-requires-clause-cell g c).In-loop-depth) c.loop-depth.invariant.3.top in
    (p.deep, p.hash)

pub merge-requires-clause-fits : goal.merge-requires-clause-fits
merge-requires-clause-fits g c =
    let o = c.loop-depth in
    let u = c.args.value in
    let r = room g (goal.at.merge-requires-clause-fits g c).Else-not-are_siblings in
    rw (
      ← element_at o.values (o.n - 4) u _ (omega (arith, r)) c.index-values-first.is,
      ← element_at o.values (o.n - 3) u _ (omega (arith, r)) c.index-values-n.is,
      ← element_at o.values (o.n - 2) u _ (omega (arith, r)) c.index-values-n-in-loop-depth.is,
    )
    (omega (arith, four_within g.M.Merger.weight o.invariant.3 (quad g (goal.at.merge-requires-clause-fits g c).Else-not-are_siblings), o.invariant.4))

pub returns-in-Kept : goal.returns-in-Kept
returns-in-Kept g c =
    let o = c.loop-depth in
    let kept = asked g (goal.at.returns-in-Kept g c).After-merge ∙ sym c.in-Kept.ensures.accepts in
    record {
      stands = o.invariant.3.stands;
      least = o.invariant.0;
      is = kept_ends o.invariant.3 (deep g (goal.at.returns-in-Kept g c).In-loop-depth) (quad g (goal.at.returns-in-Kept g c).Else-not-are_siblings) kept;
      behind = o.invariant.5;
    }

pub to_zuniq_unchecked-requires : goal.to_zuniq_unchecked-requires
to_zuniq_unchecked-requires g c =
    let p = parent_zuniq (deep g (goal.at.to_zuniq_unchecked-requires g c).In-loop-depth) c.loop-depth.invariant.3.top in
    (p.deep, p.hash)

pub bounds-zuniqs-first : goal.bounds-zuniqs-first
bounds-zuniqs-first g c = omega (arith, room g (goal.at.bounds-zuniqs-first g c).Else-not-are_siblings)

pub loop-depth-preserved : goal.loop-depth-preserved
loop-depth-preserved g c =
    let o = c.loop-depth in
    let w = g.M.Zuniq.ZUniqHashT in
    let z = c.to_zuniq_unchecked.ensures in
    let q = quad g (goal.at.loop-depth-preserved g c).Else-not-are_siblings in
    let d = deep g (goal.at.loop-depth-preserved g c).In-loop-depth in
    let r = room g (goal.at.loop-depth-preserved g c).Else-not-are_siblings in
    let m = asked g (goal.at.loop-depth-preserved g c).After-merge ∙ sym c.in-Merged.ensures.accepts in
    rw (numbers-set w.number w.numbers g.met.M.Zuniq.ZUniqHashT.numbers_are o.zuniqs (o.n - 4) c.to_zuniq_unchecked.result) (
      omega (arith, r, o.invariant.0),
      length-set o.zuniqs (o.n - 4) _ ∙ o.invariant.1,
      length-set o.values (o.n - 4) _ ∙ o.invariant.2,
      turns o.invariant.3 d z q m,
      omega (arith, turn_total g.M.Merger.weight o.invariant.3 q (g.met.M.Merger.keeps_weight c.args.merger.now) d z m, o.invariant.4),
      Behind-trans (Behind-set c.args.n (o.n - 4) (w.numbers o.zuniqs) o.values (w.number c.to_zuniq_unchecked.result) c.in-Merged.parent (omega (arith, r, o.invariant.0))) o.invariant.5,
    )

pub returns : goal.returns
returns g c =
    let o = c.loop-depth in
    record { stands = o.invariant.3.stands; least = o.invariant.0; is = turning_ends o.invariant.3 (omega (arith, c.loop-depth-test.false)); behind = o.invariant.5 }
