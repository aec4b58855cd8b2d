-- `walk` meets its contract. The loop's invariant is `Walking`, and its measure the weight of what is left. Assumes nothing.
use mathlib.Core.Path.{◌≡◌, subst}
use native.Mathlib.Omega.{arith}
use Rattle.std.proofs.lemmas.Result.{err_from_is_err_and}
use Rattle.combine.specs.Heads.{Turned}
use Rattle.combine.specs.Cells.{as_entry, zuniq_in, side_of, act_of}
use Rattle.combine.specs.declared.cells.Turn.{Turn}
use Rattle.combine.proofs.Walking.{Ready, Opens, left_over, walking_start, Walking-ready, heads_shallow, ready_ends, shown_less, Opens-left, Opens-right}
use Rattle.combine.proofs.Given.{map_holds}
use Rattle.combine.proofs.Shown.{shown_seen, shown_can, shown_taken, shown_failed, left_split, right_split}
use Rattle.combine.proofs.by_heads.walk.Given as given
use Rattle.combine.proofs.by_heads.walk.Goals as goal
use Rattle.combine.proofs.by_heads.walk.Goals.{After-next-right, After-turn_of, In-Show, In-OpenLeft, In-OpenRight}

-- ---- points of a turn, and what is known there

-- both heads are there
abbrev ReadyAt : (g : given.Over) → After-next-right g → Type 0
ReadyAt g c =
    let o = c.loop-seen in
    let a = c.args in
    Ready (g.R.Rule.split a.rule) (g.R.Rule.keeps a.rule) as_entry zuniq_in a.left_map.now.zuniqs.now a.left_map.now.values.now a.right_map.now.zuniqs.now a.right_map.now.values.now
    (λ cells. g.S.Sink.took a.sink a.zuniqs.now a.values.now cells o.figures o.zuniqs o.values)
    (side_of c.next-left.result) (side_of c.next-right.result) o.lefts o.rights
    (left_over as_entry a.left_map.now.zuniqs.now a.left_map.now.values.now a.right_map.now.zuniqs.now a.right_map.now.values.now (side_of o.left) (side_of o.right) o.lefts o.rights)

ready : (g : given.Over) (c : After-next-right g) → ReadyAt g c
ready g c =
    let l = c.args.left_map.now in
    let r = c.args.right_map.now in
    Walking-ready _ _ (map_holds l.depth l.zuniqs.now l.values.now l.paired l.valid) (map_holds r.depth r.zuniqs.now r.values.now r.paired r.valid) c.loop-seen.invariant c.top.ensures c.index-lefts-top.is c.next-left.ensures c.top-in-loop-seen.ensures c.index-rights-top.is c.next-right.ensures

-- the turn is known
abbrev TurnedAt : (g : given.Over) → After-turn_of g → Turn g.row.R-Value.Denot → Type 0
TurnedAt g c t = Turned as_entry 29 (side_of c.next-left.result).head (side_of c.next-right.result).head (act_of t)

turned : (g : given.Over) (c : After-turn_of g) (t : Turn g.row.R-Value.Denot) → c.turn_of.result ≡ t → TurnedAt g c t
turned g c t q = subst (TurnedAt g c) q c.turn_of.ensures

pub loop-seen-init : goal.loop-seen-init
loop-seen-init g c =
    let l = c.args.left_map.now in
    let r = c.args.right_map.now in
    walking_start c.start-left.ensures c.start-right.ensures c.requires.places.0 c.requires.places.1 (map_holds l.depth l.zuniqs.now l.values.now l.paired l.valid) (map_holds r.depth r.zuniqs.now r.values.now r.paired r.valid) (c.start-figures.ensures c.args.zuniqs.now c.args.values.now)

pub returns-in-Stop : goal.returns-in-Stop
returns-in-Stop g c =
    ready_ends (ready g (goal.at.returns-in-Stop g c).After-next-right) (turned g (goal.at.returns-in-Stop g c).After-turn_of _ c.in-Stop.is)

shown : (g : given.Over) (c : In-Show g) → TurnedAt g (goal.at.In-Show g c).After-turn_of (Turn.Show c.in-Show.seen)
shown g c = turned g (goal.at.In-Show g c).After-turn_of _ c.in-Show.is

pub show-requires-clause-sees : goal.show-requires-clause-sees
show-requires-clause-sees g c =
    shown_seen (g.S.Sink.took c.args.sink) (ready g (goal.at.show-requires-clause-sees g c).After-next-right) _ (shown g (goal.at.show-requires-clause-sees g c).In-Show) (g.R.Rule.sees c.args.rule) c.requires.seen

pub show-requires-clause-can : goal.show-requires-clause-can
show-requires-clause-can g c =
    shown_can (g.S.Sink.took c.args.sink) (ready g (goal.at.show-requires-clause-can g c).After-next-right) _ (shown g (goal.at.show-requires-clause-can g c).In-Show) (g.S.Sink.fits c.args.sink) c.requires.fit

pub returns-in_err-figures-in-Show : goal.returns-in_err-figures-in-Show
returns-in_err-figures-in-Show g c =
    let p = err_from_is_err_and c.from_residual.result c.from_residual.ensures.1 in
    rw (p.1, p.2)
    (shown_failed (g.S.Sink.took c.args.sink) (ready g (goal.at.returns-in_err-figures-in-Show g c).After-next-right) _ (shown g (goal.at.returns-in_err-figures-in-Show g c).In-Show) (g.S.Sink.failed c.args.sink) c.show.ensures _ c.in_err-figures-in-Show.was)

pub loop-seen-smaller-in-Show : goal.loop-seen-smaller-in-Show
loop-seen-smaller-in-Show g c =
    shown_less (ready g (goal.at.loop-seen-smaller-in-Show g c).After-next-right) _ (shown g (goal.at.loop-seen-smaller-in-Show g c).In-Show) c.takes_left.ensures c.takes_right.ensures

pub loop-seen-preserved-in-Show : goal.loop-seen-preserved-in-Show
loop-seen-preserved-in-Show g c =
    shown_taken (g.S.Sink.took c.args.sink) (ready g (goal.at.loop-seen-preserved-in-Show g c).After-next-right) _ (shown g (goal.at.loop-seen-preserved-in-Show g c).In-Show) (g.S.Sink.failed c.args.sink) c.show.ensures _ c.in_ok-figures-in-Show.was c.takes_left.ensures c.takes_right.ensures

opening_left : (g : given.Over) (c : In-OpenLeft g) → Opens as_entry zuniq_in c.in-OpenLeft.outer c.next-left.result.pending
opening_left g c = Opens-left (ready g (goal.at.In-OpenLeft g c).After-next-right) (turned g (goal.at.In-OpenLeft g c).After-turn_of _ c.in-OpenLeft.is)

opening_right : (g : given.Over) (c : In-OpenRight g) → Opens as_entry zuniq_in c.in-OpenRight.outer c.next-right.result.pending
opening_right g c = Opens-right (ready g (goal.at.In-OpenRight g c).After-next-right) (turned g (goal.at.In-OpenRight g c).After-turn_of _ c.in-OpenRight.is)

pub turn_of-requires : goal.turn_of-requires
turn_of-requires g c = heads_shallow (ready g c)

pub open-left-requires-clause-outer : goal.open-left-requires-clause-outer
open-left-requires-clause-outer g c = let o = opening_left g (goal.at.open-left-requires-clause-outer g c).In-OpenLeft in (o.good, o.deep)

pub open-left-requires-clause-room : goal.open-left-requires-clause-room
open-left-requires-clause-room g c =
    let o = (opening_left g (goal.at.open-left-requires-clause-room g c).In-OpenLeft).room in
    let s = c.loop-seen.invariant.state.on_left.size in
    omega arith

pub loop-seen-smaller-in-OpenLeft : goal.loop-seen-smaller-in-OpenLeft
loop-seen-smaller-in-OpenLeft g c =
    (left_split (ready g (goal.at.loop-seen-smaller-in-OpenLeft g c).After-next-right) (turned g (goal.at.loop-seen-smaller-in-OpenLeft g c).After-turn_of _ c.in-OpenLeft.is) c.open-left.ensures).1

pub loop-seen-preserved-in-OpenLeft : goal.loop-seen-preserved-in-OpenLeft
loop-seen-preserved-in-OpenLeft g c =
    (left_split (ready g (goal.at.loop-seen-preserved-in-OpenLeft g c).After-next-right) (turned g (goal.at.loop-seen-preserved-in-OpenLeft g c).After-turn_of _ c.in-OpenLeft.is) c.open-left.ensures).0

pub open-right-requires-clause-outer : goal.open-right-requires-clause-outer
open-right-requires-clause-outer g c = let o = opening_right g (goal.at.open-right-requires-clause-outer g c).In-OpenRight in (o.good, o.deep)

pub open-right-requires-clause-room : goal.open-right-requires-clause-room
open-right-requires-clause-room g c =
    let o = (opening_right g (goal.at.open-right-requires-clause-room g c).In-OpenRight).room in
    let s = c.loop-seen.invariant.state.on_right.size in
    omega arith

pub loop-seen-smaller : goal.loop-seen-smaller
loop-seen-smaller g c =
    (right_split (ready g (goal.at.loop-seen-smaller g c).After-next-right) (turned g (goal.at.loop-seen-smaller g c).After-turn_of _ c.in-OpenRight.is) c.open-right.ensures).1

pub loop-seen-preserved : goal.loop-seen-preserved
loop-seen-preserved g c =
    (right_split (ready g (goal.at.loop-seen-preserved g c).After-next-right) (turned g (goal.at.loop-seen-preserved g c).After-turn_of _ c.in-OpenRight.is) c.open-right.ensures).0
