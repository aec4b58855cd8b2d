-- `count` meets its contract. Assumes nothing.
use mathlib.Core.Path.{◌≡◌, sym, ◌∙◌}
use Prim.Native.Nat.{ℕ, ◌+◌, ◌*◌, ◌<◌}
use native.Mathlib.Omega.{arith}
use Rattle.build.specs.Map.{Entry, entry}
use Rattle.build.specs.Promises.{start_of, end_of}
use Rattle.tally.proofs.Counted.{CanPush, range_fits, start_is, end_is, can_push, pushed_some, Counted-lone, Counted-out, Counted-in}
use Rattle.tally.proofs.count.Goals as goal
use Rattle.tally.proofs.count.Goals.{After-push-live, After-reached-before, After-width-size, Start}

-- ---- points on the way: where the cell lies is known, and what it reaches

abbrev cell : Start → Entry ℕ
cell s = entry s.args.depth s.args.hash s.args.value

starts : (w : After-width-size) → w.args.hash * w.width-size.result ≡ start_of 29 (cell (goal.at.After-width-size w).Start)
starts w = start_is _ _ _ w.width-size.ensures

ends : (w : After-width-size) → end_of 29 (cell (goal.at.After-width-size w).Start) ≡ w.args.hash * w.width-size.result + w.width-size.result
ends w = sym (end_is _ _ _ w.width-size.ensures)

pushable : (r : After-reached-before) → CanPush r.reached-before.result r.args.running (cell (goal.at.After-reached-before r).Start) r.args.zuniqs.now r.args.counts.now
pushable r = can_push _ _ _ _ _ r.requires _ _ _ r.reached-before.ensures

-- the cell has been merged into the live entries

some_live : (p : After-push-live) → 0 < p.push-live.result
some_live p =
    pushed_some _ _ _ _ _ p.requires _ _ _ p.reached-before.ensures _ (starts (goal.at.After-push-live p).After-width-size) (ends (goal.at.After-push-live p).After-width-size) _ _ _ p.push-live.ensures

pub overflow_mul-first : goal.overflow_mul-first
overflow_mul-first c = record { fits = let g = range_fits _ _ _ _ c.requires.good c.width-size.ensures in omega arith }

pub overflow_add-first : goal.overflow_add-first
overflow_add-first c = record { fits = let g = range_fits _ _ _ _ c.requires.good c.width-size.ensures in omega arith }

pub reached-before-requires : goal.reached-before-requires
reached-before-requires c = let k = c.requires in (k.runs.few, k.number)

pub settle-requires : goal.settle-requires
settle-requires c =
    omega (arith, (pushable (goal.at.settle-requires c).After-reached-before).few, c.requires.number)

pub returns-then-is_lone : goal.returns-then-is_lone
returns-then-is_lone c =
    rw c.settle.ensures (Counted-lone _ _ _ _ _ c.requires _ _ _ c.reached-before.ensures _ (starts (goal.at.returns-then-is_lone c).After-width-size) (sym c.is_lone.ensures ∙ c.if-is_lone.true))

pub push-live-requires : goal.push-live-requires
push-live-requires c =
    let k = pushable (goal.at.push-live-requires c).After-reached-before in
    record { room = (k.stands, k.zuniqs, k.values); cell = c.requires.good; fits = k.fits }

pub is_last-requires : goal.is_last-requires
is_last-requires c = (some_live (goal.at.is_last-requires c).After-push-live, c.push-live.ensures.stands.zuniqs)

pub settle-requires-then-is_last : goal.settle-requires-then-is_last
settle-requires-then-is_last c =
    omega (arith, (pushable (goal.at.settle-requires-then-is_last c).After-reached-before).few, c.requires.number, c.push-live.ensures.least)

pub returns-then-is_last : goal.returns-then-is_last
returns-then-is_last c =
    rw c.settle-then-is_last.ensures (Counted-out _ _ _ _ _ c.requires _ _ _ c.reached-before.ensures _ (starts (goal.at.returns-then-is_last c).After-width-size) (ends (goal.at.returns-then-is_last c).After-width-size) _ _ _ c.push-live.ensures (sym c.is_last.ensures ∙ c.if-is_last.true))

pub returns : goal.returns
returns c =
    Counted-in _ _ _ _ _ c.requires _ _ _ c.reached-before.ensures _ (starts (goal.at.returns c).After-width-size) (ends (goal.at.returns c).After-width-size) _ _ _ c.push-live.ensures (sym c.is_lone.ensures ∙ c.if-is_lone.false) (sym c.is_last.ensures ∙ c.if-is_last.false)
