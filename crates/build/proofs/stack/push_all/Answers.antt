-- `push_all` meets its contract. The loop's invariant is `Before`. Assumes nothing.
use mathlib.Core.Path.{◌≡◌, ap, sym, ◌∙◌}
use mathlib.Core.List.{List}
use Prim.Native.Nat.{◌+◌, ◌≤◌, ◌<◌}
use native.Mathlib.Omega.{arith}
use lib.ListN.{length, get_or, drop}
use Rattle.zuniq.specs.Cells.{n_hash}
use Rattle.build.specs.Promises.{total}
use Rattle.build.specs.Buffers.{held, batch}
use Rattle.build.proofs.Buffers.{batch-drop}
use Rattle.zuniq.proofs.Numbers.{length-numbers, number_at, element_at}
use Rattle.build.proofs.Siblings.{AreSiblings, siblings_from_lem}
use Rattle.build.proofs.Pushing.{Before-next, Before-next_four, Before-total, batch-four, after_last}
use Rattle.build.proofs.stack.push_all.Given.{Over}
use Rattle.build.proofs.stack.push_all.Goals as goal
use Rattle.build.proofs.stack.push_all.Goals.{After-as_u64-hash, At-loop-i, Then-are_next_siblings}

-- ---- a turn

numbered : (g : Over) (zs : List g.row.M-Zuniq.Denot) → length (g.M.Zuniq.ZUniqHashT.numbers zs) ≡ length zs
numbered g zs = length-numbers g.M.Zuniq.ZUniqHashT.number g.M.Zuniq.ZUniqHashT.numbers g.met.M.Zuniq.ZUniqHashT.numbers_are zs

hash_is : (g : Over) (c : After-as_u64-hash g) → c.as_u64-hash.result ≡ get_or (g.M.Zuniq.ZUniqHashT.numbers c.args.hashes.now) c.loop-i.i 0
hash_is g c =
    let z = g.M.Zuniq.ZUniqHashT in
    c.as_u64-hash.ensures ∙ number_at z.number z.numbers g.met.M.Zuniq.ZUniqHashT.numbers_are c.args.hashes.now c.loop-i.i _ c.loop-i-test.true c.index-hashes-i.is

total_left : (g : Over) (c : At-loop-i g) → let a = c.args in
    let o = c.loop-i in
    let z = g.M.Zuniq.ZUniqHashT in
    let weight = g.M.Merger.weight in
    total weight (held z.MAX_DEPTH o.n (z.numbers o.zuniqs) o.values) + total weight (batch a.depth (drop o.i (z.numbers a.hashes.now)) (drop o.i a.batch.now)) ≤ 4294967295
total_left g c = omega (arith, Before-total c.loop-i.invariant.0 g.M.Merger.weight (g.met.M.Merger.keeps_weight c.args.merger.now), c.requires.batch_bound)

in_range : (g : Over) (c : After-as_u64-hash g) → (c.args.depth ≤ g.M.Zuniq.ZUniqHashT.MAX_DEPTH) × (c.as_u64-hash.result < n_hash c.args.depth)
in_range g c = (c.requires.stands.1, rw (hash_is g c) (c.requires.rising.below c.loop-i.i (omega (arith, c.loop-i-test.true, numbered g c.args.hashes.now))))

-- the same where the next four are siblings

four : (g : Over) (c : Then-are_next_siblings g) → let a = c.args in AreSiblings a.depth (g.M.Zuniq.ZUniqHashT.numbers a.hashes.now) c.loop-i.i
four g c =
    let hs = g.M.Zuniq.ZUniqHashT.numbers c.args.hashes.now in
    siblings_from_lem c.args.depth hs c.loop-i.i c.requires.rising (omega (arith, c.loop-i-test.true, numbered g c.args.hashes.now)) (sym c.are_next_siblings.ensures.is ∙ c.if-are_next_siblings.true)

-- ---- the answers
pub push_siblings-n-requires-clause-quad : goal.push_siblings-n-requires-clause-quad
push_siblings-n-requires-clause-quad g c =
    let f = four g (goal.at.push_siblings-n-requires-clause-quad g c).Then-are_next_siblings in
    let e = hash_is g (goal.at.push_siblings-n-requires-clause-quad g c).After-as_u64-hash in
    (f.deep, c.requires.stands.1, rw e f.below, rw e f.first)

pub push_siblings-n-requires-clause-fits : goal.push_siblings-n-requires-clause-fits
push_siblings-n-requires-clause-fits g c =
    let a = c.args in
    let i = c.loop-i.i in
    let b = a.batch.now in
    let f = four g (goal.at.push_siblings-n-requires-clause-fits g c).Then-are_next_siblings in
    let weight = g.M.Merger.weight in
    let u = c.index-batch-i.result in
    let room : i + 4 ≤ length b = omega (arith, c.are_next_siblings.ensures.within c.if-are_next_siblings.true, c.requires.stands.2) in
    let e = ap (total weight) (batch-four a.depth (g.M.Zuniq.ZUniqHashT.numbers a.hashes.now) b u i f room) in
    let left = total_left g (goal.at.push_siblings-n-requires-clause-fits g c).At-loop-i in
    rw (
      ← element_at b i u _ (omega arith) c.index-batch-i.is,
      ← element_at b (i + 1) u _ (omega arith) c.index-batch-i-then-are_next_siblings.is,
      ← element_at b (i + 2) u _ (omega arith) c.index-batch-i-then-are_next_siblings-2.is,
      ← element_at b (i + 3) u _ (omega arith) c.index-batch-i-then-are_next_siblings-3.is,
    )
    (omega (arith, e, left))

pub loop-i-preserved-then-are_next_siblings : goal.loop-i-preserved-then-are_next_siblings
loop-i-preserved-then-are_next_siblings g c =
    let o = c.loop-i in
    let i = o.i in
    let b = c.args.batch.now in
    let u = c.index-batch-i.result in
    let f = four g (goal.at.loop-i-preserved-then-are_next_siblings g c).Then-are_next_siblings in
    let room : i + 4 ≤ length b = omega (arith, c.are_next_siblings.ensures.within c.if-are_next_siblings.true, c.requires.stands.2) in
    let w =
    rw (
      hash_is g (goal.at.loop-i-preserved-then-are_next_siblings g c).After-as_u64-hash,
      ← element_at b i u _ (omega arith) c.index-batch-i.is,
      ← element_at b (i + 1) u _ (omega arith) c.index-batch-i-then-are_next_siblings.is,
      ← element_at b (i + 2) u _ (omega arith) c.index-batch-i-then-are_next_siblings-2.is,
      ← element_at b (i + 3) u _ (omega arith) c.index-batch-i-then-are_next_siblings-3.is,
    ) at c.push_siblings-n.ensures in
    (Before-next_four o.invariant.0 u f room w, c.push_siblings-n.auto.zuniqs ∙ o.invariant.1, c.push_siblings-n.auto.values ∙ o.invariant.2)

pub to_zuniq_unchecked-zuniq-requires : goal.to_zuniq_unchecked-zuniq-requires
to_zuniq_unchecked-zuniq-requires g c = in_range g (goal.at.to_zuniq_unchecked-zuniq-requires g c).After-as_u64-hash

pub push-n-requires-clause-cell : goal.push-n-requires-clause-cell
push-n-requires-clause-cell g c =
    let r = in_range g (goal.at.push-n-requires-clause-cell g c).After-as_u64-hash in
    record { deep = r.0; hash = r.1; is = c.to_zuniq_unchecked-zuniq.ensures }

pub push-n-requires-clause-fits : goal.push-n-requires-clause-fits
push-n-requires-clause-fits g c =
    let a = c.args in
    let i = c.loop-i.i in
    let u = c.index-batch-i-else-are_next_siblings.result in
    let weight = g.M.Merger.weight in
    let room : i < length a.batch.now = omega (arith, c.loop-i-test.true, c.requires.stands.2) in
    let hs = g.M.Zuniq.ZUniqHashT.numbers a.hashes.now in
    let e = ap (total weight) (batch-drop a.depth hs a.batch.now u i (omega (arith, c.loop-i-test.true, numbered g a.hashes.now)) room) in
    rw (← element_at a.batch.now i u _ room c.index-batch-i-else-are_next_siblings.is) (omega (arith, e, total_left g (goal.at.push-n-requires-clause-fits g c).At-loop-i))

pub loop-i-preserved : goal.loop-i-preserved
loop-i-preserved g c =
    let a = c.args in
    let o = c.loop-i in
    let i = o.i in
    let u = c.index-batch-i-else-are_next_siblings.result in
    let room : i < length a.batch.now = omega (arith, c.loop-i-test.true, c.requires.stands.2) in
    let w =
    rw (hash_is g (goal.at.loop-i-preserved g c).After-as_u64-hash, ← element_at a.batch.now i u _ room c.index-batch-i-else-are_next_siblings.is) at c.push-n.ensures in
    (Before-next o.invariant.0 u (omega (arith, c.loop-i-test.true, numbered g a.hashes.now)) room w, c.push-n.auto.zuniqs ∙ o.invariant.1, c.push-n.auto.values ∙ o.invariant.2)

pub returns : goal.returns
returns g c =
    let a = c.args in
    after_last c.loop-i.invariant.0 (numbered g a.hashes.now ∙ c.requires.stands.2) (omega (arith, numbered g a.hashes.now, c.loop-i-test.false))
