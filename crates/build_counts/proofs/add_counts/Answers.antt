-- `add_counts` meets its contract. Assumes nothing.
use mathlib.Core.Path.{◌≡◌, refl, ap, ap₂, sym, ◌∙◌, subst}
use mathlib.Core.List.{List, ◌++◌}
use mathlib.Core.Option.{Option, none, some}
use Prim.Native.Nat.{ℕ, ◌+◌, ◌-◌, ◌≤◌}
use native.Mathlib.Omega.{arith}
use lib.ListN.{length, take, replicate}
use lib.Seq.{length-take-le}
use Rattle.std.proofs.Common.{rules}
use Rattle.refusal.specs.declared.Refusal.{Refusal}
use Rattle.refusal.specs.Checks.{or_else}
use Rattle.refusal.proofs.Checks.{none_of_ok, some_of_err, ok_is}
use Rattle.zuniq.specs.Cells.{n_hash}
use Rattle.zuniq.proofs.Basics.{four_pow_pos}
use Rattle.zuniq.proofs.Numbers.{length-numbers, numbers-take, numbers-cleared}
use Rattle.merger.specs.Merge.{accept_counts}
use Rattle.build.specs.Buffers.{batch}
use Rattle.build.specs.Standing.{Added}
use Rattle.build.specs.Calls.{add_call}
use Rattle.build.specs.Add.{held_refusal, map_end, hashes_refusal, sum_of, total_refusal, space_refusal}
use Rattle.build.specs.Counts.{never, counts_refusal, add_counts}
use Rattle.build.proofs.Accepted.{Accepted, counts_after_held, HeldPassed, held_passes, counts_by_batch, counts_accepted, may_push, held-total, batch-total, cleared, counts_left}
use Rattle.build_counts.proofs.add_counts.Given.{Over}
use Rattle.build_counts.proofs.add_counts.Goals as goal
use Rattle.build_counts.proofs.add_counts.Goals.{In_ok-map, In_ok-total, Start}

-- ---- the lists of numbers
numbers : (g : Over) → List g.row.Z.Denot → List ℕ
numbers g zs = g.Z.ZUniqHashT.numbers zs

numbered : (g : Over) (zs : List g.row.Z.Denot) → length (g.Z.ZUniqHashT.numbers zs) ≡ length zs
numbered g zs = length-numbers g.Z.ZUniqHashT.number g.Z.ZUniqHashT.numbers g.met.Z.ZUniqHashT.numbers_are zs

first : (g : Over) (n : ℕ) (zs : List g.row.Z.Denot) → g.Z.ZUniqHashT.numbers (take n zs) ≡ take n (g.Z.ZUniqHashT.numbers zs)
first g n zs = numbers-take g.Z.ZUniqHashT.number g.Z.ZUniqHashT.numbers g.met.Z.ZUniqHashT.numbers_are zs n

-- ---- what the call is refused for
abbrev fault : (g : Over) → Start g → Option Refusal
fault g c =
    let a = c.args in
    let z = g.Z.ZUniqHashT in
    let zs = z.numbers a.zuniqs.now in
    counts_refusal z.MAX_DEPTH (z.numbers a.protected.now) a.depth a.depth_threshold a.chi2_threshold a.held (length zs) (length a.counts.now) (take a.held zs) (take a.held a.counts.now) (z.numbers a.hashes.now) a.batch.now

-- the rows of the held map,
abbrev held_fault : (g : Over) → Start g → Option Refusal
held_fault g c =
    let a = c.args in
    let z = g.Z.ZUniqHashT in
    let zs = z.numbers a.zuniqs.now in
    held_refusal z.MAX_DEPTH (z.numbers a.protected.now) a.depth a.depth_threshold a.chi2_threshold a.held (length zs) (length a.counts.now) (take a.held zs) (length (z.numbers a.hashes.now)) (length a.batch.now)

held_passed : (g : Over) (c : In_ok-map g) → held_fault g (goal.at.In_ok-map g c).Start ≡ none
held_passed g c =
    let a = c.args in
    rw (numbered g a.zuniqs.now, numbered g a.hashes.now, ← first g a.held a.zuniqs.now) c.in_ok-map.ensures.1

passed : (g : Over) (c : In_ok-map g) → let a = c.args in
    HeldPassed g.Z.ZUniqHashT.MAX_DEPTH a.depth a.held (length (g.Z.ZUniqHashT.numbers a.zuniqs.now)) (length a.counts.now) (length (g.Z.ZUniqHashT.numbers a.hashes.now)) (length a.batch.now)
passed g c =
    let a = c.args in
    let z = g.Z.ZUniqHashT in
    held_passes z.MAX_DEPTH (z.numbers a.protected.now) a.depth a.depth_threshold a.chi2_threshold a.held (length (z.numbers a.zuniqs.now)) (length a.counts.now) (take a.held (z.numbers a.zuniqs.now)) _ _ (held_passed g c)

within : (g : Over) (c : In_ok-map g) → c.args.held ≤ length c.args.counts.now
within g c = omega (arith, (passed g c).within, (passed g c).paired)

-- and those of the batch
by_batch : (g : Over) (c : In_ok-map g) → let a = c.args in
    let hs = g.Z.ZUniqHashT.numbers a.hashes.now in
    fault g (goal.at.In_ok-map g c).Start
    ≡ or_else (hashes_refusal a.depth c.in_ok-map.map.end 0 hs) (or_else (total_refusal (sum_of (take a.held a.counts.now)) a.batch.now) (space_refusal (length a.zuniqs.now) (length (take a.held a.counts.now)) (length a.hashes.now)))
by_batch g c =
    let a = c.args in
    let z = g.Z.ZUniqHashT in
    let end = c.in_ok-map.ensures.2 ∙ ap (map_end z.MAX_DEPTH a.depth) (first g a.held a.zuniqs.now) in
    rw (← numbered g a.zuniqs.now, ← numbered g a.hashes.now)
    (counts_by_batch z.MAX_DEPTH (z.numbers a.protected.now) a.depth a.depth_threshold a.chi2_threshold a.held c.in_ok-map.map.end (z.numbers a.zuniqs.now) a.counts.now (z.numbers a.hashes.now) a.batch.now (held_passed g c) end)

-- ---- what has passed
passed_all : (g : Over) (c : In_ok-total g) → (fault g (goal.at.In_ok-total g c).Start ≡ none) × (sum_of (take c.args.held c.args.counts.now) + sum_of c.args.batch.now ≡ c.in_ok-total.total)
passed_all g c =
    let e = sym c.check_batch.ensures ∙ c.in_ok-total.was in
    let n = none_of_ok _ _ _ e in
    (by_batch g (goal.at.In_ok-total g c).In_ok-map ∙ n, ok_is _ _ _ e)

accepted : (g : Over) (c : In_ok-total g) → let a = c.args in
    let z = g.Z.ZUniqHashT in
    let zs = z.numbers a.zuniqs.now in
    Accepted never z.MAX_DEPTH a.depth a.held (length zs) (length a.counts.now) (take a.held zs) (z.numbers a.hashes.now) a.batch.now × (sum_of (take a.held a.counts.now) + sum_of a.batch.now ≤ 4294967295)
accepted g c =
    let a = c.args in
    let z = g.Z.ZUniqHashT in
    let zs = z.numbers a.zuniqs.now in
    let ok = counts_accepted z.MAX_DEPTH (z.numbers a.protected.now) a.depth a.depth_threshold a.chi2_threshold a.held (length zs) (length a.counts.now) (take a.held zs) (take a.held a.counts.now) (z.numbers a.hashes.now) a.batch.now (passed_all g c).0 in
    (ok.0, ok.1)

-- ---- the answers
pub slice_bounds-check_batch-end : goal.slice_bounds-check_batch-end
slice_bounds-check_batch-end g c = within g c

pub slice_bounds-check_batch-end-2 : goal.slice_bounds-check_batch-end-2
slice_bounds-check_batch-end-2 g c = sym (length-take-le c.args.held c.args.counts.now (within g c))

pub check_batch-requires : goal.check_batch-requires
check_batch-requires g c = (passed g c).shallow

pub returns-in_err-map : goal.returns-in_err-map
unfolding add_counts add_call
returns-in_err-map g c =
    let a = c.args in
    let z = g.Z.ZUniqHashT in
    let held : held_fault g (goal.at.returns-in_err-map g c).Start ≡ some c.in_err-map.field-0.0 = rw (numbered g a.zuniqs.now, numbered g a.hashes.now, ← first g a.held a.zuniqs.now) c.in_err-map.ensures in
    let e : fault g (goal.at.returns-in_err-map g c).Start ≡ some c.in_err-map.field-0.0 =
    counts_after_held z.MAX_DEPTH (z.numbers a.protected.now) a.depth a.depth_threshold a.chi2_threshold a.held (length (z.numbers a.zuniqs.now)) (length a.counts.now) (take a.held (z.numbers a.zuniqs.now)) (take a.held a.counts.now) (z.numbers a.hashes.now) a.batch.now ∙ (rw held refl) in
    rw e (search rules)

pub returns-in_err-total : goal.returns-in_err-total
unfolding add_counts add_call
returns-in_err-total g c =
    let row = some_of_err _ _ _ (sym c.check_batch.ensures ∙ c.in_err-total.was) in
    rw (by_batch g (goal.at.returns-in_err-total g c).In_ok-map ∙ row) (search rules)

pub push_all-entries-requires-clause-stands : goal.push_all-entries-requires-clause-stands
push_all-entries-requires-clause-stands g c =
    let a = c.args in
    let p = (may_push {vs = a.counts.now} (accepted g (goal.at.push_all-entries-requires-clause-stands g c).In_ok-total).0).0 in
    (p.0, p.1, sym (numbered g a.hashes.now) ∙ p.2, omega (arith, p.3, numbered g a.hashes.now, numbered g a.zuniqs.now), omega (arith, p.4, numbered g a.hashes.now))

pub push_all-entries-requires-clause-rising : goal.push_all-entries-requires-clause-rising
push_all-entries-requires-clause-rising g c = (may_push {vs = c.args.counts.now} (accepted g (goal.at.push_all-entries-requires-clause-rising g c).In_ok-total).0).1

pub push_all-entries-requires-clause-batch_bound : goal.push_all-entries-requires-clause-batch_bound
push_all-entries-requires-clause-batch_bound g c =
    let a = c.args in
    let z = g.Z.ZUniqHashT in
    let ok = accepted g (goal.at.push_all-entries-requires-clause-batch_bound g c).In_ok-total in
    let p = (may_push {vs = a.counts.now} ok.0).0 in
    omega (arith, ok.1, held-total z.MAX_DEPTH a.held (z.numbers a.zuniqs.now) a.counts.now p.0, batch-total a.depth (z.numbers a.hashes.now) a.batch.now p.2)

pub of_u64-requires : goal.of_u64-requires
unfolding n_hash
of_u64-requires g c = omega (arith, four_pow_pos g.Z.ZUniqHashT.MAX_DEPTH)

pub returns : goal.returns
returns g c =
    let a = c.args in
    let z = g.Z.ZUniqHashT in
    let n = c.push_all-entries.result in
    let zs₁ = c.push_all-entries.new.zuniqs in
    let vs₁ = c.push_all-entries.new.values in
    let w =
    subst
    (λ (ps : List g.row.Z.Denot). Added (accept_counts z.MAX_DEPTH (z.numbers ps) a.depth_threshold a.chi2_threshold) z.MAX_DEPTH a.held (batch a.depth (z.numbers a.hashes.now) a.batch.now) (z.numbers a.zuniqs.now) a.counts.now n (z.numbers zs₁) vs₁)
    c.in_ok-map.ensures.0 c.push_all-entries.ensures in
    let fits : n ≤ length zs₁ = omega (arith, w.stands.zuniqs, numbered g zs₁) in
    let zs = ap z.numbers (cleared n zs₁ _ _ fits c.clear.ensures) ∙ numbers-cleared z.number z.numbers g.met.Z.ZUniqHashT.numbers_are zs₁ n (length zs₁ - n) c.of_u64.result in
    let vs = cleared n vs₁ _ 0 w.stands.values c.clear-2.ensures in
    let e = passed_all g (goal.at.returns g c).In_ok-total in
    counts_left z.MAX_DEPTH (z.numbers a.protected.now) a.depth a.depth_threshold a.chi2_threshold a.held (z.numbers a.zuniqs.now) a.counts.now (z.numbers a.hashes.now) a.batch.now e.0 n c.in_ok-total.total (z.numbers zs₁) vs₁ _ _ w
    (numbered g zs₁ ∙ c.push_all-entries.auto.zuniqs ∙ sym (numbered g a.zuniqs.now)) c.push_all-entries.auto.values (zs ∙ ap₂ (λ (k x : ℕ). take n (z.numbers zs₁) ++ replicate (k - n) x) (sym (numbered g zs₁)) c.of_u64.ensures) vs e.1
