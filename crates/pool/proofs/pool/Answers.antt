-- `pool` meets its contract. Assumes nothing.
use mathlib.Core.Path.{◌≡◌, sym, ◌∙◌}
use Rattle.std.proofs.Common.{rules}
use mathlib.Core.Option.{Option, none}
use Prim.Native.Nat.{ℕ, ◌+◌, ◌≤◌}
use lib.ListN.{length}
use Rattle.refusal.specs.declared.Refusal.{Refusal}
use Rattle.protection.specs.Protected.{RisingList}
use Rattle.build.specs.Add.{sum_of}
use Rattle.combine.specs.Pool.{Given, pool_input_refusal}
use Rattle.combine.proofs.Passed.{Passed}
use Rattle.combine.proofs.PoolCall.{pool_input_passes, pool_refused, Passed-total, pool_done}
use Rattle.pool.proofs.pool.Goals as goal
use Rattle.pool.proofs.pool.Goals.{In_ok-checked, Start}

-- ---- points on the way: the input is checked, and its total is known

-- the two maps, what is refused of the input, and the total
abbrev left : Start → Given ℕ
left s = record { depth = s.args.left_depth; zuniqs = s.args.left_zuniqs.now; values = s.args.left_counts.now }

abbrev right : Start → Given ℕ
right s = record { depth = s.args.right_depth; zuniqs = s.args.right_zuniqs.now; values = s.args.right_counts.now }

abbrev refusal : Start → Option Refusal
refusal s = let a = s.args in pool_input_refusal a.protected.now (left s) (right s) a.depth_threshold a.chi2_threshold (length a.zuniqs.now) (length a.counts.now)

-- what is checked is not refused
allowed : (c : In_ok-checked) → refusal (goal.at.In_ok-checked c).Start ≡ none
allowed c = c.in_ok-checked.ensures.2

passed : (c : In_ok-checked) → let s = (goal.at.In_ok-checked c).Start in Passed (left s) (right s) (length s.args.zuniqs.now) (length s.args.counts.now)
passed c =
    let s = (goal.at.In_ok-checked c).Start in
    (pool_input_passes s.args.protected.now (left s) (right s) s.args.depth_threshold s.args.chi2_threshold _ _ (allowed c)).0

pub invariant_of-left : goal.invariant_of-left
invariant_of-left c = let p = passed (goal.at.invariant_of-left c).In_ok-checked in record { paired = p.left_paired; valid = p.left_passes }

pub invariant_of-right : goal.invariant_of-right
invariant_of-right c = let p = passed (goal.at.invariant_of-right c).In_ok-checked in record { paired = p.right_paired; valid = p.right_passes }

pub pool_checked-requires : goal.pool_checked-requires
pool_checked-requires c =
    let s = (goal.at.pool_checked-requires c).Start in
    let i = (goal.at.pool_checked-requires c).In_ok-checked in
    let p = passed i in
    (Passed-total (left s) (right s) _ _ p ∙ sym i.in_ok-checked.ensures.1, p.paired)

pub returns-in_err-checked : goal.returns-in_err-checked
returns-in_err-checked c =
    let s = (goal.at.returns-in_err-checked c).Start in
    let a = c.args in
    let p = pool_refused a.protected.now (left s) (right s) a.depth_threshold a.chi2_threshold a.zuniqs.now a.counts.now c.in_err-checked.field-0.0 c.in_err-checked.ensures in
    search rules

pub returns : goal.returns
returns c =
    let s = (goal.at.returns c).Start in
    let i = (goal.at.returns c).In_ok-checked in
    let a = c.args in
    pool_done a.protected.now (left s) (right s) a.depth_threshold a.chi2_threshold a.zuniqs.now a.counts.now (allowed i) _ (rw i.in_ok-checked.ensures.0 at c.pool_checked.ensures)
