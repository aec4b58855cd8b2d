-- `ask` meets its contract. Assumes nothing.
use mathlib.Core.Path.{◌≡◌}
use mathlib.Core.Option.{none}
use Prim.Native.Nat.{ℕ}
use Rattle.std.proofs.Common.{rules}
use Rattle.combine.specs.Pool.{Given, pool_input_refusal}
use Rattle.combine.specs.Ask.{ask_counts}
use Rattle.combine.proofs.Passed.{Passed}
use Rattle.combine.proofs.AskCall.{asked_passed, asked_total, asked_found}
use Rattle.ask.proofs.ask.Goals as goal
use Rattle.ask.proofs.ask.Goals.{In_ok-checked, Start}

-- ---- points on the way: the input is checked

abbrev left : Start → Given ℕ
left s = record { depth = s.args.left_depth; zuniqs = s.args.left_zuniqs.now; values = s.args.left_counts.now }

abbrev right : Start → Given ℕ
right s = record { depth = s.args.right_depth; zuniqs = s.args.right_zuniqs.now; values = s.args.right_counts.now }

allowed : (c : In_ok-checked) → let s = (goal.at.In_ok-checked c).Start in pool_input_refusal s.args.protected.now (left s) (right s) s.args.depth_threshold s.args.chi2_threshold 0 0 ≡ none
allowed c = c.in_ok-checked.ensures.2

passed : (c : In_ok-checked) → let s = (goal.at.In_ok-checked c).Start in Passed (left s) (right s) 0 0
passed c = let s = (goal.at.In_ok-checked c).Start in asked_passed s.args.protected.now (left s) (right s) s.args.depth_threshold s.args.chi2_threshold 0 0 (allowed c)

-- ---- the answers
pub invariant_of-left : goal.invariant_of-left
invariant_of-left c = let p = passed (goal.at.invariant_of-left c).In_ok-checked in record { paired = p.left_paired; valid = p.left_passes }

pub invariant_of-right : goal.invariant_of-right
invariant_of-right c = let p = passed (goal.at.invariant_of-right c).In_ok-checked in record { paired = p.right_paired; valid = p.right_passes }

pub pool_figures-requires : goal.pool_figures-requires
pool_figures-requires c =
    let s = (goal.at.pool_figures-requires c).Start in
    let i = (goal.at.pool_figures-requires c).In_ok-checked in
    asked_total s.args.protected.now (left s) (right s) s.args.depth_threshold s.args.chi2_threshold 0 0 (allowed i) _ i.in_ok-checked.ensures.1

pub returns-in_err-checked : goal.returns-in_err-checked
unfolding ask_counts
returns-in_err-checked c = let r = c.in_err-checked.ensures in rw r (search rules)

pub returns : goal.returns
unfolding ask_counts
returns c =
    let s = (goal.at.returns c).Start in
    let i = (goal.at.returns c).In_ok-checked in
    asked_found s.args.protected.now (left s) (right s) s.args.depth_threshold s.args.chi2_threshold 0 0 (allowed i) _ i.in_ok-checked.ensures.1 _ (rw i.in_ok-checked.ensures.0 at c.pool_figures.ensures)
