-- `commit` meets its contract. Assumes nothing.
use mathlib.Core.Path.{◌≡◌, ap, sym, ◌∙◌}
use mathlib.Core.Option.{none, some}
use Prim.Native.Nat.{ℕ, ◌+◌}
use lib.ListN.{length}
use borrow.Author.Tests.{not-true, not-false}
use Rattle.std.proofs.Common.{rules}
use Rattle.build.specs.Add.{sum_of}
use Rattle.combine.specs.Pool.{Given, pool_input_refusal}
use Rattle.combine.specs.Ask.{figures_of}
use Rattle.combine.specs.declared.counts.Figures.{Figures}
use Rattle.combine.proofs.Passed.{Passed}
use Rattle.combine.proofs.AskCall.{asked_passed, asked_total, walk_found, input_refused, commit_differs, commit_cells, commit_done}
use Rattle.ask.proofs.commit.Goals as goal
use Rattle.ask.proofs.commit.Goals.{In_ok-checked, After-pool_figures-found, Start}

-- ---- points on the way: the input is checked, and the figures are found. What the check tells is found by the search, so that
-- it hangs on no name.

abbrev left : Start → Given ℕ
left s = record { depth = s.args.left_depth; zuniqs = s.args.left_zuniqs.now; values = s.args.left_counts.now }

abbrev right : Start → Given ℕ
right s = record { depth = s.args.right_depth; zuniqs = s.args.right_zuniqs.now; values = s.args.right_counts.now }

allowed : (c : In_ok-checked) → let s = (goal.at.In_ok-checked c).Start in pool_input_refusal s.args.protected.now (left s) (right s) s.args.depth_threshold s.args.chi2_threshold (length s.args.zuniqs.now) (length s.args.counts.now) ≡ none
allowed c = search rules

listed : (c : In_ok-checked) → c.in_ok-checked.checked.protected.zuniqs.now ≡ (goal.at.In_ok-checked c).Start.args.protected.now
listed c = search rules

summed : (c : In_ok-checked) → let s = (goal.at.In_ok-checked c).Start in c.in_ok-checked.checked.total ≡ sum_of s.args.left_counts.now + sum_of s.args.right_counts.now
summed c = search rules

passed : (c : In_ok-checked) → let s = (goal.at.In_ok-checked c).Start in Passed (left s) (right s) (length s.args.zuniqs.now) (length s.args.counts.now)
passed c = let s = (goal.at.In_ok-checked c).Start in asked_passed s.args.protected.now (left s) (right s) s.args.depth_threshold s.args.chi2_threshold _ _ (allowed c)

found : (c : After-pool_figures-found) → let s = (goal.at.After-pool_figures-found c).Start in c.pool_figures-found.result ≡ figures_of s.args.protected.now (left s) (right s) s.args.depth_threshold s.args.chi2_threshold
found c =
    let s = (goal.at.After-pool_figures-found c).Start in
    let i = (goal.at.After-pool_figures-found c).In_ok-checked in
    walk_found s.args.protected.now (left s) (right s) s.args.depth_threshold s.args.chi2_threshold _ _ (allowed i) _ (summed i) _ (rw (listed i) at c.pool_figures-found.ensures)

-- ---- the answers
pub invariant_of-left : goal.invariant_of-left
invariant_of-left c = let p = passed (goal.at.invariant_of-left c).In_ok-checked in record { paired = p.left_paired; valid = p.left_passes }

pub invariant_of-right : goal.invariant_of-right
invariant_of-right c = let p = passed (goal.at.invariant_of-right c).In_ok-checked in record { paired = p.right_paired; valid = p.right_passes }

pub pool_figures-found-requires : goal.pool_figures-found-requires
pool_figures-found-requires c =
    let s = (goal.at.pool_figures-found-requires c).Start in
    let i = (goal.at.pool_figures-found-requires c).In_ok-checked in
    asked_total s.args.protected.now (left s) (right s) s.args.depth_threshold s.args.chi2_threshold _ _ (allowed i) _ (summed i)

pub pool_counted-requires : goal.pool_counted-requires
pool_counted-requires c =
    let s = (goal.at.pool_counted-requires c).Start in
    let i = (goal.at.pool_counted-requires c).In_ok-checked in
    let f = (goal.at.pool_counted-requires c).After-pool_figures-found in
    let a = s.args in (
      asked_total a.protected.now (left s) (right s) a.depth_threshold a.chi2_threshold _ _ (allowed i) _ (summed i) ∙ sym (ap (λ (g : Figures). g.total) c.pool_figures-found.ensures),
      (passed i).paired,
      commit_cells a.protected.now (left s) (right s) a.depth_threshold a.chi2_threshold a.figures a.zuniqs.now a.counts.now _ (allowed i) (found f),
    )

pub returns-in_err-checked : goal.returns-in_err-checked
returns-in_err-checked c =
    let s = (goal.at.returns-in_err-checked c).Start in
    let refused : pool_input_refusal s.args.protected.now (left s) (right s) s.args.depth_threshold s.args.chi2_threshold (length s.args.zuniqs.now) (length s.args.counts.now) ≡ some c.in_err-checked.field-0.0 = search rules in
    let r = input_refused s.args.protected.now (left s) (right s) s.args.depth_threshold s.args.chi2_threshold s.args.figures s.args.zuniqs.now s.args.counts.now c.in_err-checked.field-0.0 refused in
    search rules

pub returns-then-ne : goal.returns-then-ne
returns-then-ne c =
    let s = (goal.at.returns-then-ne c).Start in
    let i = (goal.at.returns-then-ne c).In_ok-checked in
    let f = (goal.at.returns-then-ne c).After-pool_figures-found in
    let a = s.args in
    commit_differs a.protected.now (left s) (right s) a.depth_threshold a.chi2_threshold a.figures a.zuniqs.now a.counts.now c.pool_figures-found.result (allowed i) (found f) (not-true _ (sym c.if-ne.ensures))

pub returns : goal.returns
returns c =
    let s = (goal.at.returns c).Start in
    let i = (goal.at.returns c).In_ok-checked in
    let f = (goal.at.returns c).After-pool_figures-found in
    let a = s.args in
    commit_done a.protected.now (left s) (right s) a.depth_threshold a.chi2_threshold a.figures a.zuniqs.now a.counts.now c.pool_figures-found.result (allowed i) (found f) (not-false _ (sym c.if-ne.ensures)) _ (rw (listed i) at c.pool_counted.ensures)
