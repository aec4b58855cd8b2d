-- `product` meets its contract. Assumes nothing.
use mathlib.Core.Path.{◌≡◌, ◌∙◌}
use mathlib.Core.Option.{Option, none}
use native.Mathlib.Omega.{arith}
use lib.Ieee.{Float}
use lib.ListN.{length}
use Rattle.std.proofs.Common.{rules}
use Rattle.refusal.specs.declared.Refusal.{Refusal}
use Rattle.combine.specs.Pool.{Given, product_input_refusal}
use Rattle.combine.proofs.Passed.{Passed}
use Rattle.combine.proofs.ProductCall.{product_passes, product_refused, product_done}
use Rattle.product.proofs.product.Goals as goal
use Rattle.product.proofs.product.Goals.{In_ok-protected, Start}

-- ---- points on the way: the input is checked

-- the two maps, and what is refused of the input
abbrev left : Start → Given Float
left s = record { depth = s.args.left_depth; zuniqs = s.args.left_zuniqs.now; values = s.args.left_densities.now }

abbrev right : Start → Given Float
right s = record { depth = s.args.right_depth; zuniqs = s.args.right_zuniqs.now; values = s.args.right_densities.now }

abbrev refusal : Start → Option Refusal
refusal s =
    let a = s.args in
    product_input_refusal a.protected.now (left s) (right s) a.depth_threshold a.chi2_threshold a.k (length a.zuniqs.now) (length a.densities.now)

-- what is checked is not refused
accepted : (c : In_ok-protected) → refusal (goal.at.In_ok-protected c).Start ≡ none
accepted c = c.in_ok-protected.ensures.1

passed : (c : In_ok-protected) → let s = (goal.at.In_ok-protected c).Start in Passed (left s) (right s) (length s.args.zuniqs.now) (length s.args.densities.now)
passed c =
    let a = c.args in
    let s = (goal.at.In_ok-protected c).Start in
    (product_passes a.protected.now (left s) (right s) a.depth_threshold a.chi2_threshold a.k a.zuniqs.now a.densities.now (accepted c)).0

pub returns-in_err-protected : goal.returns-in_err-protected
returns-in_err-protected c =
    let a = c.args in
    let s = (goal.at.returns-in_err-protected c).Start in
    let p = product_refused a.protected.now (left s) (right s) a.depth_threshold a.chi2_threshold a.k a.zuniqs.now a.densities.now c.in_err-protected.field-0.0 c.in_err-protected.ensures in
    search rules

pub invariant_of-left : goal.invariant_of-left
invariant_of-left c = let p = passed (goal.at.invariant_of-left c).In_ok-protected in record { paired = p.left_paired; valid = p.left_passes }

pub invariant_of-right : goal.invariant_of-right
invariant_of-right c = let p = passed (goal.at.invariant_of-right c).In_ok-protected in record { paired = p.right_paired; valid = p.right_passes }

pub new-merger-requires : goal.new-merger-requires
new-merger-requires c =
    let p = passed (goal.at.new-merger-requires c).In_ok-protected in
    omega (arith, c.saturating_sub-parent_depth.ensures, c.max.ensures, p.left_deep, p.right_deep)

pub product_checked-requires : goal.product_checked-requires
product_checked-requires c = (passed (goal.at.product_checked-requires c).In_ok-protected).paired

pub returns : goal.returns
returns c =
    let a = c.args in
    let s = (goal.at.returns c).Start in
    let i = (goal.at.returns c).In_ok-protected in
    let e = c.new-merger.ensures in
    product_done a.protected.now (left s) (right s) a.depth_threshold a.chi2_threshold a.k a.zuniqs.now a.densities.now (accepted i) _ (rw (e.0, e.1, e.2 ∙ i.in_ok-protected.ensures.0) at c.product_checked.ensures)
