-- `product_checked` meets its contract: the products are tried and counted, and merged where there is space. Assumes nothing.
use Rattle.std.specs.Prelude.{Err}
use mathlib.Core.Path.{◌≡◌, ap, sym, ◌∙◌}
use mathlib.Core.Bool.{true}
use mathlib.Core.List.{List}
use mathlib.Core.Option.{Option}
use native.Mathlib.Omega.{arith}
use lib.Ieee.{Float}
use lib.ListN.{length}
use Rattle.std.proofs.Common.{rules}
use Rattle.zuniq.specs.Cells.{n_hash}
use Rattle.refusal.specs.Checks.{or_else}
use Rattle.refusal.specs.declared.Refusal.{Refusal}
use Rattle.merger.specs.Floats.{0·0}
use Rattle.merger.proofs.Floats.{zero_is}
use Rattle.build.specs.Map.{Entry}
use Rattle.build.proofs.Accepted.{cleared}
use Rattle.combine.specs.Slices.{entries_of}
use Rattle.combine.specs.Densities.{product_cells, some_not_finite}
use Rattle.combine.specs.Pool.{finite_refusal, places_refusal, product_over}
use Rattle.combine.proofs.DensityCells.{not_finite_append, product_cells-few}
use Rattle.combine.proofs.ProductCall.{product_not_finite, product_no_space, product_made}
use Rattle.product.specs.Sinks.{IsTried}
use Rattle.product.proofs.product_checked.Goals as goal
use Rattle.product.proofs.product_checked.Goals.{Start, In_ok-cells}

-- the cells of the product, and the entries of the two maps
abbrev cells : Start → List (Entry Float)
cells s = let a = s.args in product_cells a.k a.left.now.zuniqs.now a.left.now.values.now a.right.now.zuniqs.now a.right.now.values.now

abbrev left : Start → List (Entry Float)
left s = entries_of s.args.left.now.zuniqs.now s.args.left.now.values.now

abbrev right : Start → List (Entry Float)
right s = entries_of s.args.right.now.zuniqs.now s.args.right.now.values.now

-- what is known once the cells have been walked and counted
abbrev after : Start → Option Refusal
after s = or_else (finite_refusal (cells s)) (places_refusal (length s.args.zuniqs.now) (length (cells s)))

pub product_cells-requires : goal.product_cells-requires
unfolding n_hash
product_cells-requires c =
    let l = c.args.left.now in
    let r = c.args.right.now in
    omega (arith, product_cells-few c.args.k l.zuniqs.now l.values.now r.zuniqs.now r.values.now)

pub returns-in_err-cells : goal.returns-in_err-cells
returns-in_err-cells c =
    let a = c.args in
    let m = a.merger.now in
    let s = (goal.at.returns-in_err-cells c).Start in
    let w = c.in_err-cells.ensures in
    let bad : some_not_finite (cells s) ≡ true = ap some_not_finite (sym w.2) ∙ rw (not_finite_append w.0 w.1, w.3.0) in
    let p : (Err c.in_err-cells.field-0.0, c.product_cells.new.zuniqs, c.product_cells.new.densities) ≡ product_over m.protected.zuniqs.now 29 (after s) (left s) (right s) m.depth_threshold m.chi2_threshold a.k a.zuniqs.now a.densities.now =
    rw (w.3.1, w.3.2, w.3.3) (product_not_finite m.protected.zuniqs.now (left s) (right s) m.depth_threshold m.chi2_threshold a.k a.zuniqs.now a.densities.now bad) in
    search rules

-- the cells have been tried
tried : (c : In_ok-cells) → IsTried c.args.zuniqs.now c.args.densities.now (cells (goal.at.In_ok-cells c).Start) c.in_ok-cells.cells c.product_cells.new.zuniqs c.product_cells.new.densities
tried c = c.in_ok-cells.ensures

pub returns-then-zuniqs-cells : goal.returns-then-zuniqs-cells
returns-then-zuniqs-cells c =
    let a = c.args in
    let m = a.merger.now in
    let s = (goal.at.returns-then-zuniqs-cells c).Start in
    let w = tried (goal.at.returns-then-zuniqs-cells c).In_ok-cells in
    rw (w.1.1, w.1.2) (product_no_space m.protected.zuniqs.now (left s) (right s) m.depth_threshold m.chi2_threshold a.k a.zuniqs.now a.densities.now w.0 _ w.1.0 (rw w.1.1 at c.if-zuniqs-cells.true))

pub product_cells-requires-2 : goal.product_cells-requires-2
product_cells-requires-2 c =
    let w = tried (goal.at.product_cells-requires-2 c).In_ok-cells in
    let u = c.if-zuniqs-cells.false in
    (omega (arith, w.1.0), omega (arith, w.1.0, c.requires, ap length w.1.1, ap length w.1.2))

pub returns : goal.returns
returns c =
    let a = c.args in
    let s = (goal.at.returns c).Start in
    let t = a.merger.now in
    let w = tried (goal.at.returns c).In_ok-cells in
    let m = rw (c.in-Ok.is, w.1.1, w.1.2) at c.product_cells-2.ensures in
    product_made t.protected.zuniqs.now (left s) (right s) t.depth_threshold t.chi2_threshold a.k a.zuniqs.now a.densities.now w.0 _ w.1.0 (rw w.1.1 at c.if-zuniqs-cells.false)
    _ _ _ _ _ m.added m.zuniqs m.values
    (cleared c.in-Ok.entries c.product_cells-2.new.zuniqs _ 0 m.added.stands.zuniqs c.clear.ensures)
    (cleared c.in-Ok.entries c.product_cells-2.new.densities _ 0·0 m.added.stands.values (rw zero_is at c.clear-2.ensures))
