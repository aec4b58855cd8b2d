-- `check_cells` meets its contract. The loop's invariant: the cells passed are not refused. Assumes nothing.
use mathlib.Core.Path.{◌≡◌, refl, sym, ◌∙◌}
use mathlib.Core.Option.{Option, none}
use Prim.Native.Nat.{◌+◌}
use native.Mathlib.Omega.{arith}
use lib.Ieee.{nan}
use lib.ListN.{get_or, drop}
use Rattle.std.proofs.Common.{rules}
use Rattle.zuniq.specs.Cells.{n_hash}
use Rattle.refusal.specs.declared.Refusal.{Refusal}
use Rattle.merger.specs.Floats.{invalid_density}
use Rattle.refusal.specs.Checks.{or_else, refused_if, check_of}
use Rattle.refusal.proofs.Checks.{none_of_ok, some_of_err}
use Rattle.build.specs.Add.{cell_refusal, cells_refusal}
use Rattle.build.proofs.Checking.{cell_passes, cells_at, cells-end}
use Rattle.build_densities.proofs.check_cells.Goals as goal
use Rattle.build_densities.proofs.check_cells.Goals.{After-check_cell, In_ok-check_cell}

-- ---- a turn
-- what the cell is refused for
abbrev fault : After-check_cell → Option Refusal
fault c = let a = c.args in let o = c.loop-i in cell_refusal (n_hash a.depth) o.least (get_or a.hashes.now o.i 0) o.i

checked : (c : After-check_cell) → c.check_cell.result ≡ check_of (fault c)
checked c = rw c.n_hash_unchecked-n_hash.ensures at c.check_cell.ensures

passed : (c : In_ok-check_cell) → fault (goal.at.In_ok-check_cell c).After-check_cell ≡ none
passed c = none_of_ok _ _ _ (sym (checked (goal.at.In_ok-check_cell c).After-check_cell) ∙ c.in_ok-check_cell.was)

-- and the batch, once the cells before it have passed
split : (c : After-check_cell) → let a = c.args in
    let o = c.loop-i in
    let hash = get_or a.hashes.now o.i 0 in
    cells_refusal invalid_density a.depth a.end 0 a.hashes.now a.batch.now
    ≡ or_else (fault c) (or_else (refused_if (invalid_density (get_or a.batch.now o.i nan)) (Refusal.InvalidDensity o.i))
    (cells_refusal invalid_density a.depth (hash + 1) (o.i + 1) (drop (o.i + 1) a.hashes.now) (drop (o.i + 1) a.batch.now)))
split c =
    let a = c.args in
    let o = c.loop-i in
    sym o.invariant ∙ cells_at invalid_density a.depth o.least o.i a.hashes.now a.batch.now nan c.loop-i-test.true (omega (arith, c.loop-i-test.true, c.requires.1))

-- ---- the answers
pub returns-in_err-check_cell : goal.returns-in_err-check_cell
returns-in_err-check_cell c =
    let row = some_of_err _ _ _ (sym (checked (goal.at.returns-in_err-check_cell c).After-check_cell) ∙ c.in_err-check_cell.was) in
    rw (split (goal.at.returns-in_err-check_cell c).After-check_cell, row) (search rules)

pub returns-then-invalid_density : goal.returns-then-invalid_density
returns-then-invalid_density c = rw (split (goal.at.returns-then-invalid_density c).After-check_cell, passed (goal.at.returns-then-invalid_density c).In_ok-check_cell, sym c.invalid_density.ensures ∙ c.if-invalid_density.true) refl

pub overflow_add-least : goal.overflow_add-least
overflow_add-least c =
    let o = c.loop-i in
    let p = cell_passes (n_hash c.args.depth) o.least (get_or c.args.hashes.now o.i 0) o.i (passed (goal.at.overflow_add-least c).In_ok-check_cell) in
    record { fits = omega (arith, p.0, c.n_hash_unchecked-n_hash.ensures, c.n_hash_unchecked-n_hash.type_inv) }

pub loop-i-preserved : goal.loop-i-preserved
loop-i-preserved c = sym (rw (passed (goal.at.loop-i-preserved c).In_ok-check_cell, sym c.invalid_density.ensures ∙ c.if-invalid_density.false) at (split (goal.at.loop-i-preserved c).After-check_cell))

pub returns : goal.returns
returns c = let a = c.args in let o = c.loop-i in rw (← o.invariant, cells-end invalid_density a.depth o.least o.i a.hashes.now a.batch.now c.loop-i-test.false) refl
