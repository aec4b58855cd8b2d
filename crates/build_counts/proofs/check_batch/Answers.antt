-- `check_batch` meets its contract: each check is one row of the table. Assumes nothing.
use mathlib.Core.Path.{◌≡◌, refl, sym, ap, ◌∙◌}
use mathlib.Core.Option.{none, some}
use Prim.Native.Nat.{ℕ, ◌+◌, ◌≤◌}
use native.Mathlib.Omega.{arith}
use Rattle.std.specs.Prelude.{Ok}
use Rattle.std.proofs.Common.{rules}
use Rattle.refusal.proofs.Checks.{none_of_ok, some_of_err, passed_of_ok}
use Rattle.build.specs.Add.{hashes_refusal, sum_of, capped_sum, total_refusal}
use Rattle.build.proofs.Checking.{capped_refusal, total_fits}
use Rattle.build_counts.proofs.check_batch.Given.{Over}
use Rattle.build_counts.proofs.check_batch.Goals as goal
use Rattle.build_counts.proofs.check_batch.Goals.{In_ok-check_cells, In_ok-total}

-- ---- what has passed
cells : (g : Over) (c : In_ok-check_cells g) → let a = c.args in hashes_refusal a.depth a.end 0 (g.Z.ZUniqHashT.numbers a.hashes.now) ≡ none
cells g c = none_of_ok _ _ _ (sym c.check_cells.ensures ∙ c.in_ok-check_cells.was)

total_is : (g : Over) (c : In_ok-total g) → let a = c.args in
    (total_refusal (sum_of a.held.now) a.batch.now ≡ none) × (sum_of a.held.now + sum_of a.batch.now ≡ c.in_ok-total.total)
unfolding capped_sum
total_is g c =
    let a = c.args in
    let p = passed_of_ok _ _ _ (sym c.check_total.ensures ∙ c.in_ok-total.was) in
    let none = sym (capped_refusal a.held.now a.batch.now) ∙ rw c.capped_sum.ensures at p.0 in
    (none, omega (arith, c.capped_sum.ensures, p.1, total_fits (sum_of a.held.now) a.batch.now none))

-- ---- the answers
pub returns-in_err-total : goal.returns-in_err-total
returns-in_err-total g c =
    let a = c.args in
    let row : total_refusal c.capped_sum.result a.batch.now ≡ some c.in_err-total.field-0.0 = some_of_err _ (c.capped_sum.result + sum_of a.batch.now) _ (sym c.check_total.ensures ∙ c.in_err-total.was) in
    let total = sym (capped_refusal a.held.now a.batch.now) ∙ rw c.capped_sum.ensures at row in
    rw (cells g (goal.at.returns-in_err-total g c).In_ok-check_cells, total) (search rules)

pub returns-in_err-check_space : goal.returns-in_err-check_space
returns-in_err-check_space g c =
    let a = c.args in
    let row = some_of_err _ _ _ (sym c.check_space.ensures ∙ c.in_err-check_space.was) in
    let total = (total_is g (goal.at.returns-in_err-check_space g c).In_ok-total).0 in
    rw (cells g (goal.at.returns-in_err-check_space g c).In_ok-check_cells, total, row) (search rules)

pub returns : goal.returns
returns g c =
    let row = none_of_ok _ _ _ (sym c.check_space.ensures ∙ c.in_ok-check_space.was) in
    let total = total_is g (goal.at.returns g c).In_ok-total in
    rw (cells g (goal.at.returns g c).In_ok-check_cells, total.0, row) (ap Ok (sym total.1))
