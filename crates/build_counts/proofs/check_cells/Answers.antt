-- `check_cells` meets its contract. The loop's invariant: the cells passed are not refused. Assumes nothing.
use mathlib.Core.Path.{◌≡◌, refl, sym, ◌∙◌}
use mathlib.Core.Option.{Option, none}
use Prim.Native.Nat.{◌+◌}
use native.Mathlib.Omega.{arith}
use lib.ListN.{drop}
use Rattle.std.proofs.Common.{rules}
use Rattle.zuniq.specs.Cells.{n_hash}
use Rattle.zuniq.proofs.Numbers.{length-numbers, number_at}
use Rattle.refusal.specs.declared.Refusal.{Refusal}
use Rattle.refusal.specs.Checks.{or_else, check_of}
use Rattle.refusal.proofs.Checks.{none_of_ok, some_of_err}
use Rattle.build.specs.Add.{cell_refusal, hashes_refusal}
use Rattle.build.proofs.Ends.{n_hash-mono}
use Rattle.build.proofs.Checking.{cell_passes, hashes_at, hashes_end}
use Rattle.build_counts.proofs.check_cells.Given.{Over}
use Rattle.build_counts.proofs.check_cells.Goals as goal
use Rattle.build_counts.proofs.check_cells.Goals.{After-check_cell, In_ok-check_cell}

-- ---- a turn
-- what the cell is refused for
abbrev fault : (g : Over) → After-check_cell g → Option Refusal
fault g c = let o = c.loop-i in cell_refusal (n_hash c.args.depth) o.least c.as_u64-hash.result o.i

checked : (g : Over) (c : After-check_cell g) → c.check_cell.result ≡ check_of (fault g c)
checked g c = rw c.n_hash_unchecked-n_hash.ensures at c.check_cell.ensures

passed : (g : Over) (c : In_ok-check_cell g) → fault g (goal.at.In_ok-check_cell g c).After-check_cell ≡ none
passed g c = none_of_ok _ _ _ (sym (checked g (goal.at.In_ok-check_cell g c).After-check_cell) ∙ c.in_ok-check_cell.was)

-- and the batch, once the cells before it have passed
split : (g : Over) (c : After-check_cell g) → let a = c.args in
    let o = c.loop-i in
    let hs = g.Z.ZUniqHashT.numbers a.hashes.now in
    hashes_refusal a.depth a.end 0 hs ≡ or_else (fault g c) (hashes_refusal a.depth (c.as_u64-hash.result + 1) (o.i + 1) (drop (o.i + 1) hs))
split g c =
    let a = c.args in
    let o = c.loop-i in
    let z = g.Z.ZUniqHashT in
    let are = g.met.Z.ZUniqHashT.numbers_are in
    let hash = c.as_u64-hash.ensures ∙ number_at z.number z.numbers are a.hashes.now o.i _ c.loop-i-test.true c.index-hashes-i.is in
    rw hash (sym o.invariant ∙ hashes_at a.depth o.least o.i (z.numbers a.hashes.now) (omega (arith, c.loop-i-test.true, length-numbers z.number z.numbers are a.hashes.now)))

-- ---- the answers
pub returns-in_err-check_cell : goal.returns-in_err-check_cell
returns-in_err-check_cell g c =
    let e = split g (goal.at.returns-in_err-check_cell g c).After-check_cell in
    let row = some_of_err _ _ _ (sym (checked g (goal.at.returns-in_err-check_cell g c).After-check_cell) ∙ c.in_err-check_cell.was) in
    rw (e, row) (search rules)

pub overflow_add-least : goal.overflow_add-least
unfolding n_hash
overflow_add-least g c =
    let o = c.loop-i in
    let p = cell_passes (n_hash c.args.depth) o.least c.as_u64-hash.result o.i (passed g (goal.at.overflow_add-least g c).In_ok-check_cell) in
    record { fits = omega (arith, p.0, n_hash-mono c.args.depth 29 (omega (arith, c.requires, g.met.Z.ZUniqHashT.max_depth))) }

pub loop-i-preserved : goal.loop-i-preserved
loop-i-preserved g c = sym (rw (passed g (goal.at.loop-i-preserved g c).In_ok-check_cell) at (split g (goal.at.loop-i-preserved g c).After-check_cell))

pub returns : goal.returns
returns g c =
    let a = c.args in
    let o = c.loop-i in
    let z = g.Z.ZUniqHashT in
    let hs = z.numbers a.hashes.now in
    rw (← o.invariant, hashes_end a.depth o.least o.i hs (omega (arith, c.loop-i-test.false, length-numbers z.number z.numbers g.met.Z.ZUniqHashT.numbers_are a.hashes.now))) refl
