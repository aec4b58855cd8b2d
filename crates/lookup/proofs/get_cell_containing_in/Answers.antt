-- `get_cell_containing_in` meets its contract. Assumes nothing.
use mathlib.Core.Path.{sym, ◌∙◌}
use native.Mathlib.Omega.{arith}
use Rattle.mom.proofs.Ranges.{has_range}
use Rattle.mom.proofs.Answers.{depth_refused, not_zuniq_refused, not_at_depth_refused, at_answer, nothing_answer}
use Prim.Native.Nat.{◌-◌}
use Rattle.std.proofs.Common.{rules}
use Rattle.std.specs.Prelude.{Ok, Some}
use Rattle.mom.specs.Lookup.{ContainingAnswer}
use Rattle.lookup.proofs.get_cell_containing_in.Goals as goal
use Rattle.lookup.proofs.get_cell_containing_in.Goals.{else-place-n_zuniqs-via-then-place-n_zuniqs+else-is_overlapped, else-place-n_zuniqs-via-else-place-n_zuniqs, else-place-gt0-via-then-place-gt0+else-is_overlapped-2, else-place-gt0-via-else-place-gt0}

pub returns-then-depth-MAX_DEPTH : goal.returns-then-depth-MAX_DEPTH
returns-then-depth-MAX_DEPTH g c = depth_refused (omega (arith, c.if-depth-MAX_DEPTH.true, c.MAX_DEPTH.ensures))

pub returns-in_default : goal.returns-in_default
returns-in_default g c = not_zuniq_refused (omega (arith, c.if-depth-MAX_DEPTH.false, c.MAX_DEPTH.ensures)) (sym c.range_of.ensures ∙ c.in_default.is)

pub returns-then-query-depth : goal.returns-then-query-depth
returns-then-query-depth g c =
    let range = has_range _ _ _ (sym c.range_of.ensures ∙ c.in-Some.is) in
    not_at_depth_refused (omega (arith, c.if-depth-MAX_DEPTH.false, c.MAX_DEPTH.ensures)) range (λ same. omega (arith, c.if-query-depth.true))

pub returns-then-is_overlapped : goal.returns-then-is_overlapped
returns-then-is_overlapped g c =
    let range = has_range _ _ _ (sym c.range_of.ensures ∙ c.in-Some.is) in
    at_answer (omega (arith, c.if-depth-MAX_DEPTH.false, c.MAX_DEPTH.ensures)) range (omega (arith, c.if-query-depth.false)) (omega (arith, c.if-place-n_zuniqs.true, c.n_zuniqs.ensures))
    (rw c.zuniq_at.ensures at (sym c.is_overlapped.ensures ∙ c.if-is_overlapped.true))

pub returns-then-is_overlapped-2 : goal.returns-then-is_overlapped-2
returns-then-is_overlapped-2 g c =
    let range = has_range _ _ _ (sym c.range_of.ensures ∙ c.in-Some.is) in
    let left : ContainingAnswer g.L.Zuniq.ZUniqHashT.MAX_DEPTH c.args.depth (g.L.ZuniqList.numbers c.args.list) (g.L.Zuniq.ZUniqHashT.number c.args.«zuniq») (Ok (Some (c.lower_bound_in-place.result - 1))) =
    at_answer (omega (arith, c.if-depth-MAX_DEPTH.false, c.MAX_DEPTH.ensures)) range (omega (arith, c.if-query-depth.false)) (omega (arith, c.if-place-gt0.true, c.lower_bound_in-place.ensures.within))
    (rw c.zuniq_at-then-place-gt0.ensures at (sym c.is_overlapped-then-place-gt0.ensures ∙ c.if-is_overlapped-2.true)) in
    search rules

pub returns : goal.returns
returns g c =
    let range = has_range _ _ _ (sym c.range_of.ensures ∙ c.in-Some.is) in
    nothing_answer (omega (arith, c.if-depth-MAX_DEPTH.false, c.MAX_DEPTH.ensures)) range (omega (arith, c.if-query-depth.false)) c.lower_bound_in-place.ensures
    (λ l. elim c.else-place-gt0.branch [
      | else-place-gt0-via-then-place-gt0+else-is_overlapped-2 w ↦ rw w.zuniq_at-then-place-gt0.ensures at (sym w.is_overlapped-then-place-gt0.ensures ∙ w.if-is_overlapped-2.false)
      | else-place-gt0-via-else-place-gt0 w ↦ absurd (omega (arith, w.if-place-gt0.false))
    ])
    (λ l. elim c.else-place-n_zuniqs.branch [
      | else-place-n_zuniqs-via-then-place-n_zuniqs+else-is_overlapped w ↦ rw w.zuniq_at.ensures at (sym w.is_overlapped.ensures ∙ w.if-is_overlapped.false)
      | else-place-n_zuniqs-via-else-place-n_zuniqs w ↦ absurd (omega (arith, w.if-place-n_zuniqs.false, c.n_zuniqs.ensures))
    ])
