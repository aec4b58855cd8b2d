-- `check` meets its contract. The invariant of its loop: the values before `i` are passed, and the last of them is carried along.
-- Assumes nothing.
use mathlib.Core.Path.{refl, sym, ◌∙◌}
use native.Mathlib.Omega.{arith}
use Rattle.zuniq.proofs.Numbers.{length-numbers, number_at}
use Rattle.protection.proofs.Lists.{passed_none, passed_all, no_zuniq_here, not_above_here, passed_on, accepted_iff_rising_list}
use Rattle.protection.proofs.Protected.check.Goals as goal

pub loop-i-init : goal.loop-i-init
loop-i-init g c = passed_none

pub returns-in_default : goal.returns-in_default
returns-in_default g c =
    let z = g.Z.ZUniqHashT in
    let are = g.met.Z.ZUniqHashT.numbers_are in
    let within = c.loop-i-test.true in
    let here = number_at z.number z.numbers are _ _ _ within c.index-zuniqs-i.is in
    no_zuniq_here c.loop-i.invariant (omega (arith, within, length-numbers z.number z.numbers are c.args.zuniqs.now)) here (sym c.from_zuniq.ensures.answer ∙ c.in_default.is)

pub returns-then-number-before : goal.returns-then-number-before
returns-then-number-before g c =
    let z = g.Z.ZUniqHashT in
    let are = g.met.Z.ZUniqHashT.numbers_are in
    let within = c.loop-i-test.true in
    let here = number_at z.number z.numbers are _ _ _ within c.index-zuniqs-i.is in
    not_above_here c.loop-i.invariant (omega (arith, within, length-numbers z.number z.numbers are c.args.zuniqs.now)) here (sym c.from_zuniq.ensures.answer ∙ c.in-Cell.is) (omega (arith, c.as_u64-number.ensures))

pub loop-i-preserved : goal.loop-i-preserved
loop-i-preserved g c =
    let z = g.Z.ZUniqHashT in
    let are = g.met.Z.ZUniqHashT.numbers_are in
    let within = c.loop-i-test.true in
    let here = c.as_u64-number.ensures ∙ number_at z.number z.numbers are _ _ _ within c.index-zuniqs-i.is in
    passed_on c.loop-i.invariant (omega (arith, within, length-numbers z.number z.numbers are c.args.zuniqs.now)) here {c = c.in-Cell.field-0} (rw c.as_u64-number.ensures (sym c.from_zuniq.ensures.answer ∙ c.in-Cell.is)) (omega arith)

pub invariant_of-result : goal.invariant_of-result
invariant_of-result g c =
    let z = g.Z.ZUniqHashT in
    let long = length-numbers z.number z.numbers g.met.Z.ZUniqHashT.numbers_are c.args.zuniqs.now in
    let nothing = passed_all c.loop-i.invariant (omega (arith, c.loop-i-test.false, long)) in
    record { rising = ((accepted_iff_rising_list z.MAX_DEPTH (z.numbers c.args.zuniqs.now)).0 nothing).rising }

pub returns : goal.returns
returns g c =
    let z = g.Z.ZUniqHashT in
    let long = length-numbers z.number z.numbers g.met.Z.ZUniqHashT.numbers_are c.args.zuniqs.now in
    (refl, passed_all c.loop-i.invariant (omega (arith, c.loop-i-test.false, long)))
