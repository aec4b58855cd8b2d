-- `are_next_siblings` meets its contract. Assumes nothing.
use mathlib.Core.Path.{refl, ◌∙◌}
use Prim.Native.Nat.{◌+◌, ◌-◌}
use native.Mathlib.Omega.{arith}
use lib.ListN.{length}
use borrow.Author.Tests.{le-leb, lt-leb, lt-ltb}
use Rattle.build.specs.Standing.{siblings_from}
use Rattle.zuniq.proofs.Numbers.{length-numbers, number_at}
use Rattle.build.proofs.stack.are_next_siblings.Goals as goal

pub returns-then-i-len-clause-is : goal.returns-then-i-len-clause-is
unfolding siblings_from
returns-then-i-len-clause-is g c =
    let a = c.args in
    let z = g.Z.ZUniqHashT in
    let l = length-numbers z.number z.numbers g.met.Z.ZUniqHashT.numbers_are a.hashes.now in
    rw (lt-leb 4 (length (z.numbers a.hashes.now) - a.i) (omega (arith, l, c.if-i-len.true)), lt-ltb 0 a.depth (omega arith)) refl

pub returns-then-len-i-lt4-clause-is : goal.returns-then-len-i-lt4-clause-is
unfolding siblings_from
returns-then-len-i-lt4-clause-is g c =
    let a = c.args in
    let z = g.Z.ZUniqHashT in
    let l = length-numbers z.number z.numbers g.met.Z.ZUniqHashT.numbers_are a.hashes.now in
    rw (lt-leb 4 (length (z.numbers a.hashes.now) - a.i) (omega (arith, l, c.if-len-i-lt4.true)), lt-ltb 0 a.depth (omega arith)) refl

pub returns-clause-is : goal.returns-clause-is
unfolding siblings_from
returns-clause-is g c =
    let a = c.args in
    let z = g.Z.ZUniqHashT in
    let are = g.met.Z.ZUniqHashT.numbers_are in
    let l = length-numbers z.number z.numbers are a.hashes.now in
    let first = c.as_u64-parent.ensures ∙ number_at z.number z.numbers are a.hashes.now a.i _ (omega (arith, c.if-len-i-lt4.false)) c.index-hashes-i.is in
    let fourth = c.as_u64.ensures ∙ number_at z.number z.numbers are a.hashes.now (a.i + 3) _ (omega (arith, c.if-len-i-lt4.false)) c.index-hashes-i-2.is in
    rw (first, fourth, le-leb 4 (length (z.numbers a.hashes.now) - a.i) (omega (arith, l, c.if-len-i-lt4.false)), lt-ltb 0 a.depth (omega arith)) refl
