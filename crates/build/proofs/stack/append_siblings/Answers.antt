-- `append_siblings` meets its contract. Assumes nothing.
use native.Mathlib.Omega.{arith}
use Prim.Native.Nat.{◌+◌, ◌^◌, ◌<◌}
use Rattle.zuniq.specs.Cells.{n_hash}
use Rattle.build.proofs.Ends.{n_hash-mono}
use Rattle.zuniq.proofs.Numbers.{length-numbers}
use Rattle.build.proofs.Siblings.{siblings-stored}
use Rattle.build.proofs.stack.append_siblings.Given.{Over}
use Rattle.build.proofs.stack.append_siblings.Goals as goal
use Rattle.build.proofs.stack.append_siblings.Goals.{Start}

hashes_fit : (g : Over) (c : Start g) → c.args.hash + 3 < 2 ^ 64
unfolding n_hash
hashes_fit g c = omega (arith, c.requires.4, n_hash-mono c.args.depth 29 (omega (arith, c.requires.3, g.met.Z.ZUniqHashT.max_depth)))

pub overflow_add-hash : goal.overflow_add-hash
overflow_add-hash g c = record { fits = omega (arith, hashes_fit g (goal.at.overflow_add-hash g c).Start) }

pub overflow_add-hash-2 : goal.overflow_add-hash-2
overflow_add-hash-2 g c = record { fits = omega (arith, hashes_fit g (goal.at.overflow_add-hash-2 g c).Start) }

pub overflow_add-hash-3 : goal.overflow_add-hash-3
overflow_add-hash-3 g c = record { fits = omega (arith, hashes_fit g (goal.at.overflow_add-hash-3 g c).Start) }

pub returns : goal.returns
returns g c =
    let a = c.args in
    let z = g.Z.ZUniqHashT in
    let l = length-numbers z.number z.numbers g.met.Z.ZUniqHashT.numbers_are a.zuniqs.now in
    siblings-stored a.depth a.hash a.v0 a.v1 a.v2 a.v3 c.requires.0 (omega (arith, l, c.requires.1)) c.requires.2 c.requires.3 c.requires.4
    c.to_zuniq_unchecked-zuniq0.ensures c.to_zuniq_unchecked-zuniq1.ensures c.to_zuniq_unchecked-zuniq2.ensures c.to_zuniq_unchecked-zuniq3.ensures
    c.append.ensures c.append-2.ensures c.append-3.ensures c.append-4.ensures
