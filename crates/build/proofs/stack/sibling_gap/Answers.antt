-- `sibling_gap` meets its contract. Assumes nothing.
use Prim.Native.Nat.{◌*◌, ◌-◌, ◌^◌, ◌≤◌}
use native.Mathlib.Omega.{arith}
use native.Mathlib.Nat.{mod-eq_of_lt}
use lib.Pow.{pow_mono}
use Rattle.zuniq.proofs.Basics.{four_pow_two}
use Rattle.build.proofs.stack.sibling_gap.Goals as goal

pub returns : goal.returns
returns g c =
    let k = g.Z.ZUniqHashT.MAX_DEPTH - c.args.depth in
    let p : 2 ^ (2 * k) ≤ 2 ^ 58 = pow_mono {j = 58} (omega (arith, g.met.Z.ZUniqHashT.max_depth)) in
    rw (c.MAX_DEPTH.ensures, four_pow_two k) (mod-eq_of_lt (omega arith))
