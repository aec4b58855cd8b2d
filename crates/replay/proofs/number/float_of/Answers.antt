-- `number::float_of` is safe: without its sign a pattern of a NaN is above that of infinity. Assumes nothing.
use Prim.Native.Nat.{◌%◌}
use native.Mathlib.Omega.{arith}
use lib.Ieee as Ieee
use lib.Ieee.Bits.{nan_bits_above}
use borrow.Author.Tests.{le-ltb}
use Rattle.replay.proofs.number.float_of.Goals as goal

pub float_from_bits-result : goal.float_from_bits-result
float_from_bits-result c = let p = c.args.pattern in rw (nan_bits_above Ieee.binary64 p, le-ltb 0x7ff0_0000_0000_0000 (p % 0x8000_0000_0000_0000) (omega arith)) tt
