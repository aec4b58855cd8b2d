-- The infinities of the code, and what is not finite as it tells that. Assumes nothing.
use mathlib.Core.Path.{◌≡◌, refl}
use mathlib.Core.Bool.{true, false, not}
use lib.Dec.{T}
use lib.Ieee as Ieee
use lib.Ieee.{inf, binary64}
use Rattle.combine.proofs.DensityCells.{not_finite-is}

pub infinity_is : Ieee.of_bits binary64 0x7ff0_0000_0000_0000 ≡ inf false
unfolding Ieee.of_bits
infinity_is = refl

pub minus_infinity_is : Ieee.of_bits binary64 0xfff0_0000_0000_0000 ≡ inf true
unfolding Ieee.of_bits
minus_infinity_is = refl

pub infinity_no_nan : T (not (Ieee.nan_bits binary64 0x7ff0_0000_0000_0000))
unfolding Ieee.nan_bits
infinity_no_nan = tt

pub minus_infinity_no_nan : T (not (Ieee.nan_bits binary64 0xfff0_0000_0000_0000))
unfolding Ieee.nan_bits
minus_infinity_no_nan = tt

pub ruleset finite_tests = (not_finite-is, infinity_is, minus_infinity_is, infinity_no_nan, minus_infinity_no_nan)
