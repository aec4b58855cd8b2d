-- The lowest set bit of a zuniq is half the width of its cell's range in zuniqs, and so the whole of it in hashes. Assumes nothing.
use Prim.Native.Nat.{ℕ, ◌*◌, ◌%◌, ◌^◌, ◌<◌}
use native.Mathlib.Omega.{arith}
use lib.Count.{count_trailing_zeros}
use Rattle.zuniq.specs.Cells.{n_hash}
use Rattle.zuniq.specs.Codec.{IsZuniqOf}
use Rattle.zuniq.proofs.Codec.{cell, decodes}
use Rattle.zuniq.proofs.Ranges.{start-lt_end, valid_iff_end_le}
use Rattle.zuniq.proofs.Zeros.{zuniq_zeros}
use Rattle.mom.proofs.Widths.{IsHalfWidth, half_width}
use Rattle.coverage.specs.Promises.{RangeOf}

module _ (z d h : ℕ) (v : IsZuniqOf 29 z d h) where
  -- The trailing zeros of a zuniq are less than the bits of its type.
  pub few_zeros : count_trailing_zeros 64 z < 64
  few_zeros = omega (arith, zuniq_zeros 64 29 z d h (omega arith) v)

  -- Its lowest set bit, 1 shifted by them, is that half.
  pub lowest_bit : IsHalfWidth 29 z d h (1 * 2 ^ count_trailing_zeros 64 z % 2 ^ 64)
  lowest_bit = rw (zuniq_zeros 64 29 z d h (omega arith) v) (half_width {K = 29} (omega arith) ((decodes 29 z (cell d h)).1 v))

-- No range starts at the largest u64.
pub starts_below : {z a b : ℕ} → RangeOf 29 z a b → a < 18446744073709551615
unfolding n_hash
starts_below x = omega (arith, x.starts, start-lt_end 29 x.depth x.hash, (valid_iff_end_le 29 x.depth x.hash x.is.deep).0 x.is.hash)
