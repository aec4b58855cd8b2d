-- Half the width of a cell's range is a power of four, and no range ends past the sky: over any largest depth K whose zuniqs
-- fit 64 bits. Assumes nothing.
use mathlib.Core.Path.{◌≡◌}
use Prim.Native.Nat.{ℕ, ◌+◌, ◌*◌, ◌%◌, ◌-◌, ◌^◌, ◌≤◌}
use native.Mathlib.Omega.{arith}
use lib.Pow.{pow_mono}
use Rattle.zuniq.specs.Cells.{n_hash, start, end}
use Rattle.zuniq.specs.Codec.{decode}
use Rattle.zuniq.specs.declared.Cell.{Cell}
use Rattle.zuniq.specs.declared.Decoded.{Decoded}
use Rattle.zuniq.proofs.Basics.{four_pow_two}
use Rattle.zuniq.proofs.Codec.{decodes}
use Rattle.zuniq.proofs.Ranges.{zuniq-is_middle, valid_iff_end_le}

-- `half` is half the width of the range, and that does not end past the sky
pub record IsHalfWidth (K z d h half : ℕ) : Type 0 where
  pub deep : d ≤ K
  pub starts : z - half ≡ 2 * start K d h
  pub below : half ≤ z
  pub ends : z + half ≡ 2 * end K d h
  pub in_sky : 2 * end K d h ≤ 2 * n_hash K

-- The shift gives it.
pub half_width : {K z : ℕ} {c : Cell} → K ≤ 29 → decode K z ≡ Decoded.Cell c → IsHalfWidth K z c.depth c.hash (1 * 2 ^ (2 * (K - c.depth)) % 2 ^ 64)
half_width {K} {z} {c} most e =
    let v = (decodes K z c).0 e in
    let d = c.depth in
    let h = c.hash in
    let p : 2 ^ (2 * (K - d)) ≤ 2 ^ 58 = pow_mono {j = 58} (omega arith) in
    let half : 1 * 2 ^ (2 * (K - d)) % 2 ^ 64 ≡ 4 ^ (K - d) = rw (four_pow_two (K - d)) (omega arith) in
    let middle = zuniq-is_middle K d h in
    rw (half, v.is) (record {
      deep = v.deep;
      starts = omega (arith, middle.0);
      below = omega (arith, middle.0);
      ends = middle.1;
      in_sky = omega (arith, (valid_iff_end_le K d h v.deep).0 v.hash);
    })
