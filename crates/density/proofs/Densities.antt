-- The laws of densities: which floats and which patterns are one, and that patterns and densities are one to one.
-- Assumes nothing.
use lib.Ieee as Ieee
use Rattle.std.proofs.Common.{Some, None, ◌≡◌, ℕ, ◌%◌, ◌^◌, ◌<◌, ◌≤◌, Bool, true, false, cond, not, T, ltb, sym, refl, ap, ◌∙◌, arith, le-ltb, lt-ltb}
use lib.Ieee.{Float, nan, inf, fin, binary64, is_nan}
use lib.Ieee.Bits.{nan_bits_is, nan_bits_above, of_bits-to_bits, to_bits-of_bits}
use Rattle.zuniq.specs.Cells.{n_hash}
use Rattle.merger.specs.Floats.{invalid_density}
use Rattle.density.specs.Densities.{density_at, density_of_pattern, pattern_of_density}

-- ---- of a count

-- One source in a base cell, by its bits: 12 / (4π), in one division, would end in c4.
one_in_a_base_cell : Ieee.to_bits binary64 (density_at 1 0) ≡ 0x3fee8ec8a4aeacc5
unfolding n_hash density_at Ieee.of_bits Ieee.to_bits Ieee.of_int Ieee.mul Ieee.div
one_in_a_base_cell = refl

-- ---- patterns

-- A NaN is no density.
nan_invalid : (x : Float) → is_nan x ≡ true → invalid_density x ≡ true
unfolding invalid_density
nan_invalid x h = rw h refl

-- A density is no NaN,
pub valid_no_nan : (x : Float) → invalid_density x ≡ false → is_nan x ≡ false
unfolding invalid_density is_nan
valid_no_nan nan h = h
valid_no_nan (inf s) h = refl
valid_no_nan (fin s m e) h = refl

-- so that it has a pattern.
pub is_pattern : (x : Float) → invalid_density x ≡ false → T (not (is_nan x))
is_pattern x h = rw (valid_no_nan x h) tt

-- A pattern is a NaN's exactly if it is, without its sign, above that of infinity.
nan_pattern : (p : ℕ) → is_nan (Ieee.of_bits binary64 p) ≡ ltb 0x7ff0_0000_0000_0000 (p % 0x8000_0000_0000_0000)
nan_pattern p = sym (nan_bits_is binary64 p) ∙ nan_bits_above binary64 p

-- Then it has no density.
pub nan_pattern_none : (p : ℕ) → 0x7ff0_0000_0000_0000 < p % 0x8000_0000_0000_0000 → density_of_pattern p ≡ None
unfolding density_of_pattern
nan_pattern_none p h = rw (nan_invalid (Ieee.of_bits binary64 p) (nan_pattern p ∙ lt-ltb 0x7ff0_0000_0000_0000 (p % 0x8000_0000_0000_0000) h)) refl

-- Otherwise it is that of a float.
pub no_nan_pattern : (p : ℕ) → p % 0x8000_0000_0000_0000 ≤ 0x7ff0_0000_0000_0000 → T (not (Ieee.nan_bits binary64 p))
no_nan_pattern p h = rw (nan_bits_above binary64 p, le-ltb 0x7ff0_0000_0000_0000 (p % 0x8000_0000_0000_0000) h) tt

-- The pattern of the density of a pattern is that pattern.
pub pattern_again : (p : ℕ) (x : Float) → p < 2 ^ 64 → density_of_pattern p ≡ Some x → pattern_of_density x ≡ Some p
unfolding density_of_pattern pattern_of_density
pattern_again p x l = go (invalid_density (Ieee.of_bits binary64 p)) refl
  where
    go : (b : Bool) → invalid_density (Ieee.of_bits binary64 p) ≡ b
        → cond b None (Some (Ieee.of_bits binary64 p)) ≡ Some x → pattern_of_density x ≡ Some p
    go true t e = let z : ◌≡◌ {A = ℕ} 0 1 = cc in absurd (omega arith)
    go false t e =
        let q : Ieee.of_bits binary64 p ≡ x = cc in
        let n : T (not (is_nan (Ieee.of_bits binary64 p))) = rw (valid_no_nan (Ieee.of_bits binary64 p) t) tt in
        rw (← q, t) (ap Some (to_bits-of_bits binary64 p l n))

-- The density of the pattern of a density is that density.
pub density_again : (x : Float) (p : ℕ) → T (Ieee.fits binary64 x) → pattern_of_density x ≡ Some p → density_of_pattern p ≡ Some x
unfolding density_of_pattern pattern_of_density
density_again x p f = go (invalid_density x) refl
  where
    go : (b : Bool) → invalid_density x ≡ b → cond b None (Some (Ieee.to_bits binary64 x)) ≡ Some p
        → density_of_pattern p ≡ Some x
    go true t e = let z : ◌≡◌ {A = ℕ} 0 1 = cc in absurd (omega arith)
    go false t e =
        let q : Ieee.to_bits binary64 x ≡ p = cc in
        rw (← q, of_bits-to_bits binary64 x f, t) refl
