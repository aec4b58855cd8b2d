-- Where a held map ends, as a hash of the map's depth. Assumes nothing.
use mathlib.Core.Path.{◌≡◌, refl, ap, sym, ◌∙◌}
use mathlib.Core.List.{List, [], ◌∷◌}
use Prim.Native.Nat.{ℕ, suc, ◌+◌, ◌*◌, ◌≤◌, ◌<◌, ◌-◌, ◌^◌}
use native.Mathlib.Omega.{arith}
use native.Mathlib.Nat.{pow-le-pow_right, mul-le-mul_left, le-mul_of_pos_right, le_trans}
use lib.ListN.{length, get_or}
use Rattle.zuniq.specs.Cells.{n_hash, end}
use Rattle.zuniq.specs.Codec.{decode}
use Rattle.zuniq.specs.declared.Decoded.{Decoded}
use Rattle.zuniq.proofs.Basics.{four_pow_pos, four_pow_two}
use Rattle.zuniq.proofs.Codec.{cell, decodes}
use Rattle.zuniq.proofs.Ranges.{valid_iff_end_le}
use Rattle.mom.specs.Map.{ValidMap}
use Rattle.build.specs.Add.{cell_end, map_end}

-- A deeper depth has no fewer cells.
pub n_hash-mono : (d e : ℕ) → d ≤ e → n_hash d ≤ n_hash e
unfolding n_hash
n_hash-mono d e l = mul-le-mul_left 12 (pow-le-pow_right (omega arith) l)

-- The end is that of the last entry.
pub map_end-last : (K D : ℕ) (zs : List ℕ) → 0 < length zs → map_end K D zs ≡ cell_end D (decode K (get_or zs (length zs - 1) 0))
unfolding map_end
map_end-last K D [] p = absurd (omega arith)
map_end-last K D (z ∷ []) p = refl
map_end-last K D (z ∷ y ∷ zs) p =
    let e : length (z ∷ y ∷ zs) - 1 ≡ suc (length (y ∷ zs) - 1) = omega arith in
    map_end-last K D (y ∷ zs) (omega arith) ∙ rw e refl

pub map_end-none : (K D : ℕ) (zs : List ℕ) → length zs ≡ 0 → map_end K D zs ≡ 0
unfolding map_end
map_end-none K D [] e = refl
map_end-none K D (z ∷ zs) e = absurd (omega arith)

-- The last entry, where it is the cell (d, h): it is a cell of the map, and ends within the sky.
pub record LastEnds (D d h e : ℕ) : Type 0 where
  pub shallow : d ≤ D
  pub small : h + 1 ≤ n_hash D
  pub end_is : (h + 1) * 2 ^ (2 * (D - d)) ≡ e
  pub within : e ≤ n_hash D

pub last_ends : (K D : ℕ) (zs : List ℕ) (d h : ℕ) → ValidMap K D zs → 0 < length zs → decode K (get_or zs (length zs - 1) 0) ≡ Decoded.Cell (cell d h) → LastEnds D d h (map_end K D zs)
unfolding end cell_end
last_ends K D zs d h v p e =
    let q = (decodes K (get_or zs (length zs - 1) 0) (cell d h)).0 e in
    let s : d ≤ D = v.shallow (length zs - 1) d h (omega arith) q in
    let f : map_end K D zs ≡ (h + 1) * 4 ^ (D - d) = map_end-last K D zs p ∙ ap (cell_end D) e in
    let w : (h + 1) * 4 ^ (D - d) ≤ n_hash D = (valid_iff_end_le D d h s).0 q.hash in
    record {
      shallow = s;
      small = le_trans (le-mul_of_pos_right (h + 1) (four_pow_pos (D - d))) w;
      end_is = rw (← four_pow_two (D - d)) (sym f);
      within = rw f w;
    }
