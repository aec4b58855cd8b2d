-- `n_hash_unchecked` meets its contract: 12 shifted by two bits a depth is N(d). Assumes nothing.
use mathlib.Core.Path.{◌≡◌}
use Prim.Native.Nat.{ℕ, ◌*◌, ◌%◌, ◌≤◌, ◌<◌, ◌^◌}
use native.Mathlib.Nat.{mod-eq_of_lt, pow-le-pow_right}
use native.Mathlib.Omega.{arith}
use Rattle.zuniq.specs.Cells.{n_hash}
use Rattle.zuniq.proofs.Basics.{four_pow_two}
use Rattle.zuniq.proofs.n_hash_unchecked.Goals as goal

-- The largest depth has the most cells, and their number fits a u64.
n_hash-fits : (d : ℕ) → d ≤ 29 → n_hash d < 2 ^ 64
unfolding n_hash
n_hash-fits d l = let most : 4 ^ d ≤ 4 ^ 29 = pow-le-pow_right (omega arith) l in omega arith

-- So the shift loses no bit: what it gives is N(d).
shifted_is_n_hash : (d : ℕ) → d ≤ 29 → (12 * 2 ^ (2 * d)) % 2 ^ 64 ≡ n_hash d
unfolding n_hash
shifted_is_n_hash d l = rw (← four_pow_two d) (mod-eq_of_lt (n_hash-fits d l))

pub returns : goal.returns
returns c = shifted_is_n_hash c.args.depth c.requires
