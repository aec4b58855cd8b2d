-- Section 1 of the scope: zuniq, its coding and decoding, and the overlap test, over the largest depth K that the type
-- of the zuniqs holds: 29 for 64 bits, 13 for 32.
use Rattle.std.specs.Prelude.{Bool, Result, Ok, Err, ◌&&◌, cond, ◌≡◌, ℕ, zero, suc, ◌+◌, ◌*◌, ◌/◌, ◌-◌, ◌^◌, ◌≤◌, ◌<◌, eqb, leb, ltb}
use Rattle.zuniq.specs.Cells.{n_hash, overlap}
use Rattle.refusal.specs.declared.Refusal.{Refusal}
use Rattle.zuniq.specs.declared.Decoded.{Decoded}

-- "zuniq(d, h) = (2h + 1) × 4^(29−d)"
unfoldable pub zuniq : ℕ → ℕ → ℕ → ℕ
zuniq K d h = (2 * h + 1) * 4 ^ (K - d)

-- "A zuniq is valid if it equals that for some d and h in range": z is the zuniq of the cell (d, h), and that is in range
pub record IsZuniqOf (K z d h : ℕ) : Type 0 where
  pub deep : d ≤ K
  pub hash : h < n_hash d
  pub is : z ≡ zuniq K d h

-- the number of cells at a depth, refused by 1
unfoldable pub cell_number : ℕ → ℕ → Result ℕ Refusal
cell_number K d = cond (ltb K d) (Err Refusal.DepthOutOfRange) (Ok (n_hash d))

-- "encoding refuses by 1 and 7"
unfoldable pub encode : ℕ → ℕ → ℕ → Result ℕ Refusal
encode K d h =
    cond (ltb K d) (Err Refusal.DepthOutOfRange)
    (cond (leb (n_hash d) h) (Err (Refusal.HashOutOfRange 0))
    (Ok (zuniq K d h)))

-- the hash that a cell of depth d would have if its zuniq were z
unfoldable pub hash_at : ℕ → ℕ → ℕ → ℕ
hash_at K d z = z / 4 ^ (K - d) / 2

-- whether z is the zuniq of a cell of depth d
unfoldable pub is_zuniq_at : ℕ → ℕ → ℕ → Bool
is_zuniq_at K d z = ltb (hash_at K d z) (n_hash d) && eqb z (zuniq K d (hash_at K d z))

-- the cell of depth at most d whose zuniq is z, if there is one: the depths are tried one after the other
unfoldable pub cell_up_to : ℕ → ℕ → ℕ → Decoded
cell_up_to K zero z = cond (is_zuniq_at K zero z) (Decoded.Cell (record { depth = zero; hash = hash_at K zero z })) Decoded.Nothing
cell_up_to K (suc d) z = cond (is_zuniq_at K (suc d) z) (Decoded.Cell (record { depth = suc d; hash = hash_at K (suc d) z })) (cell_up_to K d z)

-- "a decoding answers either the cell or that there is none"
unfoldable pub decode : ℕ → ℕ → Decoded
decode K z = cell_up_to K K z

-- "the overlap test [refuses] by 12": "one of an overlap test's two is not valid, place 0 or 1"
unfoldable pub overlap_of : Decoded → Decoded → Result Bool Refusal
overlap_of Decoded.Nothing r = Err (Refusal.InvalidQuery 0)
overlap_of (Decoded.Cell l) Decoded.Nothing = Err (Refusal.InvalidQuery 1)
overlap_of (Decoded.Cell l) (Decoded.Cell r) = Ok (overlap l.depth l.hash r.depth r.hash)

unfoldable pub overlap_test : ℕ → ℕ → ℕ → Result Bool Refusal
overlap_test K zl zr = overlap_of (decode K zl) (decode K zr)
