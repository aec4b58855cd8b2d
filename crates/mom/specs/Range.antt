-- What `range_of` promises, over the largest depth K that the type of the zuniqs holds: 29 for 64 bits.
use Rattle.std.specs.Prelude.{Bool, false, ◌&&◌, ℕ, ◌*◌, ltb, Option, None, Some}
use Rattle.zuniq.specs.Cells.{start, end}
use Rattle.zuniq.specs.Codec.{decode}
use Rattle.zuniq.specs.declared.Decoded.{Decoded}
use Rattle.mom.specs.declared.ZuniqRange.{ZuniqRange}

-- the range of a cell goes from twice its start to twice its end: of (29, 0), zuniq 1, from 0 to 2
unfoldable pub cell_range : ℕ → Decoded → Option ZuniqRange
cell_range K Decoded.Nothing = None
cell_range K (Decoded.Cell c) = Some (record { depth = c.depth; start = 2 * start K c.depth c.hash; end = 2 * end K c.depth c.hash })

-- the range of the cell that z encodes, or that there is none
unfoldable pub range_of : ℕ → ℕ → Option ZuniqRange
range_of K z = cell_range K (decode K z)

-- whether two ranges meet: each starts before the other ends
unfoldable pub ranges_meet : ZuniqRange → Option ZuniqRange → Bool
ranges_meet q None = false
ranges_meet q (Some r) = ltb q.start r.end && ltb r.start q.end

-- whether z is a valid zuniq whose range meets q
unfoldable pub meets : ℕ → ZuniqRange → ℕ → Bool
meets K q z = ranges_meet q (range_of K z)
