-- What the answers of section 1 tell: the scope's number and place, or the values. Of n_hash, to_zuniq and are_overlapping `told` tells it.
use Rattle.std.specs.Prelude.{ℕ, Option, None, Some}
use Rattle.zuniq.specs.declared.Decoded.{Decoded}

-- "a decoding answers either the cell or that there is none": its depth and hash
abbrev pub told_cell : Decoded → Option (ℕ × ℕ)
told_cell (Decoded.Cell c) = Some (c.depth, c.hash)
told_cell Decoded.Nothing = None
