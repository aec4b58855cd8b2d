-- `cell_word` meets its contract: the hash of a cell with a zuniq of this type fits the type. Assumes nothing.
use mathlib.Core.Path.{sym, ◌∙◌}
use native.Mathlib.Omega.{arith}
use Rattle.zuniq.proofs.Codec.{decodes}
use Rattle.zuniq.proofs.Ranges.{sentinel_lt}
use Rattle.words.proofs.cells.cell_word.Goals as goal

pub of_u64-requires : goal.of_u64-requires
of_u64-requires g c =
    let K = g.Z.ZUniqHashT.MAX_DEPTH in
    let v = (decodes K _ _).0 (sym c.from_zuniq.ensures.answer ∙ c.in-Cell.is) in
    omega (arith, sentinel_lt K _ _ v.deep v.hash)
