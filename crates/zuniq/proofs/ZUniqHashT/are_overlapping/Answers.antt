-- `are_overlapping` meets its contract: a cell that was decoded has a depth. Assumes nothing.
use mathlib.Core.Path.{sym, ◌∙◌}
use native.Mathlib.Omega.{arith}
use Rattle.zuniq.proofs.Codec.{decodes}
use Rattle.zuniq.proofs.ZUniqHashT.are_overlapping.Goals as goal

pub are_overlapping_cells-requires : goal.are_overlapping_cells-requires
are_overlapping_cells-requires g c =
    let K = g.Self.ZUniqHashT.MAX_DEPTH in
    let most = g.met.Self.ZUniqHashT.max_depth in (
      omega (arith, most, ((decodes K _ _).0 (sym c.from_zuniq.ensures.answer ∙ c.in-Cell.is)).deep),
      omega (arith, most, ((decodes K _ _).0 (sym c.from_zuniq-2.ensures.answer ∙ c.in-Cell-from_zuniq.is)).deep),
    )
