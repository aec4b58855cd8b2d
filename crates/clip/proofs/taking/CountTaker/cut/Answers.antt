-- A piece is counted. Assumes nothing.
use Rattle.clip.proofs.Walking.{counted_fits, counted}
use Rattle.clip.proofs.taking.CountTaker.cut.Goals as goal

pub overflow_add-result : goal.overflow_add-result
overflow_add-result c =
    let a = c.args in
    record { fits = counted_fits a.n _ _ _ a._density a._zuniqs.now a._densities.now (c.count_cells.ensures a._density) c.requires.2 }

pub returns : goal.returns
returns c =
    let a = c.args in
    counted a.n _ _ _ a._density a._zuniqs.now a._densities.now (c.count_cells.ensures a._density)
