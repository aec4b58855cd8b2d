-- `clip_entry` meets its contract. Assumes nothing.
use Rattle.clip.proofs.Walking.{piece_within, CanKeep-whole, whole_cut}
use Rattle.clip.proofs.clip_entry.Goals as goal

pub keep-requires : goal.keep-requires
keep-requires g c = CanKeep-whole g.T.Taker.aim c.args.n _ _ _ _ _ _ c.args.zuniqs.now c.args.densities.now c.requires.0 c.if-range-cell.true c.if-cell-range.true c.requires.2

pub returns-then-cell-range : goal.returns-then-cell-range
returns-then-cell-range g c = whole_cut g.T.Taker.aim c.args.n _ _ _ _ _ _ c.args.zuniqs.now c.args.densities.now c.requires.0 c.if-range-cell.true c.if-cell-range.true c.requires.2 _ _ _ c.keep.ensures.0 c.keep.ensures.1

pub cut-requires : goal.cut-requires
cut-requires g c = let w = piece_within _ _ _ c.args.range.start _ c.requires.0 c.requires.1 in rw (c.max-from.ensures, c.min-to.ensures) (w.0, w.1, c.requires.2)

pub returns : goal.returns
returns g c = rw (c.max-from.ensures, c.min-to.ensures) at c.cut.ensures
