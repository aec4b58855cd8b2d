-- `turn_of` meets its contract. Assumes nothing.
use Rattle.combine.proofs.by_heads.turn_of.Goals as goal

pub returns-in-Some-r-2 : goal.returns-in-Some-r-2
returns-in-Some-r-2 g c = rw (c.in-Some.is, c.in-Some-r-2.is) c.meet.ensures
