-- `child` meets its contract. Assumes nothing.
use native.Mathlib.Omega.{arith}
use Rattle.combine.proofs.Heads.{child_fits, child_in_sky, child-is}
use Rattle.combine.proofs.by_heads.child.Goals as goal

pub overflow_mul-hash : goal.overflow_mul-hash
overflow_mul-hash g c = let p = c.requires in let k = child_fits _ _ _ p.1 p.0.hash p.2 in record { fits = omega (arith, k) }

pub overflow_add-hash : goal.overflow_add-hash
overflow_add-hash g c = let p = c.requires in let k = child_fits _ _ _ p.1 p.0.hash p.2 in record { fits = omega (arith, k) }

pub to_zuniq_unchecked-requires : goal.to_zuniq_unchecked-requires
to_zuniq_unchecked-requires g c = let p = c.requires in child_in_sky _ _ _ p.1 p.0.hash p.2

pub returns : goal.returns
returns g c = let p = c.requires in let k = child_in_sky _ _ _ p.1 p.0.hash p.2 in (record { deep = k.0; hash = k.1; is = c.to_zuniq_unchecked.ensures }, child-is _ _ _ _ _ c.part.ensures)
