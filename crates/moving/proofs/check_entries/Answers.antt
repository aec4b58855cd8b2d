-- `check_entries` meets its contract. Assumes nothing.
use mathlib.Core.Path.{refl, sym, ◌∙◌}
use Rattle.build.proofs.Checking.{map_passes}
use Rattle.moving.proofs.Deep.{none_of_is_ok, entries_pass_iff}
use Rattle.moving.proofs.check_entries.Goals as goal

pub returns-then-is_ok : goal.returns-then-is_ok
returns-then-is_ok g c =
    let z = g.Z.ZUniqHashT in
    let w = g.W.ZUniqHashT in
    let passed = none_of_is_ok _ c.check_map.ensures (sym c.is_ok.ensures.value ∙ c.if-is_ok.true) in
    rw ((entries_pass_iff z.MAX_DEPTH w.MAX_DEPTH c.args.depth (z.numbers c.args.zuniqs.now)).1 (map_passes _ _ _ (rw (c.min.ensures, c.MAX_DEPTH.ensures) at passed))) refl
