-- `head_at` meets its contract. Assumes nothing.
use mathlib.Core.Path.{refl, ap, sym, ◌∙◌}
use lib.ListN.{get_or}
use Rattle.combine.proofs.Given.{map_holds}
use Rattle.zuniq.proofs.Codec.{decodes, none_decodes}
use Rattle.combine.proofs.by_heads.head_at.Goals as goal

pub unreachable-requires : goal.unreachable-requires
unreachable-requires g c = let m = c.args.map.now in let z = (map_holds m.depth m.zuniqs.now m.values.now m.paired m.valid).valid c.args.i c.if-i-map.false in absurd (none_decodes 29 _ (sym c.from_zuniq.ensures.answer ∙ c.in_default.is) _ _ z.2)

pub returns : goal.returns
returns g c = (c.if-i-map.false, refl, (decodes 29 _ _).0 (sym c.from_zuniq.ensures.answer ∙ c.in-Cell.is), ap (get_or c.args.map.now.values.now c.args.i) c.index-map-i.is)
