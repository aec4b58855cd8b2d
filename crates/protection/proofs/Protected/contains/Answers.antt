-- `contains` meets its contract: where the list rises, the search finds the value if it is there. Assumes nothing.
use Rattle.std.proofs.Common.{rules}
use Rattle.std.proofs.lemmas.List.Sorted.{answers_always}
use Rattle.protection.specs.Protected.{is_protected}
use Rattle.protection.proofs.Listed.{is_listed_if_found}
use Rattle.protection.proofs.Protected.contains.Goals as goal

pub returns : goal.returns
unfolding is_protected
returns g c =
    let z = g.Z.ZUniqHashT in
    let list = c.args.self.now in
    let search_ended = c.binary_search_by_key.ensures in
    let by_number = search_ended.position z.number (answers_always _ _ _ (λ f a r h called. search rules)) in
    let found = is_listed_if_found z.number (z.numbers list.zuniqs.now) list.zuniqs.now (g.met.Z.ZUniqHashT.numbers_are _) list.rising _ _ search_ended.bound by_number in
    cc
