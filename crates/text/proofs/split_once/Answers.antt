-- `split_once` meets its contract: the first place that std's `position` finds is that of the definition. Assumes nothing.
use Rattle.std.proofs.Common.{rules, tests, eqb}
use Rattle.std.proofs.lemmas.Iterator.{YieldsList-from_slice}
use Rattle.std.proofs.lemmas.Iterator.Search.{position_from_yields_List}
use Rattle.text.proofs.Parts.{Finds, found_none, found_at}
use Rattle.text.proofs.split_once.Goals as goal

pub returns-in_err-at : goal.returns-in_err-at
returns-in_err-at c =
    let a = c.args in
    let found : Finds a.byte a.text.now c.position.result = position_from_yields_List (λ x. eqb x a.byte) _ _ c.position.result c.position.ensures.ran (YieldsList-from_slice a.text.now cc) (λ x b q k. search (rules, tests)) in
    rw c.from_residual.ensures (found_none a.byte a.text.now found c.in_err-at.was)

pub returns : goal.returns
returns c =
    let a = c.args in
    let found : Finds a.byte a.text.now c.position.result = position_from_yields_List (λ x. eqb x a.byte) _ _ c.position.result c.position.ensures.ran (YieldsList-from_slice a.text.now cc) (λ x b q k. search (rules, tests)) in
    found_at a.byte a.text.now found c.in_ok-at.was
