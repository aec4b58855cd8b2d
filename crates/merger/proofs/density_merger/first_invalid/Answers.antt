-- `first_invalid` meets its contract: `position` tests the four in order. Assumes nothing.
use Rattle.std.proofs.Common.{◌≡◌, ℕ, ◌+◌, Bool, true, false, cond, not, ltb, [], ◌∷◌, Some, None, refl, ◌∙◌, rules, tests}
use Rattle.std.proofs.lemmas.Iterator.{YieldsList-from_slice}
use Rattle.std.proofs.lemmas.Iterator.Search.{position_from_yields_List}
use Rattle.merger.specs.Floats.{invalid_density}
use Rattle.merger.specs.Merge.{first_invalid}
use Rattle.merger.proofs.density_merger.first_invalid.Goals as goal

-- the number of tests that fail before the first that passes
abbrev failing : (b0 b1 b2 b3 : Bool) → ℕ
failing b0 b1 b2 b3 = cond (not b0) (1 + cond (not b1) (1 + cond (not b2) (1 + cond (not b3) 1 0) 0) 0) 0

first_of_four : (b0 b1 b2 b3 : Bool) → cond (ltb (failing b0 b1 b2 b3) 4) (Some (failing b0 b1 b2 b3)) None ≡ cond b0 (Some 0) (cond b1 (Some 1) (cond b2 (Some 2) (cond b3 (Some 3) None)))
first_of_four true b1 b2 b3 = refl
first_of_four false true b2 b3 = refl
first_of_four false false true b3 = refl
first_of_four false false false true = refl
first_of_four false false false false = refl

pub returns : goal.returns
unfolding first_invalid
returns c =
    let a = c.args in
    let four = a.m0 ∷ a.m1 ∷ a.m2 ∷ a.m3 ∷ [] in
    let found = position_from_yields_List invalid_density _ _ _ c.position.ensures.ran (YieldsList-from_slice four cc) (λ x b q k. search (rules, tests)) in
    found ∙ first_of_four (invalid_density a.m0) (invalid_density a.m1) (invalid_density a.m2) (invalid_density a.m3)
