-- `check_held` meets its contract: each check is one row of the table. Assumes nothing.
use mathlib.Core.Path.{◌≡◌, sym, ◌∙◌}
use mathlib.Core.Option.{none}
use Prim.Native.Nat.{◌≤◌}
use lib.ListN.{length, take}
use lib.Seq.{length-take-le}
use Rattle.std.proofs.Common.{rules}
use Rattle.refusal.proofs.Checks.{none_of_ok, some_of_err}
use Rattle.protection.specs.Protected.{protected_refusal}
use Rattle.build.specs.Add.{settings_refusal, lengths_refusal, held_refusal}
use Rattle.build.proofs.Checking.{settings-pass, lengths_pass, map_passes}
use Rattle.build.proofs.check_held.Given.{Over}
use Rattle.build.proofs.check_held.Goals as goal
use Rattle.build.proofs.check_held.Goals.{In_ok-check_lengths, In_ok-check_settings}

-- ---- what has passed
settings : (g : Over) (c : In_ok-check_settings g) → let a = c.args in settings_refusal g.Z.ZUniqHashT.MAX_DEPTH a.depth a.depth_threshold a.chi2_threshold ≡ none
settings g c = let row = none_of_ok _ _ _ (sym c.check_settings.ensures ∙ c.in_ok-check_settings.was) in search rules

lengths : (g : Over) (c : In_ok-check_lengths g) → let a = c.args in lengths_refusal a.held (length a.zuniqs.now) a.values a.hashes a.batch ≡ none
lengths g c = none_of_ok _ _ _ (sym c.check_lengths.ensures ∙ c.in_ok-check_lengths.was)

within : (g : Over) (c : In_ok-check_lengths g) → let a = c.args in a.held ≤ length a.zuniqs.now
within g c = let a = c.args in (lengths_pass a.held (length a.zuniqs.now) a.values a.hashes a.batch (lengths g c)).1

-- ---- the answers
pub returns-in_err-check_settings : goal.returns-in_err-check_settings
unfolding held_refusal
returns-in_err-check_settings g c =
    let row = some_of_err _ _ _ (sym c.check_settings.ensures ∙ c.in_err-check_settings.was) in
    search rules

pub returns-in_err-protected : goal.returns-in_err-protected
unfolding held_refusal
returns-in_err-protected g c =
    let rows = settings g (goal.at.returns-in_err-protected g c).In_ok-check_settings in
    search rules

pub returns-in_err-check_lengths : goal.returns-in_err-check_lengths
unfolding held_refusal
returns-in_err-check_lengths g c =
    let rows = settings g (goal.at.returns-in_err-check_lengths g c).In_ok-check_settings in
    let listed : protected_refusal g.Z.ZUniqHashT.MAX_DEPTH (g.Z.ZUniqHashT.numbers c.args.protected.now) ≡ none = search rules in
    let row = some_of_err _ _ _ (sym c.check_lengths.ensures ∙ c.in_err-check_lengths.was) in
    search rules

pub slice_bounds-map-end : goal.slice_bounds-map-end
slice_bounds-map-end g c = let a = c.args in sym (length-take-le a.held a.zuniqs.now (within g c))

pub returns-in_err-check_map : goal.returns-in_err-check_map
unfolding held_refusal
returns-in_err-check_map g c =
    let rows = settings g (goal.at.returns-in_err-check_map g c).In_ok-check_settings in
    let listed : protected_refusal g.Z.ZUniqHashT.MAX_DEPTH (g.Z.ZUniqHashT.numbers c.args.protected.now) ≡ none = search rules in
    let lens = lengths g (goal.at.returns-in_err-check_map g c).In_ok-check_lengths in
    let row = some_of_err _ _ _ (sym c.check_map.ensures ∙ c.in_err-check_map.was) in
    search rules

pub end_of_map-requires : goal.end_of_map-requires
end_of_map-requires g c =
    let a = c.args in
    let z = g.Z.ZUniqHashT in
    let valid = none_of_ok _ _ _ (sym c.check_map.ensures ∙ c.in_ok-check_map.was) in
    (settings-pass z.MAX_DEPTH a.depth a.depth_threshold a.chi2_threshold (settings g (goal.at.end_of_map-requires g c).In_ok-check_settings), map_passes z.MAX_DEPTH a.depth (z.numbers (take a.held a.zuniqs.now)) valid)

pub returns : goal.returns
unfolding held_refusal
returns g c =
    let rows = settings g (goal.at.returns g c).In_ok-check_settings in
    let listed : protected_refusal g.Z.ZUniqHashT.MAX_DEPTH (g.Z.ZUniqHashT.numbers c.args.protected.now) ≡ none = search rules in
    let lens = lengths g (goal.at.returns g c).In_ok-check_lengths in
    let valid = none_of_ok _ _ _ (sym c.check_map.ensures ∙ c.in_ok-check_map.was) in
    search rules
