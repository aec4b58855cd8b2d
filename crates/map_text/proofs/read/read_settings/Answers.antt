-- `read::read_settings` meets its contract: the line is cut at its first two commas. Assumes nothing.
use mathlib.Core.Path.{refl, sym, ◌∙◌}
use Rattle.map_text.proofs.Lines.{settings_pair, settings_are}
use Rattle.map_text.proofs.read.read_settings.Goals as goal

pub returns-in_err-depth_threshold : goal.returns-in_err-depth_threshold
returns-in_err-depth_threshold c = let first = rw c.in_ok-depth.was at c.split_once.ensures in
    rw c.from_residual-in_err-depth_threshold.ensures (settings_pair first (rw c.in_err-depth_threshold.was at c.split_once-2.ensures))

pub returns-in_err-depth-2 : goal.returns-in_err-depth-2
returns-in_err-depth-2 c = let first = rw c.in_ok-depth.was at c.split_once.ensures in
    let second = rw c.in_ok-depth_threshold.was at c.split_once-2.ensures in
    rw c.from_residual-in_err-depth-2.ensures (settings_are first second (sym c.read_number.ensures ∙ c.in_err-depth-2.was) refl refl)

pub returns-in_err-depth_threshold-2 : goal.returns-in_err-depth_threshold-2
returns-in_err-depth_threshold-2 c = let first = rw c.in_ok-depth.was at c.split_once.ensures in
    let second = rw c.in_ok-depth_threshold.was at c.split_once-2.ensures in
    let depth = sym c.read_number.ensures ∙ c.in_ok-depth-2.was in
    rw c.from_residual-in_err-depth_threshold-2.ensures (settings_are first second depth (sym c.read_number-2.ensures ∙ c.in_err-depth_threshold-2.was) refl)

pub returns-in_err-thousandths : goal.returns-in_err-thousandths
returns-in_err-thousandths c = let first = rw c.in_ok-depth.was at c.split_once.ensures in
    let second = rw c.in_ok-depth_threshold.was at c.split_once-2.ensures in
    let depth = sym c.read_number.ensures ∙ c.in_ok-depth-2.was in
    let depth-threshold = sym c.read_number-2.ensures ∙ c.in_ok-depth_threshold-2.was in
    rw c.from_residual-in_err-thousandths.ensures (settings_are first second depth depth-threshold (sym c.read_number-3.ensures ∙ c.in_err-thousandths.was))

pub returns : goal.returns
returns c = let first = rw c.in_ok-depth.was at c.split_once.ensures in
    let second = rw c.in_ok-depth_threshold.was at c.split_once-2.ensures in
    let depth = sym c.read_number.ensures ∙ c.in_ok-depth-2.was in
    let depth-threshold = sym c.read_number-2.ensures ∙ c.in_ok-depth_threshold-2.was in
    settings_are first second depth depth-threshold (sym c.read_number-3.ensures ∙ c.in_ok-thousandths.was)
