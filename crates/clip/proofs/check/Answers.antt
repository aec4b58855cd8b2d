-- `check` meets its contract: each check is one row of the table. Assumes nothing.
use mathlib.Core.Path.{sym, ◌∙◌}
use Rattle.refusal.proofs.Checks.{none_of_ok}
use Rattle.clip.proofs.Call.{pairs-pass}
use Rattle.clip.proofs.check.Goals as goal

pub check_ranges-requires : goal.check_ranges-requires
check_ranges-requires c = (pairs-pass _ _ _ _ _ _ (none_of_ok _ _ _ (sym c.check_pairs.ensures ∙ c.in_ok-check_pairs.was))).1
