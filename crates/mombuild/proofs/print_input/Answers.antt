-- `print_input` meets its contract: the program's buffer holds enough of any input. Assumes nothing.
use mathlib.Core.Path.{ap, ◌∙◌}
use native.Mathlib.Omega.{arith}
use lib.ListN.{length}
use Rattle.text.proofs.Writing.{written_as}
use Rattle.mombuild.specs.Mombuild.{mombuild}
use Rattle.mombuild.proofs.Prefix.{prefix_is_enough}
use Rattle.mombuild.proofs.print_input.Goals as goal

pub returns-in-Ok-clause-printed_for : goal.returns-in-Ok-clause-printed_for
returns-in-Ok-clause-printed_for c = let buffer = c.args.buffer.now in
    rw c.in-Ok.is (λ whole e. written_as (ap mombuild e ∙ prefix_is_enough (length buffer) whole (omega arith)) c.mombuild.ensures)
