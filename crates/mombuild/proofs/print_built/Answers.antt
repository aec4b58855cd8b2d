-- `print_built` meets its contract. Assumes nothing.
use mathlib.Core.Path.{ap, ◌∙◌}
use mathlib.Core.Bool.{false}
use lib.IntN.{pos}
use lib.Ieee.{of_bits, fin}
use Rattle.merger.specs.Floats.{◌⊘◌}
use Rattle.mombuild.specs.Mombuild.{places, map_text}
use Rattle.text.proofs.Writing.{written_as}
use Rattle.mombuild.proofs.Answers.{map_text-is}
use Rattle.mombuild.proofs.Reading.{thousandths-is}
use Rattle.mombuild.proofs.print_built.Goals as goal

pub returns : goal.returns
unfolding places of_bits
returns c = let a = c.args in
    let s = a.settings in
    let text = map_text-is s.depth s.depth_threshold _ a.hashes.now a.counts.now c.add_counts-added.ensures in
    let threshold = ap (λ x. x ⊘ fin false 125 (pos 3)) c.from.ensures ∙ thousandths-is s.thousandths in
    written_as (text ∙ ap (λ t. map_text s.depth s.depth_threshold t a.hashes.now a.counts.now) threshold) c.print_answer.ensures
