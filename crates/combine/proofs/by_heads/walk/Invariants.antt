use Rattle.combine.specs.Cells.{as_entry, zuniq_in, side_of}
use Rattle.combine.proofs.Walking.{Walking, left_over}
use Rattle.combine.proofs.by_heads.walk.Given as goal

abbrev pub invariant-loop-seen : goal.invariant-loop-seen
invariant-loop-seen g l =
    Walking (g.R.Rule.split l.rule) (g.R.Rule.keeps l.rule) as_entry zuniq_in l.left_map.zuniqs.now l.left_map.values.now l.right_map.zuniqs.now l.right_map.values.now
    (λ cells. g.S.Sink.took l.sink l.initial.zuniqs l.initial.values cells l.figures l.zuniqs l.values) (side_of l.left) (side_of l.right) l.lefts l.rights

abbrev pub decreases-loop-seen : goal.decreases-loop-seen
decreases-loop-seen g l =
    left_over as_entry l.left_map.zuniqs.now l.left_map.values.now l.right_map.zuniqs.now l.right_map.values.now (side_of l.left) (side_of l.right) l.lefts l.rights
