-- Both heads, or the one that is left: one law each. Assumes nothing.
use Rattle.map_compare_walk.specs.StepLaws.{step_both, step_left, step_right}
use Rattle.map_compare_walk.proofs.walk.next_step.Goals as goal

pub returns-then-r-tables : goal.returns-then-r-tables
returns-then-r-tables c =
    step_both _ _ _ _ _ _ c.requires.0 _ _ _ _ c.if-l-tables.true c.if-r-tables.true c.head-x.ensures
    c.head-y.ensures c.turn_of-t.ensures c.taken.ensures

pub returns-else-r-tables : goal.returns-else-r-tables
returns-else-r-tables c =
    step_left _ _ _ _ _ _ c.requires.0 _ _ _ c.if-l-tables.true c.if-r-tables.false c.head-x.ensures c.made-t.ensures
    c.taken-else-r-tables.ensures

pub returns-else-l-tables : goal.returns-else-l-tables
returns-else-l-tables c =
    let p = c.requires in
    step_right _ _ _ _ _ _ p.0 _ _ _ c.if-l-tables.false p.1 c.head-y-else-l-tables.ensures c.made-t-else-l-tables.ensures
    c.taken-else-l-tables.ensures
