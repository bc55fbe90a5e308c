-- The stretches that a walk still has to tell of.
use Rattle.map_compare_rules.specs.Compare.{Stretches}
use Rattle.map_compare_rules.specs.Memory.{Value}
use Rattle.map_compare_walk.specs.declared.stretches.Walk.{Walk}
use Rattle.map_compare_walk.specs.Walk.{ahead}

unfoldable pub rest : Walk → Stretches Value
rest w = ahead w.tables.left.now w.tables.left_used w.tables.right.now w.tables.right_used w.left w.right
