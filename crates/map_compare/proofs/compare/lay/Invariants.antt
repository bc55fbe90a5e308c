-- What each turn keeps.
use Rattle.map_compare_rules.specs.Memory.{stretches_of}
use Rattle.map_compare_walk.specs.Stretches.{rest}
use Rattle.map_compare.specs.CompareLaws.{Laying}
use Rattle.map_compare.proofs.compare.lay.Given as goal

abbrev pub invariant-loop-stretch : goal.invariant-loop-stretch
invariant-loop-stretch l =
    Laying (stretches_of l.fn.tables.left.now l.fn.tables.left_used l.fn.tables.right.now l.fn.tables.right_used) l.initial.stretches l.stretches l.total (rest l.stretch-iterator)
