-- What each turn keeps, and what gets less.
use mathlib.Core.Path.{◌≡◌}
use Rattle.map_compare_walk.specs.Walk.{turns_left}
use Rattle.map_compare_walk.specs.Stretches.{rest}
use Rattle.map_compare_walk.proofs.stretches.Walk.step.Given as goal

abbrev pub invariant-loop-self : goal.invariant-loop-self
invariant-loop-self l = (rest l.self ≡ rest l.fn.self) × (l.self.tables ≡ l.fn.self.tables)

abbrev pub decreases-loop-self : goal.decreases-loop-self
decreases-loop-self l = turns_left l.self.tables.left.now l.self.tables.left_used l.self.tables.right.now l.self.tables.right_used l.self.left l.self.right
