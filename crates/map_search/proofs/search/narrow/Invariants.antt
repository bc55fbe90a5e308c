-- What each turn keeps, and what gets less.
use Rattle.map_rules.specs.Halves.{Narrowed}
use Rattle.map_search.proofs.search.narrow.Given as goal

abbrev pub invariant-loop-left : goal.invariant-loop-left
invariant-loop-left g l = Narrowed (g.T.Test.passes l.test l.table) l.lo l.count l.at l.left

abbrev pub decreases-loop-left : goal.decreases-loop-left
decreases-loop-left g l = l.left
