-- Each way through the tests is one law. Assumes nothing.
use borrow.Author.Rules.{rules}
use Rattle.map_compare_walk.specs.TurnLaws.{over_lower, over_own, over_higher}
use Rattle.map_compare_walk.proofs.walk.is_over.Goals as goal

pub returns-then-x-y : goal.returns-then-x-y
returns-then-x-y c = search (rules, over_lower, over_own, over_higher)

pub returns-then-x-y-2 : goal.returns-then-x-y-2
returns-then-x-y-2 c = search (rules, over_lower, over_own, over_higher)

pub returns-else-x-y-2 : goal.returns-else-x-y-2
returns-else-x-y-2 c = search (rules, over_lower, over_own, over_higher)
