-- Each way through the tests is one law of the side. Assumes nothing.
use borrow.Author.Rules.{rules}
use Rattle.map_rules.specs.Search.{side_lower, side_higher, side_before, side_after, side_touch}
use Rattle.map_moves.proofs.search.side.Goals as goal

pub returns-then-x-n : goal.returns-then-x-n
returns-then-x-n c = search (rules, side_lower)

pub returns-then-n-x : goal.returns-then-n-x
returns-then-n-x c = search (rules, side_higher)

pub returns-then-x-n-2 : goal.returns-then-x-n-2
returns-then-x-n-2 c = search (rules, side_before)

pub returns-then-n-x-2 : goal.returns-then-n-x-2
returns-then-n-x-2 c = search (rules, side_after)

pub returns-else-n-x-2 : goal.returns-else-n-x-2
returns-else-n-x-2 c = search (rules, side_touch)
