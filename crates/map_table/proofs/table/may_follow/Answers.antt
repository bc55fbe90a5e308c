-- Each way through the tests is one law. Assumes nothing.
use Rattle.map_rules.specs.Checks.{follow_other, follow_gap, follow_overlap, follow_touch}
use borrow.Author.Rules.{rules}
use Rattle.map_table.proofs.table.may_follow.Goals as goal

pub returns-then-x-y-2 : goal.returns-then-x-y-2
returns-then-x-y-2 c = search (rules, follow_gap)

pub returns-then-x-y-3 : goal.returns-then-x-y-3
returns-then-x-y-3 c = search (rules, follow_touch)

pub returns-else-x-y-3 : goal.returns-else-x-y-3
returns-else-x-y-3 c = search (rules, follow_overlap)

pub returns-else-x-y : goal.returns-else-x-y
returns-else-x-y c = search (rules, follow_other)
