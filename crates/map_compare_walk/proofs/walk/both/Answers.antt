-- Each way through the tests is one law. Assumes nothing.
use Rattle.map_compare_walk.specs.TurnLaws.{both_left, both_right, both_whole}
use borrow.Author.Rules.{rules}
use Rattle.map_compare_walk.proofs.walk.both.Goals as goal

pub returns-then-x-y : goal.returns-then-x-y
returns-then-x-y c = search (rules, both_left, both_right, both_whole)

pub returns-then-y-x : goal.returns-then-y-x
returns-then-y-x c = search (rules, both_left, both_right, both_whole)

pub returns-else-y-x : goal.returns-else-y-x
returns-else-y-x c = search (rules, both_left, both_right, both_whole)
