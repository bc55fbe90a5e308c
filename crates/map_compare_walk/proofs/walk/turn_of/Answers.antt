-- Each way through the tests is one law. Assumes nothing.
use Rattle.map_compare_walk.specs.TurnLaws.{turn_left, turn_right, turn_left_part, turn_right_part, turn_both}
use borrow.Author.Rules.{rules}
use Rattle.map_compare_walk.proofs.walk.turn_of.Goals as goal

pub returns-then-is_over : goal.returns-then-is_over
returns-then-is_over c = search (rules, turn_left, turn_right, turn_left_part, turn_right_part, turn_both)

pub returns-then-is_over-2 : goal.returns-then-is_over-2
returns-then-is_over-2 c = search (rules, turn_left, turn_right, turn_left_part, turn_right_part, turn_both)

pub returns-then-x-y : goal.returns-then-x-y
returns-then-x-y c = search (rules, turn_left, turn_right, turn_left_part, turn_right_part, turn_both)

pub returns-then-y-x : goal.returns-then-y-x
returns-then-y-x c = search (rules, turn_left, turn_right, turn_left_part, turn_right_part, turn_both)

pub returns-else-y-x : goal.returns-else-y-x
returns-else-y-x c = search (rules, turn_left, turn_right, turn_left_part, turn_right_part, turn_both)
