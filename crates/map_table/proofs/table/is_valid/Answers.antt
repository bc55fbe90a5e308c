-- Each way through the test is one law. Assumes nothing.
use Rattle.map_rules.specs.Checks.{valid_rest, valid_empty}
use borrow.Author.Rules.{rules}
use Rattle.map_table.proofs.table.is_valid.Goals as goal

pub returns-then-x : goal.returns-then-x
returns-then-x c = search (rules, valid_rest)

pub returns-else-x : goal.returns-else-x
returns-else-x c = search (rules, valid_empty)
