-- Each way through the test is one law. Assumes nothing.
use Rattle.map_rules.specs.Checks.{follows_not, follows_rest}
use borrow.Author.Rules.{rules}
use Rattle.map_table.proofs.table.is_next.Goals as goal

pub returns-then-is_valid : goal.returns-then-is_valid
returns-then-is_valid c = search (rules, follows_not, follows_rest)

pub returns-else-is_valid : goal.returns-else-is_valid
returns-else-is_valid c = search (rules, follows_not, follows_rest)
