-- Each way through the tests is one law. Assumes nothing.
use Rattle.map_rules.specs.Pieces.{end_yes, end_not, end_ge}
use borrow.Author.Rules.{rules}
use Rattle.map_time.proofs.insert.joined_end.Goals as goal

pub returns-then-same_value : goal.returns-then-same_value
returns-then-same_value c = search (rules, end_yes, end_not, end_ge)

pub returns-else-n-z : goal.returns-else-n-z
returns-else-n-z c = search (rules, end_yes, end_not, end_ge)
