-- Each way through the tests is one law. Assumes nothing.
use Rattle.map_rules.specs.Pieces.{start_yes, start_not, start_ge}
use borrow.Author.Rules.{rules}
use Rattle.map_time.proofs.insert.joined_start.Goals as goal

pub returns-then-same_value : goal.returns-then-same_value
returns-then-same_value c = search (rules, start_yes, start_not, start_ge)

pub returns-else-x-n : goal.returns-else-x-n
returns-else-x-n c = search (rules, start_yes, start_not, start_ge)
