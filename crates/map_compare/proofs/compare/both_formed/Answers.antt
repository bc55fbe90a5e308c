-- Each way through the tests is one law. Assumes nothing.
use Rattle.map_compare.specs.CompareLaws.{formed_both, formed_not}
use borrow.Author.Rules.{rules}
use Rattle.map_compare.proofs.compare.both_formed.Goals as goal

pub returns-then-well_formed : goal.returns-then-well_formed
returns-then-well_formed c = search (rules, formed_both)

pub returns-else-well_formed : goal.returns-else-well_formed
returns-else-well_formed c = search (rules, formed_not)
