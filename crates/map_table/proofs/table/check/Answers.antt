-- Each way through the tests is one law. Assumes nothing.
use Rattle.map_rules.specs.Outcomes.{memory_holds, checked_unfit, checked_yes, checked_no}
use borrow.Author.Rules.{rules}
use Rattle.map_table.proofs.table.check.Goals as goal

pub well_formed-requires : goal.well_formed-requires
well_formed-requires c = search (rules, memory_holds)

pub returns-then-not-memory_fits : goal.returns-then-not-memory_fits
returns-then-not-memory_fits c = search (rules, checked_unfit, checked_yes, checked_no)

pub returns-then-well_formed : goal.returns-then-well_formed
returns-then-well_formed c = search (rules, checked_unfit, checked_yes, checked_no)

pub returns-else-well_formed : goal.returns-else-well_formed
returns-else-well_formed c = search (rules, checked_unfit, checked_yes, checked_no)
