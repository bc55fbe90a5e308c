-- Each way through the test is one law. Assumes nothing.
use Rattle.map_rules.specs.Outcomes.{memory_not, memory_rest}
use borrow.Author.Rules.{rules}
use Rattle.map_table.proofs.table.memory_fits.Goals as goal

pub returns-then-table_fits : goal.returns-then-table_fits
returns-then-table_fits c = search (rules, memory_not, memory_rest)

pub returns-else-table_fits : goal.returns-else-table_fits
returns-else-table_fits c = search (rules, memory_not, memory_rest)
