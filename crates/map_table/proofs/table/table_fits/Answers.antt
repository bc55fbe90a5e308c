-- Each way through the tests is one law. Assumes nothing.
use borrow.Author.Rules.{rules}
use Rattle.map_rules.specs.Outcomes.{table_many, table_long, table_odd, table_rest}
use Rattle.map_table.proofs.table.table_fits.Goals as goal

pub returns-then-length-eq0 : goal.returns-then-length-eq0
returns-then-length-eq0 c = search (rules, table_many, table_long, table_odd, table_rest)

pub returns-else-length-eq0 : goal.returns-else-length-eq0
returns-else-length-eq0 c = search (rules, table_many, table_long, table_odd, table_rest)
