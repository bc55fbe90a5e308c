-- Each way through the tests is one law. Assumes nothing.
use Rattle.map_compare_rules.specs.Memory.{compare_fits}
use Rattle.map_compare.specs.CompareLaws.{unfit_right, fit_rest}
use borrow.Author.Rules.{rules}
use Rattle.map_compare.proofs.compare.compare_fits.Goals as goal

pub returns-then-memory_fits-2 : goal.returns-then-memory_fits-2
returns-then-memory_fits-2 c = search (rules, fit_rest)

pub returns-else-memory_fits-2 : goal.returns-else-memory_fits-2
unfolding compare_fits
returns-else-memory_fits-2 c = search (rules, unfit_right)
