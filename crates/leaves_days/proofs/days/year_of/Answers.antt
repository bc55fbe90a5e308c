-- `days::year_of` meets its contract: the guess is right, or the year after it is (`Method.antt`). Assumes nothing.
use borrow.Author.Rules.{rules}
use Rattle.leaves_days.proofs.days.Method.{year_same, year_next}
use Rattle.leaves_days.proofs.days.year_of.Goals as goal

pub returns-then-before_year-day : goal.returns-then-before_year-day
returns-then-before_year-day c = year_next c.args.day c.requires (search rules)

pub returns : goal.returns
returns c = year_same c.args.day c.requires (search rules)
