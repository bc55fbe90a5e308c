-- `days::month_of` meets its contract: the guess is right, or the month after it is (`Method.antt`). Assumes nothing.
use native.Mathlib.Omega.{arith}
use borrow.Author.Rules.{rules}
use Rattle.leaves_days.specs.Calendar.{is_leap}
use Rattle.leaves_days.proofs.days.Method.{year_short, month_same, month_next}
use Rattle.leaves_days.proofs.days.month_of.Goals as goal

pub before_month-requires : goal.before_month-requires
before_month-requires c = omega (arith, year_short (is_leap c.args.year))

pub returns-then-before_month-in_year : goal.returns-then-before_month-in_year
returns-then-before_month-in_year c = month_next (is_leap c.args.year) c.args.in_year c.requires (search rules)

pub returns : goal.returns
returns c = month_same (is_leap c.args.year) c.args.in_year c.requires (search rules)
