-- `days::before_year` meets its contract: the days of the years from 1970 on as a sum of quotients (`Method.antt`). Assumes nothing.
use Rattle.leaves_days.proofs.days.Method.{years_closed}
use Rattle.leaves_days.proofs.days.before_year.Goals as goal

pub returns : goal.returns
returns c = years_closed c.args.year c.requires.0
