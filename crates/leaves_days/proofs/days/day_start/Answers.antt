-- `days::day_start` meets its contract: the test is the definition's. Assumes nothing.
use borrow.Author.Tests.{le-leb, lt-leb}
use Rattle.leaves_days.specs.Days.{day_start}
use Rattle.leaves_days.proofs.days.day_start.Goals as goal

pub returns-then-day-gt-LAST_DAY : goal.returns-then-day-gt-LAST_DAY
unfolding day_start
returns-then-day-gt-LAST_DAY c = simp (lt-leb _ _ c.if-day-gt-LAST_DAY.true)

pub returns : goal.returns
unfolding day_start
returns c = simp (le-leb _ _ c.if-day-gt-LAST_DAY.false)
