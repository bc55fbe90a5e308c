-- `days::leap_day` meets its contract: each way out is one case of the leap year rule (`Method.antt`). Assumes nothing.
use native.Mathlib.Omega.{arith}
use Rattle.leaves_days.proofs.days.Method.{leap_no_fourth, leap_fourth, leap_century, leap_fourth_century}
use Rattle.leaves_days.proofs.days.leap_day.Goals as goal

pub returns-then-year-ne0 : goal.returns-then-year-ne0
returns-then-year-ne0 c = leap_no_fourth c.args.year (omega arith)

pub returns-then-year-ne0-2 : goal.returns-then-year-ne0-2
returns-then-year-ne0-2 c = leap_fourth c.args.year (omega arith) (omega arith)

pub returns-then-year-ne0-3 : goal.returns-then-year-ne0-3
returns-then-year-ne0-3 c = leap_century c.args.year (omega arith) (omega arith) (omega arith)

pub returns : goal.returns
returns c = leap_fourth_century c.args.year (omega arith) (omega arith) (omega arith)
