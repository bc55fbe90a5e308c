-- `days::before_month` meets its contract: the table holds the days before each month of a common year, and from March on the leap day is added (`Method.antt`).
-- Assumes nothing.
use Prim.Native.Nat.{ℕ, ◌+◌}
use native.Mathlib.Omega.{arith}
use mathlib.Core.Path.{ap, ◌∙◌}
use lib.ListN.{get_or}
use Rattle.leaves_days.specs.Calendar.{is_leap}
use Rattle.leaves_days.proofs.days.Method.{common_before, leap_short, before_early, before_late, before_short}
use Rattle.leaves_days.proofs.days.before_month.Goals as goal

pub overflow_add-result : goal.overflow_add-result
overflow_add-result c =
    let a = c.args in
    omega (arith, before_short a.month c.requires, leap_short (is_leap a.year), c.leap_day.ensures)

pub returns-then-month-gt-FEBRUARY : goal.returns-then-month-gt-FEBRUARY
returns-then-month-gt-FEBRUARY c =
    let a = c.args in
    ap (λ (r : ℕ). get_or common_before a.month 0 + r) c.leap_day.ensures ∙ before_late (is_leap a.year) a.month c.requires (omega arith)

pub returns : goal.returns
returns c = before_early (is_leap c.args.year) c.args.month (omega arith)
