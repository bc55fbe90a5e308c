-- The first tests are ways in which the date is none or out of range; a day up to the 28th is one of any month.
-- Assumes nothing.
use Prim.Native.Nat.{ℕ, ◌+◌, ◌-◌, ◌≤◌, ◌<◌}
use native.Mathlib.Numerals.{add-one}
use native.Mathlib.Omega.{arith}
use mathlib.Core.Path.{◌≡◌, refl, ap}
use borrow.Author.Tests.{leb-true, leb-false}
use Rattle.std.specs.Prelude.{leb}
use mathlib.Core.Bool.{Bool, true, false}
use Rattle.leaves_days.specs.Calendar.{is_leap, month_days, days_before, year_in, month_in, day_in}
use Rattle.leaves_days.specs.CalendarLaws.{before_suc, month_long}
use Rattle.leaves_days.specs.CalendarDates.{date_yes, yes_date, in_month}
use Rattle.leaves_days.specs.Days.{known_date}
use Rattle.leaves_days.specs.DaysLaws.{good_known, not_known}
use Rattle.leaves_days.proofs.days.is_date.Goals as goal

module _ (date : ℕ) where
  within : 19700101 ≤ date → date ≤ 25540721 → 1 ≤ day_in date → day_in date ≤ month_days (is_leap (year_in date)) (month_in date) → true ≡ known_date date
  within h k i j = good_known date (record { is = yes_date date (record { from = i; to = j }); from = h; to = k })

  any_month : 19700101 ≤ date → date ≤ 25540721 → 1 ≤ month_in date → month_in date ≤ 12 → 1 ≤ day_in date → day_in date ≤ 28 → true ≡ known_date date
  any_month h k m n i j = within h k i (omega (arith, month_long (is_leap (year_in date)) (month_in date) m n))

  module _ (next before : ℕ) (f : next ≡ days_before (is_leap (year_in date)) (month_in date + 1)) (e : before ≡ days_before (is_leap (year_in date)) (month_in date)) where
    -- the days of a month, as the days before the next one less those before it
    month_length : next ≡ before + month_days (is_leap (year_in date)) (month_in date)
    month_length = omega (arith, before_suc (is_leap (year_in date)) (month_in date), ap (days_before (is_leap (year_in date))) (add-one (month_in date)))

    past_month : next - before < day_in date → false ≡ known_date date
    past_month h = not_known date (λ g. omega (arith, (date_yes date g.is).to, month_length))

    in_length : day_in date ≤ next - before → day_in date ≤ month_days (is_leap (year_in date)) (month_in date)
    in_length h = omega (arith, month_length)

    decided : 19700101 ≤ date → date ≤ 25540721 → 1 ≤ day_in date → leb (day_in date) (next - before) ≡ known_date date
    decided h k i = go (leb (day_in date) (next - before)) refl
      where
        go : (t : Bool) → leb (day_in date) (next - before) ≡ t → t ≡ known_date date
        go true e = within h k i (in_length (leb-true _ _ e))
        go false e = past_month (leb-false _ _ e)

pub returns-then-date-lt-FIRST_DATE : goal.returns-then-date-lt-FIRST_DATE
returns-then-date-lt-FIRST_DATE c =
    not_known c.args.date
    (λ g. let d = date_yes c.args.date g.is in
    let m = in_month _ _ _ d in
    grind (arith, g.from, g.to, m.from, m.to, d.from, c.then-date-lt-FIRST_DATE.either))

pub returns-then-day-le-SHORTEST_MONTH : goal.returns-then-day-le-SHORTEST_MONTH
returns-then-day-le-SHORTEST_MONTH c =
    any_month c.args.date (omega arith) (omega arith) (omega arith) (omega arith) (omega arith) (omega arith)

pub overflow_sub-result : goal.overflow_sub-result
overflow_sub-result c =
    omega (arith, month_length c.args.date _ _ c.before_month.ensures c.before_month-2.ensures)

pub returns : goal.returns
returns c =
    decided c.args.date _ _ c.before_month.ensures c.before_month-2.ensures (omega arith) (omega arith) (omega arith)
