-- `days::date_of` meets its contract: the year, the month and the day found make a date with this day number, and there is only one.
-- Assumes nothing.
use Prim.Native.Nat.{ℕ, ◌+◌, ◌-◌, ◌*◌, ◌≤◌, ◌<◌}
use native.Mathlib.Omega.{arith}
use mathlib.Core.Path.{◌≡◌, sym, ap, ◌∙◌}
use mathlib.Core.List.{[], ◌∷◌}
use Rattle.theory.specs.Answer.{answer}
use Rattle.leaves_days.specs.Calendar.{is_leap, year_days, days_of_years, days_before, date_number}
use Rattle.leaves_days.specs.CalendarLaws.{before_suc}
use Rattle.leaves_days.specs.CalendarDates.{YearOf, MonthOf, year_next, dated, dated_one, date_number_dated}
use Rattle.leaves_days.specs.Days.{date_of}
use Rattle.leaves_days.specs.DaysLaws.{date_good, date_refused}
use Rattle.leaves_days.proofs.days.date_of.Goals as goal

module _ (day year years : ℕ) (y : YearOf day year) (e : years ≡ days_of_years (year - 1970)) where
  in_year : day - years < year_days (is_leap year)
  in_year = omega (arith, y.begun, y.over, year_next year y.from)

  built : (month before : ℕ) → day ≤ 213503 → MonthOf (is_leap year) (day - years) month → before ≡ days_before (is_leap year) month →
      answer 0 ((year * 10000 + month * 100 + (day - years - before + 1)) ∷ []) ≡ date_of day
  built month before h m f =
      ap (λ (x : ℕ). answer 0 (x ∷ []))
      (dated_one day _ (date_number day)
      (dated day year month (day - years - before + 1) y.from
      (record { from = omega arith; to = omega (arith, m.begun, m.over, before_suc (is_leap year) month) })
      (omega (arith, y.begun, m.begun)))
      (date_number_dated day h))
      ∙ sym (date_good day h)

pub returns-then-day-gt-LAST_DAY : goal.returns-then-day-gt-LAST_DAY
returns-then-day-gt-LAST_DAY c = sym ((date_refused c.args.day).1 c.if-day-gt-LAST_DAY.true)

pub month_of-month-requires : goal.month_of-month-requires
month_of-month-requires c = in_year _ _ _ c.year_of-year.ensures c.before_year.ensures

pub returns : goal.returns
returns c =
    built _ _ _ c.year_of-year.ensures c.before_year.ensures _ _ c.if-day-gt-LAST_DAY.false c.month_of-month.ensures c.before_month.ensures
