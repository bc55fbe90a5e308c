-- `days::day_of` meets its contract: the parts' days of a date are summed, and what is none is refused. Assumes nothing.
use Prim.Native.Nat.{ℕ, ◌+◌, ◌-◌, ◌≤◌}
use native.Mathlib.Omega.{arith}
use mathlib.Core.Path.{◌≡◌, refl, sym, ap, ◌∙◌}
use mathlib.Core.Bool.{true}
use mathlib.Core.List.{[], ◌∷◌}
use Rattle.theory.specs.Answer.{answer}
use Rattle.leaves_days.specs.Calendar.{is_leap, days_of_years, days_before, year_in, month_in, day_in, day_number}
use Rattle.leaves_days.specs.CalendarDates.{date_yes, in_month}
use Rattle.leaves_days.specs.Days.{known_date, day_of}
use Rattle.leaves_days.specs.DaysLaws.{known_good, day_good}
use Rattle.leaves_days.proofs.days.Method.{years_short, months_short}
use Rattle.leaves_days.proofs.days.day_of.Goals as goal

-- a date's parts: the year and the month are few, and so are the days of whole years and months
pub record Parts (date : ℕ) : Type 0 where
  pub from : 1970 ≤ year_in date
  pub to : year_in date ≤ 2554
  pub month : month_in date ≤ 12
  pub day : 1 ≤ day_in date
  pub years : days_of_years (year_in date - 1970) ≤ 219150
  pub months : days_before (is_leap (year_in date)) (month_in date) ≤ 366

module _ (date : ℕ) (b : _) (t : b ≡ known_date date) (h : b ≡ true) where
  parts : Parts date
  parts =
      let g = known_good date (sym t ∙ h) in
      let d = date_yes date g.is in
      let m = in_month _ _ _ d in
      record {
        from = omega (arith, g.from);
        to = omega (arith, g.to);
        month = m.to;
        day = d.from;
        years = years_short (year_in date - 1970) (omega (arith, g.to));
        months = months_short (is_leap (year_in date)) (month_in date) (omega (arith, m.to));
      }

  counted : (years before : ℕ) → years ≡ days_of_years (year_in date - 1970) → before ≡ days_before (is_leap (year_in date)) (month_in date)
      → answer 0 ((years + before + (day_in date - 1)) ∷ []) ≡ day_of date
  unfolding day_number
  counted years before y e =
      let n : years + before + (day_in date - 1) ≡ day_number date = omega (arith, e, y) in
      ap (λ (x : ℕ). answer 0 (x ∷ [])) n ∙ sym (day_good date (known_good date (sym t ∙ h)))

pub returns-then-not-is_date : goal.returns-then-not-is_date
unfolding day_of
returns-then-not-is_date c = rw (sym c.is_date.ensures ∙ c.if-not-is_date.true) refl

pub before_year-requires : goal.before_year-requires
before_year-requires c = let p = parts c.args.date _ c.is_date.ensures c.if-not-is_date.false in (omega (arith, p.from), omega (arith, p.to))

pub before_month-requires : goal.before_month-requires
before_month-requires c = omega (arith, (parts c.args.date _ c.is_date.ensures c.if-not-is_date.false).month)

pub overflow_add-result : goal.overflow_add-result
overflow_add-result c =
    let p = parts c.args.date _ c.is_date.ensures c.if-not-is_date.false in omega (arith, p.years, p.months, c.before_year.ensures, c.before_month.ensures)

pub overflow_sub-result : goal.overflow_sub-result
overflow_sub-result c = omega (arith, (parts c.args.date _ c.is_date.ensures c.if-not-is_date.false).day)

pub overflow_add-result-2 : goal.overflow_add-result-2
overflow_add-result-2 c =
    let p = parts c.args.date _ c.is_date.ensures c.if-not-is_date.false in omega (arith, p.years, p.months, c.before_year.ensures, c.before_month.ensures)

pub returns : goal.returns
returns c =
    counted c.args.date _ c.is_date.ensures c.if-not-is_date.false _ _ c.before_year.ensures c.before_month.ensures
