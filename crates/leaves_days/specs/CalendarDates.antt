-- Laws of dates: the day number rises with the date, a count of days taken apart is the one date with that day number, and back.
-- Assumes nothing.
use Rattle.std.specs.Prelude.{ℕ, zero, suc, ◌+◌, ◌-◌, ◌*◌, ◌≤◌, ◌<◌, ◌≡◌, refl, Bool, T, leb}
use Rattle.std.proofs.Common.{add-zero, add-one, arith, sym, ap, ◌∙◌, subst}
use Rattle.theory.specs.RunsTools.{Order, less, equal, more, order}
use Rattle.std.proofs.Math.Facts.{and_yes, yes_and, leb_yes, yes_leb}
use Rattle.leaves_days.specs.Calendar.{is_leap, year_days, month_days, days_of_years, days_before, date_written, year_in, month_in, day_in, is_date, day_number, count_months, count_years, date_number}
use Rattle.leaves_days.specs.CalendarLaws.{ltb_case, years_none, years_suc, years_rise, years_sum, leaps_to, before_suc, before_rises, before_first, before_end, Month, month_known}

-- ---- what a date is

-- the day is one of the month's
pub record InMonth (leap : Bool) (month day : ℕ) : Type 0 where
  pub from : 1 ≤ day
  pub to : day ≤ month_days leap month

pub date_yes : (date : ℕ) → T (is_date date) → InMonth (is_leap (year_in date)) (month_in date) (day_in date)
unfolding is_date
date_yes date t =
    let p = and_yes (leb 1 (day_in date)) _ t in
    record { from = leb_yes p.0; to = leb_yes p.1 }

pub yes_date : (date : ℕ) → InMonth (is_leap (year_in date)) (month_in date) (day_in date) → T (is_date date)
unfolding is_date
yes_date date p = yes_and (leb 1 (day_in date)) _ (yes_leb p.from) (yes_leb p.to)

pub in_month : (leap : Bool) (month day : ℕ) → InMonth leap month day → Month month day
in_month leap month day p =
    let m : Month month (month_days leap month) = month_known leap month (omega arith) in
    record { from = m.from; to = m.to; short = omega arith }

-- a day of a month lies before the next month begins, and so within its year
pub before_next : (leap : Bool) (month day : ℕ) → InMonth leap month day → (next : ℕ) → month < next → days_before leap month + day ≤ days_before leap next
before_next leap month day p next h = omega (arith, before_suc leap month, before_rises leap (suc month) next h)

pub in_year : (leap : Bool) (month day : ℕ) → InMonth leap month day → days_before leap month + day ≤ year_days leap
in_year leap month day p =
    let m = in_month leap month day p in
    omega (arith, before_next leap month day p 13 (omega arith), before_end leap)

-- ---- the day number rises with the date

less_in_year : (leap : Bool) (m n d e : ℕ) → InMonth leap m d → InMonth leap n e → m * 100 + d < n * 100 + e → days_before leap m + d < days_before leap n + e
less_in_year leap m n d e p q h = go (order m n)
  where
    go : Order m n → days_before leap m + d < days_before leap n + e
    go (less l) = omega (arith, before_next leap m d p n l)
    go (equal l) = omega (arith, ap (days_before leap) l)
    go (more l) =
        let k = in_month leap m d p in
        let j = in_month leap n e q in
        absurd (omega arith)

-- the days of the years before this one and of this one make those before the next
pub year_next : (year : ℕ) → 1970 ≤ year → days_of_years (suc (year - 1970)) ≡ days_of_years (year - 1970) + year_days (is_leap year)
year_next year h =
    let e : 1970 + (year - 1970) ≡ year = omega arith in
    years_suc (year - 1970) ∙ ap (λ (y : ℕ). days_of_years (year - 1970) + year_days (is_leap y)) e

-- the day number of a year, a month and a day
abbrev pub placed : ℕ → ℕ → ℕ → ℕ
placed year month day = days_of_years (year - 1970) + days_before (is_leap year) month + (day - 1)

less_in_calendar : (y z m n d e : ℕ) → InMonth (is_leap y) m d → InMonth (is_leap z) n e → 1970 ≤ y →
    date_written y m d < date_written z n e → placed y m d < placed z n e
less_in_calendar y z m n d e p q f h = go (order y z)
  where
    go : Order y z → placed y m d < placed z n e
    go (less l) =
        omega (arith, in_year (is_leap y) m d p, year_next y f, years_rise (suc (y - 1970)) (z - 1970) (omega arith))
    go (equal l) =
        let r : InMonth (is_leap y) n e = subst (λ (x : ℕ). InMonth (is_leap x) n e) (sym l) q in
        subst (λ (x : ℕ). placed y m d < placed x n e) l (omega (arith, less_in_year (is_leap y) m n d e p r (omega arith)))
    go (more l) =
        let j = in_month (is_leap z) n e q in
        absurd (omega arith)

pub number_rises : (a b : ℕ) → T (is_date a) → T (is_date b) → 1970 ≤ year_in a → a < b → day_number a < day_number b
unfolding day_number
number_rises a b s t f h =
    less_in_calendar (year_in a) (year_in b) (month_in a) (month_in b) (day_in a) (day_in b) (date_yes a s) (date_yes b t) f (omega arith)

-- so two dates with one day number are one
pub number_one : (a b : ℕ) → T (is_date a) → T (is_date b) → 1970 ≤ year_in a → 1970 ≤ year_in b → day_number a ≡ day_number b → a ≡ b
number_one a b s t f g e = go (order a b)
  where
    go : Order a b → a ≡ b
    go (less l) = absurd (omega (arith, number_rises a b s t f l))
    go (equal l) = l
    go (more l) = absurd (omega (arith, number_rises b a t s g l))

-- ---- a count taken apart

-- the year that a day falls in, and the month that a day of a year falls in, counted from 0
pub record YearOf (day year : ℕ) : Type 0 where
  pub from : 1970 ≤ year
  pub to : year ≤ 2554
  pub begun : days_of_years (year - 1970) ≤ day
  pub over : day < days_of_years (suc (year - 1970))

pub record MonthOf (leap : Bool) (day month : ℕ) : Type 0 where
  pub from : 1 ≤ month
  pub to : month ≤ 12
  pub begun : days_before leap month ≤ day
  pub over : day < days_before leap (suc month)

-- the date has this day number
pub record Dated (day date : ℕ) : Type 0 where
  pub is : T (is_date date)
  pub from : 1970 ≤ year_in date
  pub number : day_number date ≡ day

pub dated_one : (day a b : ℕ) → Dated day a → Dated day b → a ≡ b
dated_one day a b p q = number_one a b p.is q.is p.from q.from (p.number ∙ sym q.number)

-- a year, a month and a day of it, written
pub dated : (day year month d : ℕ) → 1970 ≤ year → InMonth (is_leap year) month d → days_of_years (year - 1970) + days_before (is_leap year) month + d ≡ day + 1 → Dated day (date_written year month d)
unfolding day_number
dated day year month d h p e =
    let m = in_month (is_leap year) month d p in
    let i : year_in (date_written year month d) ≡ year = omega arith in
    let j : month_in (date_written year month d) ≡ month = omega arith in
    let k : day_in (date_written year month d) ≡ d = omega arith in
    record {
      is = yes_date (date_written year month d) (rw (i, j, k) p);
      from = rw i h;
      number = rw (i, j, k) (omega (arith, p.from));
    }

-- whole months counted off: the date has the day number that the first of the month and the rest make
count_months_lem : (n year month rest day past : ℕ) → 1970 ≤ year → days_of_years (year - 1970) + past ≡ day → days_before (is_leap year) month + rest ≡ past →
    past < days_before (is_leap year) (month + n) → Dated day (count_months n year month rest)
unfolding count_months
count_months_lem zero year month rest day past h e f l = absurd (omega (arith, ap (days_before (is_leap year)) (add-zero month)))
count_months_lem (suc n) year month rest day past h e f l =
    ltb_case (Dated day) rest (month_days (is_leap year) month) _ _
    (λ i. dated day year month (rest + 1) h (record { from = omega arith; to = omega arith }) (omega arith))
    (λ i.
    count_months_lem n year (month + 1) (rest - month_days (is_leap year) month) day past h e
    (omega (arith, before_suc (is_leap year) month, ap (days_before (is_leap year)) (add-one month)))
    (subst (λ (k : ℕ). past < days_before (is_leap year) k) (omega arith) l))

-- whole years counted off, then months
count_years_lem : (n year rest day : ℕ) → 1970 ≤ year → days_of_years (year - 1970) + rest ≡ day → day < days_of_years (year - 1970 + n) → Dated day (count_years n year rest)
unfolding count_years
count_years_lem zero year rest day h e l = absurd (omega (arith, ap days_of_years (add-zero (year - 1970))))
count_years_lem (suc n) year rest day h e l =
    ltb_case (Dated day) rest (year_days (is_leap year)) _ _
    (λ i. count_months_lem 12 year 1 rest day rest h e (omega (arith, before_first (is_leap year))) (omega (arith, before_end (is_leap year))))
    (λ i.
    let k : year + 1 - 1970 ≡ suc (year - 1970) = omega arith in
    count_years_lem n (year + 1) (rest - year_days (is_leap year)) day (omega arith)
    (omega (arith, year_next year h, ap days_of_years k))
    (subst (λ (j : ℕ). day < days_of_years j) (omega arith) l))

-- 585 years go past 2554-07-21
pub date_number_dated : (day : ℕ) → day ≤ 213503 → Dated day (date_number day)
unfolding date_number leaps_to
date_number_dated day h = count_years_lem 585 1970 day day (omega arith) (omega (arith, years_none)) (omega (arith, years_sum 585))

-- 2554-07-21
pub number_of_last : day_number 25540721 ≡ 213503
unfolding day_number days_of_years days_before month_days is_leap
number_of_last = refl
