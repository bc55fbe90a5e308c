-- The method of `days`: years by a sum of quotients and a first guess, months by a table and a first guess. Each law ties it to the calendar's counting.
-- Assumes nothing.
use Prim.Native.Nat.{ℕ, suc, ◌+◌, ◌-◌, ◌*◌, ◌/◌, ◌%◌, ◌≤◌, ◌<◌}
use native.Mathlib.Nat.{add-zero}
use native.Mathlib.Numerals.{add-one}
use native.Mathlib.Decide.{dec_le}
use native.Mathlib.Omega.{arith}
use mathlib.Core.Path.{◌≡◌, sym, ap, ◌∙◌}
use mathlib.Core.Logic.{◌≢◌}
use mathlib.Core.Bool.{Bool, true, false, cond}
use mathlib.Core.List.{List, [], ◌∷◌}
use borrow.Author.Tests.{lt-ltb, le-ltb, eq-eqb, ne_eqb}
use lib.Dec.{leb, ltb, eqb}
use lib.ListN.{get_or}
use mir.Facts.{leb_yes, eqb_yes}
use Rattle.leaves_days.specs.Calendar.{is_leap, year_days, month_days, days_of_years, days_before, leap_day}
use Rattle.leaves_days.specs.CalendarLaws.{below, leaps_to, leaps_rise, leaps_1969, years_sum, before_rises, before_end}
use Rattle.leaves_days.specs.CalendarDates.{YearOf, MonthOf}

-- ---- years

-- the leap year rule, case by case
module _ (year : ℕ) where
  pub leap_no_fourth : year % 4 ≢ 0 → 0 ≡ leap_day (is_leap year)
  unfolding is_leap
  leap_no_fourth h = simp (ne_eqb (year % 4) 0 h)

  pub leap_fourth : year % 4 ≡ 0 → year % 100 ≢ 0 → 1 ≡ leap_day (is_leap year)
  unfolding is_leap
  leap_fourth h k = simp (eq-eqb (year % 4) 0 h, ne_eqb (year % 100) 0 k)

  pub leap_century : year % 4 ≡ 0 → year % 100 ≡ 0 → year % 400 ≢ 0 → 0 ≡ leap_day (is_leap year)
  unfolding is_leap
  leap_century h k l = simp (eq-eqb (year % 4) 0 h, eq-eqb (year % 100) 0 k, ne_eqb (year % 400) 0 l)

  pub leap_fourth_century : year % 4 ≡ 0 → year % 100 ≡ 0 → year % 400 ≡ 0 → 1 ≡ leap_day (is_leap year)
  unfolding is_leap
  leap_fourth_century h k l = simp (eq-eqb (year % 4) 0 h, eq-eqb (year % 100) 0 k, eq-eqb (year % 400) 0 l)

closed : (year : ℕ) → 1970 ≤ year → 365 * (year - 1970) + (leaps_to (year - 1) - 477) ≡ days_of_years (year - 1970)
closed year h =
    let e : 1969 + (year - 1970) ≡ year - 1 = omega arith in
    omega (arith, years_sum (year - 1970), ap leaps_to e, leaps_rise 1969 (year - 1) (omega arith), leaps_1969)

pub years_closed : (year : ℕ) → 1970 ≤ year → 365 * (year - 1970) + ((year - 1) / 4 - (year - 1) / 100 + (year - 1) / 400 - 477) ≡ days_of_years (year - 1970)
unfolding leaps_to
years_closed year h = closed year h

-- one year in four is a leap year, but for 2100, 2200, 2300 and 2500
hundreds : (x : ℕ) → 1969 ≤ x → x < 2600 → (15 + x / 400 ≤ x / 100) × (x / 100 ≤ 19 + x / 400) × (x / 100 ≤ 25)
hundreds x h k = (omega arith, omega arith, omega arith)

sums : (d a p q r f : ℕ) → d + 477 ≡ a + (p - q + r) → p ≡ 492 + f → 15 + r ≤ q → q ≤ 19 + r → q ≤ 25 → (d ≤ a + f) × (a + f ≤ d + 4)
sums d a p q r f e g h k l = (omega arith, omega arith)

near : (n : ℕ) → n < 600 → (days_of_years n ≤ 365 * n + (n + 1) / 4) × (365 * n + (n + 1) / 4 ≤ days_of_years n + 4)
unfolding leaps_to
near n h =
    let e : (1969 + n) / 4 ≡ 492 + (n + 1) / 4 = omega arith in
    let b = hundreds (1969 + n) (omega arith) (omega arith) in
    sums (days_of_years n) (365 * n) ((1969 + n) / 4) ((1969 + n) / 100) ((1969 + n) / 400) ((n + 1) / 4) (years_sum n) e b.0 b.1 b.2

pub years_short : (n : ℕ) → n < 600 → days_of_years n ≤ 219150
years_short n h = omega (arith, (near n h).0)

-- the guess: as many years as the days have quarters of four years; at most one more is over
abbrev guess : ℕ → ℕ
guess day = day * 4 / 1461

module _ (day : ℕ) (h : day ≤ 213503) where
  begun : days_of_years (guess day) ≤ day
  begun = omega (arith, (near (guess day) (omega arith)).0)

  over : day < days_of_years (guess day + 2)
  over = omega (arith, (near (guess day + 2) (omega arith)).1)

  -- the guess is right
  pub year_same : day < days_of_years (1970 + guess day + 1 - 1970) → YearOf day (1970 + guess day)
  year_same k =
      let i : 1970 + guess day - 1970 ≡ guess day = omega arith in
      let j : suc (1970 + guess day - 1970) ≡ 1970 + guess day + 1 - 1970 = omega arith in
      record {
        from = omega arith;
        to = omega arith;
        begun = omega (arith, begun, ap days_of_years i);
        over = omega (arith, k, ap days_of_years j);
      }

  -- the year after it is right
  pub year_next : days_of_years (1970 + guess day + 1 - 1970) ≤ day → YearOf day (1970 + guess day + 1)
  year_next k =
      let i : suc (1970 + guess day + 1 - 1970) ≡ guess day + 2 = omega arith in
      let j : 1970 + guess day + 1 - 1970 ≡ guess day + 1 = omega arith in
      record {
        from = omega arith;
        to = omega (arith, k, (near (guess day + 1) (omega arith)).1, ap days_of_years j);
        begun = k;
        over = omega (arith, over, ap days_of_years i);
      }

-- ---- months

-- the days before each month of a common year; from March on a leap year has one more
abbrev pub common_before : List ℕ
common_before = 0 ∷ 0 ∷ 31 ∷ 59 ∷ 90 ∷ 120 ∷ 151 ∷ 181 ∷ 212 ∷ 243 ∷ 273 ∷ 304 ∷ 334 ∷ 365 ∷ []

abbrev tabled : Bool → ℕ → ℕ
tabled leap month = get_or common_before month 0 + cond (ltb 2 month) (leap_day leap) 0

before_table : (leap : Bool) (month : ℕ) → month < 14 → days_before leap month ≡ tabled leap month
unfolding days_before month_days
before_table true month h = eqb_yes (below (λ m. eqb (days_before true m) (tabled true m)) 14 tt month h)
before_table false month h = eqb_yes (below (λ m. eqb (days_before false m) (tabled false m)) 14 tt month h)

pub before_early : (leap : Bool) (month : ℕ) → month ≤ 2 → get_or common_before month 0 ≡ days_before leap month
before_early leap month h = sym (before_table leap month (omega arith) ∙ simp (le-ltb 2 month h, add-zero))

pub before_late : (leap : Bool) (month : ℕ) → month < 14 → 2 < month → get_or common_before month 0 + leap_day leap ≡ days_before leap month
before_late leap month l h = sym (before_table leap month l ∙ simp (lt-ltb 2 month h))

-- no entry is above 365, and a year has at most one leap day
pub leap_short : (leap : Bool) → leap_day leap ≤ 1
leap_short true = omega arith
leap_short false = omega arith

pub before_short : (month : ℕ) → month < 14 → get_or common_before month 0 ≤ 365
before_short month h = leb_yes (below (λ m. leb (get_or common_before m 0) 365) 14 tt month h)

-- the first n months have at most 31 days each, and the first n + 2 at least 31 for each but one
pub before_least : (leap : Bool) (n : ℕ) → n < 12 → days_before leap (n + 1) ≤ 31 * n
unfolding days_before month_days
before_least true n h = leb_yes (below (λ m. leb (days_before true (m + 1)) (31 * m)) 12 tt n h)
before_least false n h = leb_yes (below (λ m. leb (days_before false (m + 1)) (31 * m)) 12 tt n h)

pub before_most : (leap : Bool) (n : ℕ) → n < 11 → 31 * (n + 1) ≤ days_before leap (n + 3)
unfolding days_before month_days
before_most true n h = leb_yes (below (λ m. leb (31 * (m + 1)) (days_before true (m + 3))) 11 tt n h)
before_most false n h = leb_yes (below (λ m. leb (31 * (m + 1)) (days_before false (m + 3))) 11 tt n h)

pub year_short : (leap : Bool) → year_days leap ≤ 366
year_short true = omega arith
year_short false = omega arith

pub months_short : (leap : Bool) (month : ℕ) → month ≤ 13 → days_before leap month ≤ 366
months_short leap month h = omega (arith, before_rises leap month 13 h, before_end leap, year_short leap)

-- the guess: a month has at most 31 days; at most one more is over
module _ (leap : Bool) (day : ℕ) (h : day < year_days leap) where
  first : days_before leap (day / 31 + 1) ≤ day
  first = omega (arith, before_least leap (day / 31) (omega (arith, year_short leap)))

  pub month_same : day < days_before leap (day / 31 + 1 + 1) → MonthOf leap day (day / 31 + 1)
  month_same k =
      record {
        from = omega arith;
        to = omega (arith, year_short leap);
        begun = first;
        over = omega (arith, k, ap (days_before leap) (add-one (day / 31 + 1)));
      }

  pub month_next : days_before leap (day / 31 + 1 + 1) ≤ day → MonthOf leap day (day / 31 + 1 + 1)
  month_next k =
      let l : day / 31 < 11 = last (dec_le 11 (day / 31)) in
      let e : suc (day / 31 + 1 + 1) ≡ day / 31 + 3 = omega arith in
      record {
        from = omega arith;
        to = omega arith;
        begun = k;
        over = omega (arith, before_most leap (day / 31) l, ap (days_before leap) e);
      }
    where
      last : Dec (11 ≤ day / 31) → day / 31 < 11
      last (yes i) =
          let e : day / 31 + 1 + 1 ≡ 13 = omega (arith, year_short leap) in
          absurd (omega (arith, k, ap (days_before leap) e, before_end leap))
      last (no i) = omega arith
