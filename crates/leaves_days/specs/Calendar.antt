-- The calendar of ISO 8601, which decides dates (RULES, What you take over, 1): leap years, the days of a month, of whole months and of whole years,
-- and a count of days taken apart again. All by counting: nothing here is a closed formula.
use Rattle.std.specs.Prelude.{ℕ, zero, suc, ◌+◌, ◌-◌, ◌*◌, ◌/◌, ◌%◌, Bool, not, ◌&&◌, ◌||◌, cond, List, [], ◌∷◌, leb, ltb, eqb, get_or}

-- n is a whole number of times k
abbrev pub divisible : ℕ → ℕ → Bool
divisible n k = eqb (n % k) 0

-- ISO 8601, calendar year: a leap year is divisible by 4, and not by 100 unless by 400
unfoldable pub is_leap : ℕ → Bool
is_leap year = divisible year 4 && (not (divisible year 100) || divisible year 400)

-- ISO 8601, calendar year: a common year has 365 days, a leap year 366
abbrev pub year_days : Bool → ℕ
year_days leap = cond leap 366 365

-- ISO 8601, calendar month: the days of January to December, in a leap year or a common one, after a 0 for month 0, which is none
abbrev pub month_lengths : Bool → List ℕ
month_lengths leap = 0 ∷ 31 ∷ cond leap 29 28 ∷ 31 ∷ 30 ∷ 31 ∷ 30 ∷ 31 ∷ 31 ∷ 30 ∷ 31 ∷ 30 ∷ 31 ∷ []

-- the days of a month: where there is no such month, none
unfoldable pub month_days : Bool → ℕ → ℕ
month_days leap month = get_or (month_lengths leap) month 0

-- the days of the first n years from 1970 on
unfoldable pub days_of_years : ℕ → ℕ
days_of_years zero = 0
days_of_years (suc n) = days_of_years n + year_days (is_leap (1970 + n))

-- the days of the months before this one
unfoldable pub days_before : Bool → ℕ → ℕ
days_before leap zero = 0
days_before leap (suc month) = days_before leap month + month_days leap month

-- ISO 8601, calendar date, basic format YYYYMMDD, as a number
abbrev pub date_written : ℕ → ℕ → ℕ → ℕ
date_written year month day = year * 10000 + month * 100 + day

-- the year, the month and the day that such a number writes
abbrev pub year_in : ℕ → ℕ
year_in date = date / 10000

abbrev pub month_in : ℕ → ℕ
month_in date = date / 100 % 100

abbrev pub day_in : ℕ → ℕ
day_in date = date % 100

-- there is such a date: its day is one of the days of its month
unfoldable pub is_date : ℕ → Bool
is_date date = leb 1 (day_in date) && leb (day_in date) (month_days (is_leap (year_in date)) (month_in date))

-- days since 1970-01-01 of a date from 1970 on: those of whole years, of whole months of the year, and of the month
unfoldable pub day_number : ℕ → ℕ
day_number date = days_of_years (year_in date - 1970) + days_before (is_leap (year_in date)) (month_in date) + (day_in date - 1)

-- the date that lies `rest` days after the first of a month: whole months are counted off, n at most
unfoldable pub count_months : ℕ → ℕ → ℕ → ℕ → ℕ
count_months zero year month rest = date_written year month (rest + 1)
count_months (suc n) year month rest =
    cond (ltb rest (month_days (is_leap year) month))
    (date_written year month (rest + 1))
    (count_months n year (month + 1) (rest - month_days (is_leap year) month))

-- the date that lies `rest` days after the first of January of a year: whole years are counted off, n at most, then whole months
unfoldable pub count_years : ℕ → ℕ → ℕ → ℕ
count_years zero year rest = count_months 12 year 1 rest
count_years (suc n) year rest =
    cond (ltb rest (year_days (is_leap year)))
    (count_months 12 year 1 rest)
    (count_years n (year + 1) (rest - year_days (is_leap year)))

-- the date of a day since 1970-01-01, counted over the 585 years 1970 to 2554
unfoldable pub date_number : ℕ → ℕ
date_number day = count_years 585 1970 day

-- 29 February, where there is one
abbrev pub leap_day : Bool → ℕ
leap_day leap = cond leap 1 0
