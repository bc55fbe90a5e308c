-- RULES, Names, numbers, days: a date becomes days since 1970-01-01, and back; and a day's start. Refusal 11 is "no such date, or outside 1970-01-01 to 2554-07-21".
use Rattle.std.specs.Prelude.{ℕ, ◌*◌, Bool, ◌&&◌, cond, [], ◌∷◌, leb}
use Rattle.theory.specs.Answer.{Answer, answer}
use Rattle.leaves.specs.Refusal.{refused}
use Rattle.leaves_days.specs.Calendar.{is_date, day_number, date_number}
use Rattle.leaves.specs.declared.refusal.Refusal.TheVariants.{NoDate}

-- 1970-01-01 to 2554-07-21, both included
abbrev pub in_range : ℕ → Bool
in_range date = leb 19700101 date && leb date 25540721

-- there is such a date, and it is in range
abbrev pub known_date : ℕ → Bool
known_date date = is_date date && in_range date

-- the last day, 2554-07-21
abbrev pub last_day : ℕ
last_day = 213503

-- a date's day; 11 where there is no such date, or it is out of range
unfoldable pub day_of : ℕ → Answer
day_of date = cond (known_date date) (answer 0 (day_number date ∷ [])) (refused NoDate)

-- a day's date; 11 past the last day
unfoldable pub date_of : ℕ → Answer
date_of day = cond (leb day last_day) (answer 0 (date_number day ∷ [])) (refused NoDate)

-- a day's start: days x 86,400,000,000,000 nanoseconds; 11 past the last day
unfoldable pub day_start : ℕ → Answer
day_start day = cond (leb day last_day) (answer 0 (day * 86400000000000 ∷ [])) (refused NoDate)
