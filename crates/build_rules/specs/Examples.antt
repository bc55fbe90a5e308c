-- Both builds computed by the definitions, at the places where an order of refusals is easy to get wrong. Days are of January 1970, so
-- the date 197001dd is day dd - 1.
use Rattle.std.specs.Prelude.{◌≡◌, refl, ℕ, ◌*◌, false, List, [], ◌∷◌}
use Rattle.theory.specs.Runs.{All}
use Rattle.leaves_text.specs.NumberText.{number_text, some_digits, digits, is_digit}
use Rattle.leaves_days.specs.Days.{day_of}
use Rattle.leaves_days.specs.Calendar.{is_date, day_number, is_leap, month_days, days_of_years, days_before}
use Rattle.map_rules.specs.Table.{Row, entered}
use Rattle.map_point.specs.declared.entries.Entry.{Entry}
use Rattle.metadata_rules.specs.declared.Interval.{Interval}
use Rattle.metadata_rules.specs.Metadata.{Mapping, mapping, Metadata}
use Rattle.build_rules.specs.Reading.{day_length}
use Rattle.build_rules.specs.OverTime.{Build, stopped, built, over_time}
use Rattle.build_rules.specs.PointInTime.{point_in_time}

-- the names: empty, `5`, `A`, `B`, `x`; a number that was never handed out
texts : List (List ℕ)
texts = [] ∷ (53 ∷ []) ∷ (65 ∷ []) ∷ (66 ∷ []) ∷ (120 ∷ []) ∷ []

abbrev none : ℕ
none = 0

abbrev five : ℕ
five = 1

abbrev a : ℕ
a = 2

abbrev b : ℕ
b = 3

abbrev x : ℕ
x = 4

abbrev unknown : ℕ
unknown = 5

-- the days 1, 2, 3; no date
abbrev one : ℕ
one = 19700102

abbrev two : ℕ
two = 19700103

abbrev three : ℕ
three = 19700104

abbrev bad : ℕ
bad = 21000229

abbrev span : ℕ → ℕ → ℕ → Interval
span s e v = record { start = s; end = e; symbol = v }

-- a metadata with these stypes, times and mappings
abbrev metadata : ℕ → ℕ → ℕ → ℕ → List Mapping → Metadata
metadata i o s e ms = record {
  fields = record { version = 1; dataset = 2; schema = 1; start = s; end = e; limit = 0; stype_in = i; stype_out = o; ts_out = false; symbol_cstr_len = 71 };
  symbols = [];
  partial = [];
  not_found = [];
  mappings = ms;
}

-- over time in a room of so many, forward and inverse; for day 1
abbrev onward : ℕ → List Mapping → Build (Row ℕ)
onward room ms = over_time room texts (metadata 1 0 0 0 ms)

abbrev backward : ℕ → List Mapping → Build (Row ℕ)
backward room ms = over_time room texts (metadata 0 1 0 0 ms)

abbrev for_day : ℕ → List Mapping → Build Entry
for_day room ms = point_in_time room texts (metadata 1 0 0 0 ms) one

abbrev back_for_day : ℕ → List Mapping → Build Entry
back_for_day room ms = point_in_time room texts (metadata 0 1 0 0 ms) one

row : ℕ → ℕ → ℕ → Row ℕ
row s e v = record { instrument = 5; start = s * day_length; end = e * day_length; value = v }

entry : ℕ → Entry
entry v = record { instrument = 5; symbol = v }

-- what is asked, and what it comes to
record Case (X : Type 0) : Type 0 where
  asked : Build X
  comes : Build X

abbrev case : {X : Type 0} → Build X → Build X → Case X
case q w = record { asked = q; comes = w }

abbrev Right : {X : Type 0} → Case X → Type 0
Right c = c.asked ≡ c.comes

over_time_cases : List (Case (Row ℕ))
over_time_cases =
    -- an empty symbol is skipped before its dates are read; an unknown one is not
    case (onward 1 (mapping a (span three bad none ∷ []) ∷ [])) (built []) ∷
    case (onward 1 (mapping a (span bad one x ∷ []) ∷ [])) (stopped 8 0 0) ∷
    case (onward 1 (mapping a (span bad one unknown ∷ []) ∷ [])) (stopped 3 0 0) ∷
    -- forward, an unknown mapping name is met by an insert that stores
    case (onward 1 (mapping unknown [] ∷ mapping unknown (span one one five ∷ []) ∷ [])) (built []) ∷
    case (onward 1 (mapping unknown (span two one five ∷ []) ∷ [])) (stopped 1 0 0) ∷
    case (onward 1 (mapping a (span one two five ∷ []) ∷ mapping unknown (span one one five ∷ span one two five ∷ []) ∷ [])) (stopped 3 1 1) ∷
    case (onward 1 (mapping unknown (span bad one five ∷ []) ∷ [])) (stopped 11 0 0) ∷
    -- inverse, the mapping's name is read even when it has no interval
    case (backward 1 (mapping x [] ∷ [])) (stopped 8 0 0) ∷
    case (backward 1 (mapping five [] ∷ mapping unknown [] ∷ [])) (stopped 3 1 0) ∷
    case (backward 1 (mapping none [] ∷ [])) (stopped 8 0 0) ∷
    case (backward 1 (mapping five (span one two a ∷ span two three a ∷ []) ∷ [])) (built (row 1 3 a ∷ [])) ∷
    -- both sides are instrument ID: forward; neither: 9
    case (over_time 1 texts (metadata 0 0 0 0 (mapping a (span one two five ∷ []) ∷ []))) (built (row 1 2 a ∷ [])) ∷
    case (over_time 1 texts (metadata 1 1 0 0 [])) (stopped 9 0 0) ∷
    -- 2 is judged at each insert, also where a later one would shrink the table; skips and empty intervals need no room
    case (onward 1 (mapping a (span one two five ∷ []) ∷ mapping b (span two three five ∷ []) ∷ mapping a (span one three five ∷ []) ∷ [])) (stopped 2 1 0) ∷
    case (onward 0 (mapping a (span one two none ∷ span two two five ∷ []) ∷ [])) (built []) ∷ []

over_time_right : All Right over_time_cases
unfolding over_time_cases over_time texts row entered number_text some_digits digits is_digit day_of is_date day_number is_leap month_days days_of_years days_before
over_time_right = (refl, (refl, (refl, (refl, (refl, (refl, (refl, (refl, (refl, (refl, (refl, (refl, (refl, (refl, (refl, tt)))))))))))))))

point_cases : List (Case Entry)
point_cases =
    -- point-in-time: the first interval that covers the day counts, though its symbol is empty
    case (for_day 1 (mapping a (span one two none ∷ span one three five ∷ []) ∷ [])) (built []) ∷
    case (for_day 1 (mapping a (span one two five ∷ span one bad x ∷ []) ∷ [])) (built (entry a ∷ [])) ∷
    -- dates before it are read, also of an interval that starts after the day
    case (for_day 1 (mapping a (span two bad five ∷ span one two five ∷ []) ∷ [])) (stopped 11 0 0) ∷
    -- nothing counts: no name is read
    case (back_for_day 1 (mapping x (span two three a ∷ span three one a ∷ []) ∷ [])) (built []) ∷
    -- a later entry replaces the earlier one; 2 of one mapping comes before 8 of the next
    case (for_day 1 (mapping a (span one two five ∷ []) ∷ mapping b (span one three five ∷ []) ∷ [])) (built (entry b ∷ [])) ∷
    case (for_day 0 (mapping a (span one two five ∷ []) ∷ mapping b (span one two x ∷ []) ∷ [])) (stopped 2 0 0) ∷
    -- the asked day is read before the direction is; 9 comes before 10
    case (point_in_time 1 texts (metadata 1 1 0 0 []) bad) (stopped 11 0 0) ∷
    case (point_in_time 1 texts (metadata 1 1 (9 * day_length) 0 []) one) (stopped 9 0 0) ∷
    -- the query's range: from the day of its start, noon or not, to before its end, where 0 is no end
    case (point_in_time 1 texts (metadata 1 0 129600000000000 86400000000001 []) one) (built []) ∷
    case (point_in_time 1 texts (metadata 1 0 (2 * day_length) 0 []) one) (stopped 10 0 0) ∷
    case (point_in_time 1 texts (metadata 1 0 0 day_length []) one) (stopped 10 0 0) ∷ []

point_in_time_right : All Right point_cases
unfolding point_cases point_in_time texts entry number_text some_digits digits is_digit day_of is_date day_number is_leap month_days days_of_years days_before
point_in_time_right = (refl, (refl, (refl, (refl, (refl, (refl, (refl, (refl, (refl, (refl, (refl, tt)))))))))))
