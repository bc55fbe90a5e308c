-- The table in lent bytes (RULES, The map over time: "24 an interval, little-endian: instrument 4, symbol 4, start 8, end 8"):
-- its rows, and the memory that an accepted insert leaves.
use Rattle.std.specs.Prelude.{ℕ, zero, suc, ◌+◌, ◌-◌, ◌*◌, ◌/◌, ◌%◌, ◌<◌, max, ◌≡◌, Bool, ◌&&◌, cond, List, [], ◌∷◌, ◌++◌, length, drop, replicate, ltb, eqb}
use Rattle.theory.specs.Fields.{field, put_field}
use Rattle.theory.specs.Answer.{Answer, answer}
use Rattle.map_rules.specs.Table.{Row, Outcome, refused_by, stored, now_stored, room_fits, names_fit, well_formed, inserted}

-- two values are the same: symbol numbers are equal (RULES, Names, numbers, days, 4: "names are equal when their numbers are")
abbrev pub same_value : ℕ → ℕ → Bool
same_value u v = eqb u v

-- a symbol number is known where so many names were handed out
abbrev pub known_value : ℕ → ℕ → Bool
known_value names v = ltb v names

-- the bytes of an interval
abbrev pub width : ℕ
width = 24

-- the row at place i
unfoldable pub row_at : List ℕ → ℕ → Row ℕ
row_at t i = record {
  instrument = field 4 t (i * width);
  start = field 8 t (i * width + 8);
  end = field 8 t (i * width + 16);
  value = field 4 t (i * width + 4);
}

-- the memory with the row x at place i
unfoldable pub put_row : List ℕ → ℕ → Row ℕ → List ℕ
put_row t i x =
    put_field 8 (put_field 8 (put_field 4 (put_field 4 t (i * width) x.instrument) (i * width + 4) x.value) (i * width + 8) x.start)
    (i * width + 16) x.end

-- a row whose fields fit their bytes
pub record Fit (x : Row ℕ) : Type 0 where
  pub instrument_fits : x.instrument < 4294967296
  pub value_fits : x.value < 4294967296
  pub start_fits : x.start < 18446744073709551616
  pub end_fits : x.end < 18446744073709551616

-- the n rows from place k on
unfoldable pub rows_from : List ℕ → ℕ → ℕ → List (Row ℕ)
rows_from t k zero = []
rows_from t k (suc n) = row_at t k ∷ rows_from t (suc k) n

-- the first n rows: a table with n in use
abbrev pub rows : List ℕ → ℕ → List (Row ℕ)
rows t n = rows_from t 0 n

-- the intervals that the memory holds
abbrev pub room_of : List ℕ → ℕ
room_of t = length t / width

-- the bytes of a number, the lowest first
unfoldable pub bytes_of : ℕ → ℕ → List ℕ
bytes_of zero v = []
bytes_of (suc w) v = v % 256 ∷ bytes_of w (v / 256)

-- the bytes of a row
unfoldable pub row_bytes : Row ℕ → List ℕ
row_bytes x = bytes_of 4 x.instrument ++ (bytes_of 4 x.value ++ (bytes_of 8 x.start ++ bytes_of 8 x.end))

-- the bytes of rows
unfoldable pub rows_bytes : List (Row ℕ) → List ℕ
rows_bytes [] = []
rows_bytes (x ∷ xs) = row_bytes x ++ rows_bytes xs

-- lent memory of this length may be a table with so many in use: its length is a multiple of 24, and they fit its room; 15 where not
unfoldable pub table_fits : ℕ → ℕ → Bool
table_fits long used = eqb (long % width) 0 && room_fits (long / width) used

-- the outcome of an insert into lent memory: 15 for an odd length, else as rows
unfoldable pub insert_outcome : List ℕ → ℕ → ℕ → Row ℕ → Outcome (Row ℕ)
insert_outcome t used names n = cond (eqb (length t % width) 0) (inserted same_value known_value names (room_of t) n (rows t used)) (refused_by 15)

-- the check's answer: 15, else 0 exactly for well-formed tables, else 14
unfoldable pub check_answer : List ℕ → ℕ → ℕ → Answer
check_answer t used names =
    cond (table_fits (length t) used && names_fit names)
    (cond (well_formed same_value known_value names (rows t used)) (answer 0 []) (answer 14 []))
    (answer 15 [])

-- the memory once the rows ys stand where `used` rows stood: the rows, 0 in the places that were freed, the rest as it was
unfoldable pub rows_written : List ℕ → ℕ → List (Row ℕ) → List ℕ
rows_written t used ys = rows_bytes ys ++ (replicate ((used - length ys) * width) 0 ++ drop (max used (length ys) * width) t)

-- the memory after an outcome: a refusal leaves it as at entry
unfoldable pub memory_after : List ℕ → ℕ → Outcome (Row ℕ) → List ℕ
memory_after t used (refused_by c) = t
memory_after t used (stored ys) = rows_written t used ys

-- what the insert answers: the refusal's number, or 0 and the new length
unfoldable pub outcome_answer : Outcome (Row ℕ) → Answer
outcome_answer (refused_by c) = answer c []
outcome_answer (stored ys) = answer 0 (length ys ∷ [])

-- the number in use after an outcome
unfoldable pub used_after : ℕ → Outcome (Row ℕ) → ℕ
used_after used (refused_by c) = used
used_after used (stored ys) = length ys

-- a call with this outcome gave this answer and left this memory: the answer and the whole memory are the outcome's, and so
-- are the rows
pub record Gives (o : Outcome (Row ℕ)) (t : List ℕ) (used : ℕ) (a : Answer) (t' : List ℕ) : Type 0 where
  pub answers : a ≡ outcome_answer o
  pub memory : t' ≡ memory_after t used o
  pub holds : rows t' (used_after used o) ≡ now_stored (rows t used) o
