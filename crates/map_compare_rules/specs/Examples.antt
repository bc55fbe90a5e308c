-- Two tables side by side computed by the definitions: the traps T1 to T20 (docs/TRAPS.md), as one list of tables and one of calls on
-- lent bytes. Assumes nothing.
use Rattle.std.specs.Prelude.{◌≡◌, refl, ℕ, ◌+◌, ◌*◌, ◌/◌, ◌%◌, List, [], ◌∷◌, ◌++◌, length, drop, replicate}
use Rattle.std.proofs.Math.Option.{Option, none, some}
use Rattle.theory.specs.Answer.{Answer, answer}
use Rattle.theory.specs.Runs.{All}
use Rattle.theory.specs.Fields.{field}
use Rattle.map_rules.specs.Table.{Row, Outcome, if_room, room_fits, names_fit, well_formed}
use Rattle.map_rules.specs.Memory.{same_value, row_at, rows_from, bytes_of, row_bytes, rows_bytes, table_fits}
use Rattle.map_rules.specs.Worked.{A, B, C, last, greatest, of, row}
use Rattle.map_compare_rules.specs.Compare.{Difference, Stretches, stretch, compared}
use Rattle.map_compare_rules.specs.Memory.{Value, symbol_in, stretch_bytes, stretches_bytes, compare_outcome, compared_answer, compared_memory}

-- a stretch of an instrument that the left table alone speaks of, the right one alone, both
abbrev left_of : ℕ → ℕ → ℕ → Value → Row (Difference Value)
left_of i a b v = stretch i a b (some v) none

abbrev right_of : ℕ → ℕ → ℕ → Value → Row (Difference Value)
right_of i a b v = stretch i a b none (some v)

abbrev both_of : ℕ → ℕ → ℕ → Value → Value → Row (Difference Value)
both_of i a b u v = stretch i a b (some u) (some v)

-- two tables, and the stretches in which they disagree
record Case : Type 0 where
  left : List (Row Value)
  right : List (Row Value)
  differ : Stretches Value

abbrev case : List (Row Value) → List (Row Value) → Stretches Value → Case
case l r ds = record { left = l; right = r; differ = ds }

abbrev Right : Case → Type 0
Right c = compared same_value c.left c.right ≡ c.differ

cases : List Case
cases =
    -- T1
    case (row 10 20 A ∷ []) (row 10 20 A ∷ []) [] ∷
    -- T2
    case (row 10 20 A ∷ []) [] (left_of 7 10 20 A ∷ []) ∷
    -- T3
    case (row 10 30 A ∷ []) (row 15 18 B ∷ []) (left_of 7 10 15 A ∷ both_of 7 15 18 A B ∷ left_of 7 18 30 A ∷ []) ∷
    -- T4
    case (row 0 10 A ∷ []) (row 0 5 B ∷ row 5 10 C ∷ []) (both_of 7 0 5 A B ∷ both_of 7 5 10 A C ∷ []) ∷
    -- T5
    case (row 0 10 A ∷ row 10 20 B ∷ []) (row 0 20 A ∷ []) (both_of 7 10 20 B A ∷ []) ∷
    -- T6
    case (row 0 10 A ∷ row 10 20 B ∷ []) (row 0 10 B ∷ row 10 20 A ∷ []) (both_of 7 0 10 A B ∷ both_of 7 10 20 B A ∷ []) ∷
    -- T7
    case (row 0 5 A ∷ row 6 10 A ∷ []) (row 0 10 A ∷ []) (right_of 7 5 6 A ∷ []) ∷
    -- T8
    case (of 1 0 5 A ∷ []) (of 2 0 5 A ∷ []) (left_of 1 0 5 A ∷ right_of 2 0 5 A ∷ []) ∷
    -- T9
    case (of 1 10 20 A ∷ of 2 20 30 A ∷ []) [] (left_of 1 10 20 A ∷ left_of 2 20 30 A ∷ []) ∷
    -- T10
    case (row 0 last A ∷ []) (row 0 last B ∷ []) (both_of 7 0 last A B ∷ []) ∷
    -- T11: symbols are numbers, whatever the bytes of their names
    case (row 0 5 0 ∷ []) (row 0 5 1 ∷ []) (both_of 7 0 5 0 1 ∷ []) ∷
    -- T13: one stretch less than two an interval
    case (row 0 3 A ∷ row 4 7 A ∷ []) (row 2 5 B ∷ [])
    (left_of 7 0 2 A ∷ both_of 7 2 3 A B ∷ right_of 7 3 4 B ∷ both_of 7 4 5 A B ∷ left_of 7 5 7 A ∷ []) ∷
    -- T16: one head cut five times
    case (row 0 100 A ∷ []) (row 0 10 A ∷ row 20 30 B ∷ row 40 50 A ∷ [])
    (left_of 7 10 20 A ∷ both_of 7 20 30 A B ∷ left_of 7 30 40 A ∷ left_of 7 50 100 A ∷ []) ∷
    -- T17: the right table goes on alone
    case (row 0 10 A ∷ []) (row 5 10 A ∷ row 10 15 B ∷ row 20 25 A ∷ of 9 0 1 A ∷ [])
    (left_of 7 0 5 A ∷ right_of 7 10 15 B ∷ right_of 7 20 25 A ∷ right_of 9 0 1 A ∷ []) ∷
    -- T19
    case (of 0 0 1 A ∷ of greatest 0 1 A ∷ []) (of greatest 0 1 B ∷ []) (left_of 0 0 1 A ∷ both_of greatest 0 1 A B ∷ []) ∷
    -- T20
    case (row 0 5 A ∷ row 6 10 B ∷ of 9 0 1 C ∷ []) (row 0 5 A ∷ row 6 10 B ∷ of 9 0 1 C ∷ []) [] ∷ []

traps_right : All Right cases
unfolding cases compared
traps_right = (refl, (refl, (refl, (refl, (refl, (refl, (refl, (refl, (refl, (refl, (refl, (refl, (refl, (refl, (refl, (refl, tt))))))))))))))))

-- ---- calls

-- a call on lent bytes: both tables, the numbers in use, the names, and the bytes lent for the list; what it answers and leaves
record Call : Type 0 where
  left : List ℕ
  left_used : ℕ
  right : List ℕ
  right_used : ℕ
  names : ℕ
  lent : List ℕ
  answers : Answer
  leaves : List ℕ

-- tables of which every interval is in use, and 3 names
abbrev call : List (Row Value) → List (Row Value) → List ℕ → Answer → List ℕ → Call
call l r t a q = record {
  left = rows_bytes l;
  left_used = length l;
  right = rows_bytes r;
  right_used = length r;
  names = 3;
  lent = t;
  answers = a;
  leaves = q;
}

-- bytes that hold 9
abbrev nines : ℕ → List ℕ
nines k = replicate k 9

unfoldable outcome : Call → Outcome (Row (Difference Value))
unfolding compare_outcome
outcome c = compare_outcome c.left c.left_used c.right c.right_used c.names c.lent

abbrev Keeps : Call → Type 0
Keeps c = (compared_answer (outcome c) ≡ c.answers) × (compared_memory c.lent (outcome c) ≡ c.leaves)

-- the three stretches of T3; a table that is not well-formed
abbrev three : Stretches Value
three = left_of 7 10 15 A ∷ both_of 7 15 18 A B ∷ left_of 7 18 30 A ∷ []

abbrev bad : List (Row Value)
bad = row 5 5 A ∷ []

calls : List Call
calls =
    -- T1 in room 0
    call (row 10 20 A ∷ []) (row 10 20 A ∷ []) [] (answer 0 (0 ∷ [])) [] ∷
    -- T2 in room 0, and in room 2: the place past the list keeps what it held
    call (row 10 20 A ∷ []) [] [] (answer 2 []) [] ∷
    call (row 10 20 A ∷ []) [] (nines 56) (answer 0 (1 ∷ [])) (stretches_bytes (left_of 7 10 20 A ∷ []) ++ nines 28) ∷
    -- T3 in room 3 and in room 2
    call (row 10 30 A ∷ []) (row 15 18 B ∷ []) (nines 84) (answer 0 (3 ∷ [])) (stretches_bytes three) ∷
    call (row 10 30 A ∷ []) (row 15 18 B ∷ []) (nines 56) (answer 2 []) (nines 56) ∷
    -- T12
    call bad [] (nines 27) (answer 15 []) (nines 27) ∷
    call bad [] (nines 28) (answer 14 []) (nines 28) ∷
    call bad bad [] (answer 14 []) [] ∷
    record { left = []; left_used = 0; right = []; right_used = 0; names = 4097; lent = []; answers = answer 15 []; leaves = [] } ∷
    record { left = []; left_used = 0; right = 0 ∷ []; right_used = 0; names = 0; lent = []; answers = answer 15 []; leaves = [] } ∷
    -- T14
    record {
      left = rows_bytes (row 0 5 A ∷ row 6 10 A ∷ []);
      left_used = 1;
      right = [];
      right_used = 0;
      names = 3;
      lent = nines 28;
      answers = answer 0 (1 ∷ []);
      leaves = stretches_bytes (left_of 7 0 5 A ∷ []);
    } ∷
    -- T15
    call [] bad [] (answer 14 []) [] ∷
    -- T18
    record { left = rows_bytes (row 0 5 2 ∷ []); left_used = 1; right = []; right_used = 0; names = 2; lent = []; answers = answer 14 []; leaves = [] } ∷ []

calls_right : All Keeps calls
unfolding calls outcome compared_answer compared_memory stretches_bytes stretch_bytes symbol_in rows_bytes row_bytes bytes_of rows_from row_at field table_fits room_fits names_fit well_formed if_room compared
calls_right = (
  (refl, refl),
  (
    (refl, refl),
    (
      (refl, refl),
      (
        (refl, refl),
        (
          (refl, refl),
          (
            (refl, refl),
            (
              (refl, refl),
              (
                (refl, refl),
                (
                  (refl, refl),
                  (
                    (refl, refl),
                    ((refl, refl), ((refl, refl), ((refl, refl), tt))),
                  ),
                ),
              ),
            ),
          ),
        ),
      ),
    ),
  ),
)
