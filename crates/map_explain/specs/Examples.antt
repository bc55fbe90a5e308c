-- Explanations computed by the definitions: the traps E1 to E15 (docs/TRAPS.md), as one list of questions and one of calls on lent bytes.
-- Assumes nothing.
use Rattle.std.specs.Prelude.{◌≡◌, refl, ℕ, List, [], ◌∷◌}
use Rattle.std.proofs.Math.Option.{some}
use Rattle.theory.specs.Answer.{Answer, answer}
use Rattle.theory.specs.Runs.{All, interval}
use Rattle.theory.specs.Fields.{field}
use Rattle.map_rules.specs.Table.{Row, room_fits, names_fit, well_formed}
use Rattle.map_rules.specs.Memory.{row_at, rows_from, bytes_of, row_bytes, rows_bytes, table_fits}
use Rattle.map_rules.specs.Worked.{A, B, C, last, greatest, of, row}
use Rattle.map_explain.specs.Reason.{Reason, in_one, unknown, before, after, between, explained_rows, said_by}
use Rattle.map_explain.specs.Explain.{Value, reason_answer, explain_answer}

-- a question about a table, and the reason
record Case : Type 0 where
  table : List (Row Value)
  instrument : ℕ
  moment : ℕ
  told : Reason Value

abbrev case : List (Row Value) → ℕ → ℕ → Reason Value → Case
case xs i m r = record { table = xs; instrument = i; moment = m; told = r }

abbrev Right : Case → Type 0
Right c = explained_rows c.table c.instrument c.moment ≡ c.told

-- tables of the traps
abbrev one : List (Row Value)
one = row 10 20 A ∷ []

abbrev two : List (Row Value)
two = row 10 20 A ∷ row 30 40 B ∷ []

abbrev apart : List (Row Value)
apart = of 1 10 20 A ∷ of 3 5 8 B ∷ []

cases : List Case
cases =
    -- E1
    case [] 7 5 unknown ∷
    -- E2
    case one 7 9 (before (interval 10 20 A)) ∷
    case one 7 10 (in_one 0 (interval 10 20 A)) ∷
    case one 7 19 (in_one 0 (interval 10 20 A)) ∷
    case one 7 20 (after 0 (interval 10 20 A)) ∷
    -- E3
    case (row 10 20 A ∷ row 20 30 B ∷ []) 7 20 (in_one 1 (interval 20 30 B)) ∷
    -- E4
    case two 7 20 (between 0 (interval 10 20 A) (interval 30 40 B)) ∷
    case two 7 29 (between 0 (interval 10 20 A) (interval 30 40 B)) ∷
    case two 7 30 (in_one 1 (interval 30 40 B)) ∷
    -- E5: the neighbours are other instruments'
    case apart 2 15 unknown ∷
    case apart 1 25 (after 0 (interval 10 20 A)) ∷
    case apart 3 4 (before (interval 5 8 B)) ∷
    case apart 3 5 (in_one 0 (interval 5 8 B)) ∷
    -- E6, E7
    case (row 0 last A ∷ []) 7 last (after 0 (interval 0 last A)) ∷
    case (row 0 5 A ∷ []) 7 0 (in_one 0 (interval 0 5 A)) ∷
    -- E9
    case two 0 15 unknown ∷
    case two greatest 15 unknown ∷
    -- E12: one symbol on both sides of a gap
    case (row 10 20 A ∷ row 30 40 A ∷ []) 7 25 (between 0 (interval 10 20 A) (interval 30 40 A)) ∷
    -- E13
    case (row 10 20 A ∷ row 20 30 B ∷ row 40 50 C ∷ []) 7 35 (between 1 (interval 20 30 B) (interval 40 50 C)) ∷
    -- E14
    case (of greatest 10 20 A ∷ []) greatest 25 (after 0 (interval 10 20 A)) ∷
    case (of greatest 10 20 A ∷ []) 4294967294 5 unknown ∷ []

traps_right : All Right cases
unfolding cases explained_rows
traps_right = (refl, (refl, (refl, (refl, (refl, (refl, (refl, (refl, (refl, (refl, (refl, (refl, (refl, (refl, (refl, (refl, (refl, (refl, (refl, (refl, (refl, tt)))))))))))))))))))))

-- E11: symbol 0 is a symbol
symbol_0 : said_by (explained_rows (row 10 20 0 ∷ []) 7 15) ≡ some 0
unfolding explained_rows said_by
symbol_0 = refl

-- ---- calls

-- a call on lent bytes: the table, the number in use, the names, the question; what it answers
record Call : Type 0 where
  lent : List ℕ
  used : ℕ
  names : ℕ
  instrument : ℕ
  moment : ℕ
  answers : Answer

abbrev call : List ℕ → ℕ → ℕ → ℕ → ℕ → Answer → Call
call t used names i m a = record { lent = t; used = used; names = names; instrument = i; moment = m; answers = a }

abbrev Keeps : Call → Type 0
Keeps c = explain_answer c.lent c.used c.names c.instrument c.moment ≡ c.answers

calls : List Call
calls =
    -- the five reasons
    call (rows_bytes two) 2 3 7 15 (answer 0 (1 ∷ 0 ∷ 10 ∷ 20 ∷ A ∷ [])) ∷
    call (rows_bytes two) 2 3 9 15 (answer 0 (2 ∷ [])) ∷
    call (rows_bytes two) 2 3 7 5 (answer 0 (3 ∷ 0 ∷ 10 ∷ 20 ∷ A ∷ [])) ∷
    call (rows_bytes two) 2 3 7 40 (answer 0 (4 ∷ 1 ∷ 30 ∷ 40 ∷ B ∷ [])) ∷
    call (rows_bytes two) 2 3 7 25 (answer 0 (5 ∷ 0 ∷ 10 ∷ 20 ∷ A ∷ 1 ∷ 30 ∷ 40 ∷ B ∷ [])) ∷
    -- E1 in room 0
    call [] 0 0 7 5 (answer 0 (2 ∷ [])) ∷
    -- E8: 14 comes before unknown, 15 before 14
    call (rows_bytes (row 5 5 A ∷ [])) 1 3 9 5 (answer 14 []) ∷
    call (rows_bytes (row 10 20 3 ∷ [])) 1 3 7 15 (answer 14 []) ∷
    call (rows_bytes one) 2 3 7 15 (answer 15 []) ∷
    call (rows_bytes (row 5 5 A ∷ [])) 1 4097 7 15 (answer 15 []) ∷
    call (0 ∷ []) 0 3 7 15 (answer 15 []) ∷
    -- E10: the unused interval is not seen
    call (rows_bytes two) 1 3 7 25 (answer 0 (4 ∷ 0 ∷ 10 ∷ 20 ∷ A ∷ [])) ∷ []

calls_right : All Keeps calls
unfolding calls explain_answer reason_answer explained_rows rows_bytes row_bytes bytes_of rows_from row_at field table_fits room_fits names_fit well_formed
calls_right = (refl, (refl, (refl, (refl, (refl, (refl, (refl, (refl, (refl, (refl, (refl, (refl, tt))))))))))))
