-- An explanation over lent bytes (RULES, Requests, No. 4): the table is that of the map over time. Its answer is 0 with the reason's
-- number and, for each interval that it names, the interval's number within the instrument, start, end and symbol; or a refusal.
use Rattle.std.specs.Prelude.{ℕ, ◌+◌, ◌*◌, ◌≤◌, Bool, ◌&&◌, cond, List, [], ◌∷◌, ◌++◌, length, ltb, eqb}
use Rattle.theory.specs.Answer.{Answer, answer}
use Rattle.theory.specs.Runs.{Interval}
use Rattle.map_rules.specs.Table.{Ordered, names_fit, well_formed}
use Rattle.map_rules.specs.Memory.{same_value, known_value, width, row_at, rows, table_fits}
use Rattle.map_rules.specs.Looks.{Begun, Reach}
use Rattle.map_explain.specs.Reason.{Reason, in_one, unknown, before, after, between, explained_rows}
use Rattle.map_explain.specs.declared.explain.Named.{Named}
use Rattle.map_explain.specs.declared.explain.Explained.{Explained}
use Rattle.map_explain.specs.declared.explain.Explained.TheVariants.{In, Unknown, Before, After, Between}

-- what an interval says: a symbol number
abbrev pub Value : Type 0
Value = ℕ

-- the numbers of an instrument's interval number k
abbrev pub numbers_of : ℕ → Interval Value → List ℕ
numbers_of k x = k ∷ x.start ∷ x.end ∷ x.value ∷ []

-- a reason as an answer: 1 in, 2 unknown, 3 before, 4 after, 5 between
unfoldable pub reason_answer : Reason Value → Answer
reason_answer (in_one k x) = answer 0 (1 ∷ numbers_of k x)
reason_answer unknown = answer 0 (2 ∷ [])
reason_answer (before x) = answer 0 (3 ∷ numbers_of 0 x)
reason_answer (after k x) = answer 0 (4 ∷ numbers_of k x)
reason_answer (between k x y) = answer 0 (5 ∷ numbers_of k x ++ numbers_of (k + 1) y)

-- the answer in a table that was checked
abbrev pub rows_answer : List ℕ → ℕ → ℕ → ℕ → Answer
rows_answer t used i m = reason_answer (explained_rows (rows t used) i m)

-- the answer: 15, 14, else the reason
unfoldable pub explain_answer : List ℕ → ℕ → ℕ → ℕ → ℕ → Answer
explain_answer t used names i m =
    cond (table_fits (length t) used && names_fit names)
    (cond (well_formed same_value known_value names (rows t used)) (rows_answer t used i m) (answer 14 []))
    (answer 15 [])

-- the numbers of a named interval
abbrev pub named_of : Named → List ℕ
named_of x = x.index ∷ x.start ∷ x.end ∷ x.symbol ∷ []

-- the numbers of an explanation: the reason's, and those of each interval that it names
abbrev pub explained_values : Explained → List ℕ
explained_values (In x) = 1 ∷ named_of x
explained_values Unknown = 2 ∷ []
explained_values (Before x) = 3 ∷ named_of x
explained_values (After x) = 4 ∷ named_of x
explained_values (Between x y) = 5 ∷ named_of x ++ named_of y

-- an explanation's answer in the rules' terms
abbrev pub explained_of : Explained → Answer
explained_of e = answer 0 (explained_values e)

-- the place k holds one of the `used` intervals, of the instrument
unfoldable pub own_at : List ℕ → ℕ → ℕ → ℕ → Bool
own_at t used k i = ltb k used && eqb (row_at t k).instrument i

-- a table that was checked
pub record InOrder (t : List ℕ) (used : ℕ) : Type 0 where
  pub fits : used * width ≤ length t
  pub few : used ≤ 65536
  pub order : Ordered (rows t used)

-- the instrument's intervals begin at `begin`, and the first that the moment does not reach is at `end`
pub record Placed (t : List ℕ) (used i m begin end : ℕ) : Type 0 where
  pub table : InOrder t used
  pub begins : Begun t used i begin 0
  pub reaches : Reach t used i m end end
  pub within : end ≤ used
