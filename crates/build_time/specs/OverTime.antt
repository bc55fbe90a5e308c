-- The build over time in lent memory (RULES, The map over time): what it answers, and what the table then holds. Refusals in order: 15
-- for table, metadata and list, 14 for the list alone, then as the build.
use Rattle.std.specs.Prelude.{ℕ, ◌*◌, ◌≤◌, cond, List, [], length, replicate, ◌≡◌, T, Result, Ok}
use Rattle.theory.specs.Answer.{Answer, one_value}
use Rattle.leaves.specs.Refusal.{answer_with}
use Rattle.leaves.specs.declared.refusal.Refusal.{Refusal}
use Rattle.leaves_names.specs.Names.{names_of, well_formed}
use Rattle.metadata_rules.specs.declared.Interval.{Interval}
use Rattle.map_rules.specs.Table.{Row, Outcome, stored, well_formed as wellFormedRows}
use Rattle.map_rules.specs.Memory.{room_of, table_fits, rows_written, width, same_value, known_value, rows, outcome_answer}
use Rattle.metadata_form.specs.declared.header.Header.{Header}
use Rattle.metadata_form.specs.Header.{Lists, lengths_of, metadata_of}
use Rattle.build_rules.specs.OverTime.{Step, reading, dated, forward_step, inverse_step, Build, stopped, built, over_time, build_answer}
use Rattle.build_rules.specs.Reading.{Read, value, and_then, text_of, number_in}
use Rattle.build_rules.specs.declared.reading.Direction.{Direction}
use Rattle.build_rules.specs.declared.reading.Direction.TheVariants as direction
use Rattle.build_rules.specs.Call.{build_fits}
use Rattle.build_time.specs.declared.over_time.Way.{Way}
use Rattle.build_time.specs.declared.over_time.Way.TheVariants.{Forward, Inverse}

-- ---- steps

-- the step of each interval of a mapping
abbrev pub way_step : List (List ℕ) → Way → Interval → Step (Row ℕ)
way_step texts (Forward name) = forward_step texts name
way_step texts (Inverse instrument) = inverse_step texts instrument

-- and once its symbol is read and not empty
abbrev pub way_filled : Way → Interval → List ℕ → Step (Row ℕ)
way_filled (Forward name) x text = reading (number_in text) (λ i. dated i name x)
way_filled (Inverse instrument) x text = dated instrument x.symbol x

-- how a mapping's intervals are read: inverse, its name is read first
abbrev pub way_for : List (List ℕ) → Direction → ℕ → Read Way
way_for texts direction.Forward name = value (Forward name)
way_for texts direction.Inverse name = and_then (and_then (text_of texts name) number_in) (λ i. value (Inverse i))

-- ---- the call

-- the build: 15, 14, then as its metadata says
unfoldable pub over_time_build : List ℕ → Header → Lists → List ℕ → List ℕ → ℕ → ℕ → Build (Row ℕ)
unfolding build_fits
over_time_build table h l bytes ends names name_bytes =
    cond (build_fits (table_fits (length table) 0) h (lengths_of l) l.mappings (length bytes) (length ends) names name_bytes)
    (cond (well_formed bytes ends names name_bytes) (over_time (room_of table) (names_of bytes ends names) (metadata_of h l)) (stopped 14 0 0))
    (stopped 15 0 0)

-- what it answers
unfoldable pub over_time_answer : List ℕ → Header → Lists → List ℕ → List ℕ → ℕ → ℕ → Answer
unfolding over_time_build build_answer
over_time_answer table h l bytes ends names name_bytes = build_answer (over_time_build table h l bytes ends names name_bytes)

-- the memory of so many bytes after a build: the intervals, and 0 in every other place; refused, 0 in every place
unfoldable pub built_memory : ℕ → Build (Row ℕ) → List ℕ
built_memory long (stopped c t k) = replicate long 0
built_memory long (built ys) = rows_written (replicate long 0) 0 ys

-- what the table holds then
unfoldable pub over_time_memory : List ℕ → Header → Lists → List ℕ → List ℕ → ℕ → ℕ → List ℕ
unfolding over_time_build built_memory
over_time_memory table h l bytes ends names name_bytes = built_memory (length table) (over_time_build table h l bytes ends names name_bytes)

-- the rows that stand there: a refused build leaves none
unfoldable pub built_rows : Build (Row ℕ) → List (Row ℕ)
built_rows (stopped c t k) = []
built_rows (built ys) = ys

unfoldable pub over_time_rows : List ℕ → Header → Lists → List ℕ → List ℕ → ℕ → ℕ → List (Row ℕ)
unfolding over_time_build built_rows
over_time_rows table h l bytes ends names name_bytes = built_rows (over_time_build table h l bytes ends names name_bytes)

-- a table of whole places with so many in use: well-formed, where so many names are known, and 0 in every other place
pub record Holds (names : ℕ) (t : List ℕ) (used : ℕ) : Type 0 where
  pub whole : length t ≡ room_of t * width
  pub in_use : used ≤ room_of t
  pub formed : T (wellFormedRows same_value known_value names (rows t used))
  pub memory : t ≡ rows_written (replicate (length t) 0) 0 (rows t used)

-- one step had this outcome: the answer is the outcome's, and where it is done the table holds the outcome's rows
pub record Took (names : ℕ) (o : Outcome (Row ℕ)) (r : Result ℕ Refusal) (t' : List ℕ) : Type 0 where
  pub answers : answer_with one_value r ≡ outcome_answer o
  pub on : (used : ℕ) → r ≡ Ok used → (o ≡ stored (rows t' used)) × Holds names t' used

-- and a stretch of the build
pub record Lays (names : ℕ) (b : Build (Row ℕ)) (r : Result ℕ Refusal) (t' : List ℕ) : Type 0 where
  pub answers : answer_with one_value r ≡ build_answer b
  pub on : (used : ℕ) → r ≡ Ok used → (b ≡ built (rows t' used)) × Holds names t' used

-- the whole build: its answer, all the memory of so many bytes, and the rows that stand there
pub record Leaves (b : Build (Row ℕ)) (long : ℕ) (r : Result ℕ Refusal) (t' : List ℕ) : Type 0 where
  pub answers : answer_with one_value r ≡ build_answer b
  pub memory : t' ≡ built_memory long b
  pub stands : rows t' (length (built_rows b)) ≡ built_rows b
