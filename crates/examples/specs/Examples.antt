-- RULES, Examples on each side: M1 to M12 as one list of data, and one theorem: the definitions that the contracts cite
-- give what each example says, on lent memory where a call has some. Assumes nothing.
use Rattle.std.specs.Prelude.{◌≡◌, refl, ℕ, ◌+◌, ◌-◌, ◌*◌, false, List, [], ◌∷◌, ◌++◌, map, length, replicate}
use Rattle.std.proofs.Common.{inl, inr}
use Rattle.theory.specs.Answer.{Answer, answer}
use Rattle.theory.specs.Runs.{Mem}
use Rattle.theory.specs.Fields.{field}
use Rattle.leaves_text.specs.NumberText.{is_digit, digits, some_digits, number_text}
use Rattle.leaves_days.specs.Calendar.{is_leap, month_days, days_of_years, days_before, is_date, day_number}
use Rattle.leaves_days.specs.Days.{day_of}
use Rattle.leaves.specs.Frame.{frame_at}
use Rattle.map_rules.specs.Table.{Row, Outcome, inserted}
use Rattle.map_rules.specs.Memory.{width, row_at, rows_from, rows, bytes_of, row_bytes, rows_bytes, table_fits, insert_outcome, rows_written, memory_after, outcome_answer, used_after}
use Rattle.map_rules.specs.Lookup.{lookup_rows}
use Rattle.map_rules.specs.Looks.{said_answer, lookup_answer}
use Rattle.metadata_rules.specs.Metadata as merging
use Rattle.metadata_rules.specs.Words.{before, mappings_from, mapping_words, interval_words}
use Rattle.metadata_form.specs.declared.header.Header.{Header}
use Rattle.metadata_form.specs.Header.{Lists, lists, metadata_of, metadata_fits}
use Rattle.metadata_words.specs.Over.{over}
use Rattle.metadata_form.specs.Header.{numbers_of}
use Rattle.metadata_merge.specs.Merger.{both_fit, merge_answer, merge_lists}
use Rattle.records_rules.specs.Machine.{answers_f, start}
use Rattle.records_rules.specs.Bytes.{streams_of}
use Rattle.records_rules.specs.State.{answer_of, arrays_fit, right_streams, padded, opening}
use Rattle.records_rules.specs.Examples.{short}

-- ---- calls

-- a call; those on a table are for instrument 7
pub data Call : Type 0 where
  insert : ℕ → ℕ → ℕ → Call  -- start, end, symbol
  look : ℕ → Call  -- moment; the hint is 0
  stored : Call  -- the intervals that the table holds
  number : List ℕ → Call  -- a text
  day : ℕ → Call  -- a date
  merge : Lists → Lists → Call  -- two metadata
  replay : ℕ → List ℕ → List ℕ → Call  -- the opening of a buffer with these cuts and no hints, and so many calls behind it

-- what a call gives: an answer; the rows of a table; an answer and what the lent lists then hold; the answers of several calls
pub data Result : Type 0 where
  says : Answer → Result
  holds : List (Row ℕ) → Result
  lays : Answer → Lists → Result
  tells : List Answer → Result

-- the table that an example's calls are about: lent bytes, and the intervals in use
pub record Table : Type 0 where
  pub bytes : List ℕ
  pub used : ℕ

-- two names are known
abbrev A : ℕ
A = 0

abbrev B : ℕ
B = 1

abbrev names : ℕ
names = 2

abbrev row : ℕ → ℕ → ℕ → Row ℕ
row a b s = record { instrument = 7; start = a; end = b; value = s }

-- the header of a metadata with one mapping and no entries
abbrev header : Header
header = record {
  version = 3;
  dataset = A;
  schema = 0;
  start = 0;
  end = 0;
  limit = 0;
  stype_in = 1;
  stype_out = 0;
  ts_out = false;
  symbol_cstr_len = 71;
  symbols = 0;
  partial = 0;
  not_found = 0;
  mappings = 1;
}

-- the outcome of an insert
abbrev outcome : Table → ℕ → ℕ → ℕ → Outcome (Row ℕ)
outcome t a b s = insert_outcome t.bytes t.used names (row a b s)

-- what a call gives on a table
unfoldable pub result : Table → Call → Result
result t (insert a b s) = says (outcome_answer (outcome t a b s))
result t (look m) = says (lookup_answer t.bytes t.used 7 m 0)
result t stored = holds (rows t.bytes t.used)
result t (number s) = says (number_text s)
result t (day d) = says (day_of d)
result t (merge l r) = lays (merge_answer names header l header r) (merge_lists names header l header r)
result t (replay n b cuts) =
    tells
    (opening (arrays_fit 0 256 256 256 256 256) (right_streams (length b) cuts 0) (length cuts - 1)
    ∷ map answer_of (answers_f n (streams_of b cuts) (start (padded (length cuts - 1) []))))

-- the table after an outcome, and after a call
abbrev changed : Table → Outcome (Row ℕ) → Table
changed t o = record { bytes = memory_after t.bytes t.used o; used = used_after t.used o }

unfoldable pub after : Table → Call → Table
after t (insert a b s) = changed t (outcome t a b s)
after t (look m) = t
after t stored = t
after t (number s) = t
after t (day d) = t
after t (merge l r) = t
after t (replay n b cuts) = t

-- ---- examples

-- a call, and what it is to give
pub data Step : Type 0 where
  ◌⇒◌ : Call → Result → Step

infix 68 ◌⇒◌
unfoldable pub call_of : Step → Call
call_of (c ⇒ g) = c

unfoldable pub expected : Step → Result
expected (c ⇒ g) = g

-- calls one after the other, on an empty table with room for so many intervals
pub record Example : Type 0 where
  pub room : ℕ
  pub steps : List Step

abbrev example : ℕ → List Step → Example
example n ss = record { room = n; steps = ss }

-- what calls give, one after the other
unfoldable pub results_from : Table → List Step → List Result
unfolding result after call_of
results_from t [] = []
results_from t (s ∷ ss) = result t (call_of s) ∷ results_from (after t (call_of s)) ss

unfoldable pub gives : Example → List Result
unfolding results_from
gives x = results_from (record { bytes = replicate (x.room * width) 0; used = 0 }) x.steps

unfoldable pub said : Example → List Result
unfolding expected
said x = map expected x.steps

-- ---- the twelve

-- done with a number, and a refusal with nothing
abbrev done : ℕ → Result
done n = says (answer 0 (n ∷ []))

abbrev refused : ℕ → Result
refused c = says (answer c [])

-- a lookup's answers, each with the new hint 0
abbrev nothing : Result
nothing = says (answer 0 (0 ∷ []))

abbrev symbol : ℕ → Result
symbol s = says (answer 0 (0 ∷ s ∷ []))

-- 8, with the place at which no reading could go on
abbrev stuck : ℕ → Result
stuck p = says (answer 8 (p ∷ []))

-- the words of an interval from one day since 1970-01-01 to another, in January, and of an unused place
abbrev span : ℕ → ℕ → ℕ → List ℕ
span a b s = (19700101 + a) ∷ (19700101 + b) ∷ s ∷ []

abbrev unused : List ℕ
unused = 0 ∷ 0 ∷ 0 ∷ []

-- a metadata's lists: one mapping, of the name A, with so many intervals of these words
abbrev mapped : ℕ → List ℕ → Lists
mapped n v = lists [] [] [] (A ∷ n ∷ []) v

-- a record that was handed out: stream, place and time
abbrev out : ℕ → ℕ → ℕ → Answer
out p a t = answer 0 (p ∷ a ∷ 16 ∷ 1 ∷ 7 ∷ t ∷ [])

-- "Insert [10,20)A", "then [20,30)A", "then [15,18)B"
abbrev one : List Step
one = insert 10 20 A ⇒ done 1 ∷ []

abbrev two : List Step
two = one ++ insert 20 30 A ⇒ done 1 ∷ []

abbrev three : List Step
three = two ++ insert 15 18 B ⇒ done 3 ∷ []

-- the rules' examples, in their order
unfoldable pub examples : List Example
unfolding short
examples =
    -- M1
    example 4 (one ++ look 9 ⇒ nothing ∷ look 10 ⇒ symbol A ∷ look 19 ⇒ symbol A ∷ look 20 ⇒ nothing ∷ [])
    -- M2
    ∷ example 4 (two ++ stored ⇒ holds (row 10 30 A ∷ []) ∷ [])
    -- M3
    ∷ example 4 (three ++ stored ⇒ holds (row 10 15 A ∷ row 15 18 B ∷ row 18 30 A ∷ []) ∷ [])
    -- M4
    ∷ example 4 (three ++ insert 15 18 A ⇒ done 1 ∷ stored ⇒ holds (row 10 30 A ∷ []) ∷ [])
    -- M5
    ∷ example 1 (
    insert 10 30 A ⇒ done 1
    ∷ insert 15 18 B ⇒ refused 2
    ∷ stored ⇒ holds (row 10 30 A ∷ [])
    ∷ insert 0 40 B ⇒ done 1
    ∷ stored ⇒ holds (row 0 40 B ∷ [])
    ∷ [])
    -- M6
    ∷ example 1 (insert 5 5 A ⇒ done 0 ∷ insert 6 5 A ⇒ refused 1 ∷ [])
    -- M7: `+7`, `007`; `+`, empty, `4294967296`
    ∷ example 0 (
    number (43 ∷ 55 ∷ []) ⇒ done 7
    ∷ number (48 ∷ 48 ∷ 55 ∷ []) ⇒ done 7
    ∷ number (43 ∷ []) ⇒ stuck 1
    ∷ number [] ⇒ stuck 0
    ∷ number (52 ∷ 50 ∷ 57 ∷ 52 ∷ 57 ∷ 54 ∷ 55 ∷ 50 ∷ 57 ∷ 54 ∷ []) ⇒ stuck 9
    ∷ [])
    -- M8
    ∷ example 0 (day 20000229 ⇒ done 11016 ∷ day 21000229 ⇒ refused 11 ∷ [])
    -- M9
    ∷ example 0 (day 19691231 ⇒ refused 11 ∷ day 25540722 ⇒ refused 11 ∷ [])
    -- M10
    ∷ example 0 (
    merge (mapped 1 (span 1 10 A ++ unused)) (mapped 2 (span 1 5 A ++ span 5 10 A))
    ⇒ lays (answer 0 (numbers_of header)) (mapped 2 (span 1 10 A ++ span 5 10 A))
    ∷ [])
    -- M11
    ∷ example 0 (merge (mapped 1 (span 1 5 A)) (mapped 1 (span 1 5 B)) ⇒ lays (answer 7 []) (mapped 1 (span 1 5 A)) ∷ [])
    -- M12
    ∷ example 0 (
    replay 5 (short 5 ++ short 5 ++ short 5 ++ short 4) (0 ∷ 32 ∷ 64 ∷ [])
    ⇒ tells (answer 0 (2 ∷ 2 ∷ []) ∷ out 0 0 5 ∷ out 0 16 5 ∷ out 1 0 5 ∷ out 1 16 4 ∷ answer 0 [] ∷ [])
    ∷ [])
    ∷ []

twelve : length examples ≡ 12
unfolding examples
twelve = refl

-- two functions that agree on a list taken whole agree on each of it
agree : {X Y : Type 0} (f g : X → Y) (xs : List X) → map f xs ≡ map g xs → (x : X) → Mem x xs → f x ≡ g x
agree f g [] e x m = absurd m
agree f g (y ∷ ys) e x (inl d) = let h : f y ≡ g y = cc in rw d h
agree f g (y ∷ ys) e x (inr m) = let h : map f ys ≡ map g ys = cc in agree f g ys h x m

-- each of the twelve gives what it says
pub every_holds : (x : Example) → Mem x examples → gives x ≡ said x
unfolding gives said examples outcome_answer insert_outcome inserted table_fits memory_after rows_written rows_bytes row_bytes bytes_of used_after rows_from
    row_at field lookup_answer said_answer lookup_rows number_text some_digits digits is_digit day_of is_date is_leap month_days day_number days_of_years days_before
    merge_answer merge_lists both_fit metadata_fits metadata_of mappings_from before mapping_words interval_words over merging.merge answers_f start
    padded opening arrays_fit right_streams streams_of frame_at
every_holds = agree gives said examples refl
