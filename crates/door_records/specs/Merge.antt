-- A call of the record merge at the C door: its answer, and what the lent numbers hold afterwards.
use Rattle.std.specs.Prelude.{ℕ, ◌≤◌, ◌≡◌, true, false, List, []}
use Rattle.theory.specs.Answer.{Answer, answer}
use Rattle.records_rules.specs.Machine.{Stream}
use Rattle.records_rules.specs.Machine as machine
use Rattle.records_rules.specs.View.{statuses_of}
use Rattle.records_rules.specs.State.{answer_of, Arrays, fit_in, SoundIn, SaysIn, open_answer, OpenSays}
use Rattle.door_answers.specs.Answers.{number_in, value_in, given_in}
use Rattle.door_answers.specs.Handing.{RecordNumbers, record_numbers, RecordHanded}

-- what a call answers where n streams stand so: what the machine's `next` does
abbrev pub turn_answer : (ℕ → Stream) → ℕ → List ℕ → List ℕ → List ℕ → List ℕ → Answer
turn_answer b n marks times places heads = answer_of (machine.answer (machine.next b (statuses_of n marks times places heads)))

-- the lent numbers of a call
pub record Numbers : Type 0 where
  pub found : ℕ
  pub rest : RecordNumbers

abbrev pub numbers : ℕ → ℕ → ℕ → ℕ → ℕ → ℕ → ℕ → ℕ → Numbers
numbers found stream place long kind instrument time reason =
    record { found = found; rest = record_numbers stream place long kind instrument time reason }

-- a call with this answer returned r, and left these in the lent numbers: a record's are those of the answer, the end's 0; of these 13
-- sets stream, place and reason alone, and 15 none; what is held is the state's
pub record Handed (x : Answer) (r : ℕ) (o o' : Numbers) : Type 0 where
  pub finds : o'.found ≡ given_in o.found 0 x
  pub hands : RecordHanded 2 x r o.rest o'.rest

-- `desk_next`, which returned r: 15 and nothing changed where what is lent is not right; else what the machine says
pub record DeskNext (b : ℕ → Stream) (held : ℕ) (a : Arrays) (o : Numbers) (r held' : ℕ) (a' : Arrays) (o' : Numbers) : Type 0 where
  pub refused : fit_in held a ≡ false → Handed (answer 15 []) r o o' × (held' ≡ held) × (a' ≡ a)
  pub says : fit_in held a ≡ true → (n : ℕ) → n ≤ 256 → SoundIn n held a
      → (let x = turn_answer b n a.marks a.times a.places a.heads in Handed x r o o' × SaysIn b n a x held' a')

-- `desk_open`, which returned r: the numbers of the streams and of those that the heap holds are those of the answer
pub record DeskOpen (buffer cuts hints : List ℕ) (a : Arrays) (streams held r streams' held' : ℕ) (a' : Arrays) : Type 0 where
  pub returns : r ≡ number_in (open_answer buffer cuts hints a)
  pub counts : streams' ≡ value_in streams 0 (open_answer buffer cuts hints a)
  pub holds : held' ≡ value_in held 1 (open_answer buffer cuts hints a)
  pub opens : OpenSays buffer cuts hints a (open_answer buffer cuts hints a) a'
