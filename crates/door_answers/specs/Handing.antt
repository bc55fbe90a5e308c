-- The next answer of a merge at the C door: what the lent numbers of a record and of damage hold afterwards.
use Rattle.std.specs.Prelude.{ℕ, ◌+◌, ◌≡◌}
use Rattle.theory.specs.Answer.{Answer}
use Rattle.door_answers.specs.Answers.{number_in, value_in, damage_in, either_in}

-- the lent numbers that take them
pub record RecordNumbers : Type 0 where
  pub stream : ℕ
  pub place : ℕ
  pub long : ℕ
  pub kind : ℕ
  pub instrument : ℕ
  pub time : ℕ
  pub reason : ℕ

abbrev pub record_numbers : ℕ → ℕ → ℕ → ℕ → ℕ → ℕ → ℕ → RecordNumbers
record_numbers stream place long kind instrument time reason =
    record { stream = stream; place = place; long = long; kind = kind; instrument = instrument; time = time; reason = reason }

-- a call with this answer returned r, and left these in the lent numbers: stream and place are a done call's first two values, the
-- record's length, kind, instrument and time its values from the k-th on, and 0 what it has not; 13 sets stream, place and reason alone,
-- and another refusal none
pub record RecordHanded (k : ℕ) (x : Answer) (r : ℕ) (o o' : RecordNumbers) : Type 0 where
  pub returns : r ≡ number_in x
  pub streams : o'.stream ≡ either_in o.stream 0 x
  pub places : o'.place ≡ either_in o.place 1 x
  pub lengths : o'.long ≡ value_in o.long k x
  pub kinds : o'.kind ≡ value_in o.kind (k + 1) x
  pub instruments : o'.instrument ≡ value_in o.instrument (k + 2) x
  pub times : o'.time ≡ value_in o.time (k + 3) x
  pub reasons : o'.reason ≡ damage_in o.reason 2 x
