-- What both builds read of a metadata (RULES, The map over time): the direction, a name's text, a number, a date. Each reading comes to
-- a value or to the refusal that it meets first.
use Rattle.std.specs.Prelude.{ℕ, ◌*◌, ◌/◌, Bool, true, false, cond, List, [], ◌∷◌, ltb, eqb, length, get_or, Result, Ok, Err}
use Rattle.std.specs.Borrow.{Bor}
use Rattle.theory.specs.Answer.{Answer, answer}
use Rattle.leaves_text.specs.NumberText.{number_text}
use Rattle.leaves_days.specs.Days.{day_of}
use Rattle.metadata_rules.specs.Metadata.{Fields}
use Rattle.leaves.specs.Refusal.{number_of}
use Rattle.leaves.specs.declared.refusal.Refusal.{Refusal}
use Rattle.metadata_rules.specs.declared.Interval.{Interval}
use Rattle.metadata_rules.specs.Words.{stretch}
use Rattle.build_rules.specs.declared.reading.Direction.{Direction}
use Rattle.build_rules.specs.declared.reading.Direction.TheVariants.{Forward, Inverse}

-- a value, or the rules' number of a refusal
pub data Read (X : Type 0) : Type 0 where
  fault : ℕ → Read X
  value : X → Read X

-- reading goes on with the value
unfoldable pub and_then : {X Y : Type 0} → Read X → (X → Read Y) → Read Y
and_then (fault c) f = fault c
and_then (value x) f = f x

-- the one value of an answer that is done
unfoldable pub read_of : Answer → Read ℕ
read_of (answer c []) = fault c
read_of (answer c (v ∷ vs)) = cond (eqb c 0) (value v) (fault c)

-- a name that is looked at: 3 where its number was never handed out
unfoldable pub text_of : List (List ℕ) → ℕ → Read (List ℕ)
text_of texts n = cond (ltb n (length texts)) (value (get_or texts n [])) (fault 3)

-- an instrument's number: 8 where the text is not a `u32`
unfoldable pub number_in : List ℕ → Read ℕ
unfolding read_of
number_in text = read_of (number_text text)

-- a date's day: 11
unfoldable pub day_in : ℕ → Read ℕ
unfolding read_of
day_in date = read_of (day_of date)

-- the nanoseconds of a day
abbrev pub day_length : ℕ
day_length = 86400000000000

-- the start of a date's day: 11
unfoldable pub moment_in : ℕ → Read ℕ
unfolding and_then day_in
moment_in date = and_then (day_in date) (λ day. value (day * day_length))

-- whether a text is empty
unfoldable pub is_empty : List ℕ → Bool
is_empty [] = true
is_empty (b ∷ s) = false

-- if `stype_out` is instrument ID, forward; else if `stype_in` is, inverse; else 9; instrument ID is DBN's 0
unfoldable pub direction_by : ℕ → ℕ → Read Direction
direction_by stype_in stype_out = cond (eqb stype_out 0) (value Forward) (cond (eqb stype_in 0) (value Inverse) (fault 9))

unfoldable pub direction_of : Fields → Read Direction
unfolding direction_by
direction_of f = direction_by f.stype_in f.stype_out

-- what a reading's answer says; a text is read where it lies
abbrev pub read_by : {X : Type 0} → Result X Refusal → Read X
read_by (Ok x) = value x
read_by (Err r) = fault (number_of r)

abbrev pub text_by : Result (Bor (List ℕ)) Refusal → Read (List ℕ)
text_by (Ok text) = value text.now
text_by (Err r) = fault (number_of r)

-- ---- the intervals of a mapping, of which the words stand alone

abbrev pub intervals_in : List ℕ → List Interval
intervals_in v = stretch v 0 (length v / 3)
