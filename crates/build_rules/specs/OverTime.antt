-- The build over time (RULES, The map over time): mappings and intervals in order, each interval an insert into a table that was empty;
-- the first fault met decides.
use Rattle.std.specs.Prelude.{ℕ, ◌+◌, cond, List, [], ◌∷◌, length, Option, Some, None, Result, Ok, Err}
use Rattle.theory.specs.Answer.{Answer, answer}
use Rattle.leaves.specs.Refusal.{number_of}
use Rattle.leaves.specs.declared.refusal.Refusal.{Refusal}
use Rattle.map_rules.specs.Table.{Row, Outcome, refused_by, stored, entered}
use Rattle.map_rules.specs.Memory.{same_value, known_value}
use Rattle.metadata_rules.specs.declared.Interval.{Interval}
use Rattle.metadata_rules.specs.Metadata.{Mapping, Metadata}
use Rattle.build_rules.specs.Reading.{Read, fault, value, and_then, text_of, number_in, moment_in, is_empty, direction_of}
use Rattle.build_rules.specs.declared.reading.Direction.{Direction}
use Rattle.build_rules.specs.declared.reading.Direction.TheVariants.{Forward, Inverse}

-- what a mapping or an interval asks for: a refusal's number, nothing, or an entry
pub data Step (X : Type 0) : Type 0 where
  stop : ℕ → Step X
  skip : Step X
  give : X → Step X

-- what a call asks for, by its answer: an entry; or an entry, or nothing
abbrev pub give_by : {X Y : Type 0} → (X → Y) → Result X Refusal → Step Y
give_by f (Ok x) = give (f x)
give_by f (Err r) = stop (number_of r)

abbrev pub step_by : {X Y : Type 0} → (X → Y) → Result (Option X) Refusal → Step Y
step_by f (Ok (Some x)) = give (f x)
step_by f (Ok None) = skip
step_by f (Err r) = stop (number_of r)

-- a reading that comes before the step
unfoldable pub reading : {X Y : Type 0} → Read X → (X → Step Y) → Step Y
reading (fault c) f = stop c
reading (value x) f = f x

-- "An empty interval symbol is skipped"
unfoldable pub unless_empty : {X : Type 0} → List ℕ → Step X → Step X
unfolding is_empty
unless_empty text s = cond (is_empty text) skip s

-- an interval's row: 11 for its start, then for its end
unfoldable pub dated : ℕ → ℕ → Interval → Step (Row ℕ)
unfolding reading moment_in
dated instrument symbol x =
    reading (moment_in x.start) (λ a.
    reading (moment_in x.end) (λ b. give (record { instrument = instrument; start = a; end = b; value = symbol })))

-- the interval's symbol is the number and the mapping's name the symbol: 3, the skip, 8, 11, 11
unfoldable pub forward_step : List (List ℕ) → ℕ → Interval → Step (Row ℕ)
unfolding reading text_of unless_empty number_in dated
forward_step texts name x = reading (text_of texts x.symbol) (λ text. unless_empty text (reading (number_in text) (λ i. dated i name x)))

-- the other way round, the mapping's name being the number of an instrument: 3, the skip, 11, 11
unfoldable pub inverse_step : List (List ℕ) → ℕ → Interval → Step (Row ℕ)
unfolding reading text_of unless_empty dated
inverse_step texts instrument x = reading (text_of texts x.symbol) (λ text. unless_empty text (dated instrument x.symbol x))

-- a step's outcome on a table of this room, where so many names are known: an insert's own order is 1, start = end, 3, 2
unfoldable pub taken : ℕ → ℕ → Step (Row ℕ) → List (Row ℕ) → Outcome (Row ℕ)
taken names room (stop c) rows = refused_by c
taken names room skip rows = stored rows
taken names room (give n) rows = entered same_value known_value names room n rows

-- what a build comes to: a fault with its refusal's number, met at a mapping and an interval of it, or the entries
pub data Build (X : Type 0) : Type 0 where
  stopped : ℕ → ℕ → ℕ → Build X
  built : List X → Build X

-- a build goes on with what was stored, or stops at this mapping and interval
unfoldable pub onward : {X : Type 0} → ℕ → ℕ → (List X → Build X) → Outcome X → Build X
onward t k go (refused_by c) = stopped c t k
onward t k go (stored xs) = go xs

-- and with what the mappings before came to
unfoldable pub further : {X : Type 0} → (List X → Build X) → Build X → Build X
further go (stopped c t k) = stopped c t k
further go (built xs) = go xs

-- the intervals of the mapping of number t, from number k on, each by its step, onto these rows
unfoldable pub lay_intervals : ℕ → ℕ → (Interval → Step (Row ℕ)) → ℕ → ℕ → List Interval → List (Row ℕ) → Build (Row ℕ)
unfolding taken onward
lay_intervals names room step t k [] rows = built rows
lay_intervals names room step t k (x ∷ xs) rows = onward t k (lay_intervals names room step t (k + 1) xs) (taken names room (step x) rows)

-- an inverse mapping whose name was read
unfoldable pub lay_read : ℕ → List (List ℕ) → ℕ → List Interval → List (Row ℕ) → Read ℕ → Build (Row ℕ)
unfolding lay_intervals inverse_step
lay_read room texts t xs rows (fault c) = stopped c t 0
lay_read room texts t xs rows (value instrument) = lay_intervals (length texts) room (inverse_step texts instrument) t 0 xs rows

-- the mapping of number t: inverse, "the mapping's name is read before its intervals (3, 8), even when there are none"
unfoldable pub lay_mapping : ℕ → List (List ℕ) → Direction → ℕ → Mapping → List (Row ℕ) → Build (Row ℕ)
unfolding lay_intervals forward_step lay_read and_then text_of number_in
lay_mapping room texts Forward t m rows = lay_intervals (length texts) room (forward_step texts m.name) t 0 m.intervals rows
lay_mapping room texts Inverse t m rows = lay_read room texts t m.intervals rows (and_then (text_of texts m.name) number_in)

-- the mappings from number t on, onto these rows
unfoldable pub lay_mappings : ℕ → List (List ℕ) → Direction → ℕ → List Mapping → List (Row ℕ) → Build (Row ℕ)
unfolding lay_mapping further
lay_mappings room texts d t [] rows = built rows
lay_mappings room texts d t (m ∷ ms) rows = further (lay_mappings room texts d (t + 1) ms) (lay_mapping room texts d t m rows)

-- the build: 9, then the mappings onto an empty table
unfoldable pub directed : ℕ → List (List ℕ) → List Mapping → Read Direction → Build (Row ℕ)
unfolding lay_mappings
directed room texts ms (fault c) = stopped c 0 0
directed room texts ms (value d) = lay_mappings room texts d 0 ms []

unfoldable pub over_time : ℕ → List (List ℕ) → Metadata → Build (Row ℕ)
unfolding directed direction_of
over_time room texts m = directed room texts m.mappings (direction_of m.fields)

-- what a build answers: the refusal's number, or how many entries the table has
unfoldable pub build_answer : {X : Type 0} → Build X → Answer
build_answer (stopped c t k) = answer c []
build_answer (built xs) = answer 0 (length xs ∷ [])
