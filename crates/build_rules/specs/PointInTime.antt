-- The point-in-time build (RULES, The map over time): of each mapping the first interval that covers the asked day counts; a later entry
-- for one instrument replaces the earlier one.
use Rattle.std.specs.Prelude.{ℕ, ◌+◌, ◌*◌, ◌/◌, Bool, not, ◌&&◌, ◌||◌, cond, List, [], ◌∷◌, leb, ltb, eqb}
use Rattle.map_point.specs.declared.entries.Entry.{Entry}
use Rattle.map_point.specs.Points.{set_entry}
use Rattle.map_rules.specs.Table.{Outcome, refused_by, stored, if_room}
use Rattle.metadata_rules.specs.declared.Interval.{Interval}
use Rattle.metadata_rules.specs.Metadata.{Fields, Mapping, Metadata}
use Rattle.build_rules.specs.Reading.{Read, fault, value, text_of, number_in, day_in, day_length, direction_of}
use Rattle.build_rules.specs.declared.reading.Direction.{Direction}
use Rattle.build_rules.specs.declared.reading.Direction.TheVariants.{Forward, Inverse}
use Rattle.build_rules.specs.OverTime.{Step, stop, skip, give, reading, unless_empty, Build, stopped, built, onward}

-- which interval of a mapping counts for a day: a date before it that is none (11), none does, or the one of this number
pub data Counted : Type 0 where
  undated : ℕ → Counted
  none : Counted
  counts : ℕ → Interval → Counted

-- the number k with its dates read: the first interval with start <= day < end counts, else a later one
unfoldable pub counts_from : ℕ → ℕ → Interval → Read ℕ → Read ℕ → Counted → Counted
counts_from day k x (fault c) b later = undated k
counts_from day k x (value a) (fault c) later = undated k
counts_from day k x (value a) (value b) later = cond (leb a day && ltb day b) (counts k x) later

-- "Dates are read in order, both of each interval, up to the interval that counts, 11 at the first bad one": from number k on
unfoldable pub counting : ℕ → ℕ → List Interval → Counted
unfolding day_in counts_from
counting day k [] = none
counting day k (x ∷ xs) = counts_from day k x (day_in x.start) (day_in x.end) (counting day (k + 1) xs)

-- which text is the number: the interval's symbol, or the mapping's name
unfoldable pub number_side : Direction → List ℕ → List ℕ → List ℕ
number_side Forward symbol name = symbol
number_side Inverse symbol name = name

-- the entry of an instrument: the other side is the symbol
unfoldable pub entry_of : Direction → ℕ → ℕ → ℕ → Entry
entry_of Forward instrument symbol name = record { instrument = instrument; symbol = name }
entry_of Inverse instrument symbol name = record { instrument = instrument; symbol = symbol }

-- of the interval that counts: 3 for its symbol, the skip, 3 for the mapping's name, 8
unfoldable pub point_step : List (List ℕ) → Direction → ℕ → Counted → Step Entry
unfolding reading text_of unless_empty number_in number_side entry_of
point_step texts d name (undated k) = stop 11
point_step texts d name none = skip
point_step texts d name (counts k x) =
    reading (text_of texts x.symbol) (λ symbol.
    unless_empty symbol (
    reading (text_of texts name) (λ mapped.
    reading (number_in (number_side d symbol mapped)) (λ i. give (entry_of d i x.symbol name)))))

-- the interval's number that goes with a fault
unfoldable pub place_of : Counted → ℕ
place_of (undated k) = k
place_of none = 0
place_of (counts k x) = k

-- a step's outcome on a table of this room: 2
unfoldable pub point_taken : ℕ → Step Entry → List Entry → Outcome Entry
unfolding if_room set_entry
point_taken room (stop c) es = refused_by c
point_taken room skip es = stored es
point_taken room (give e) es = if_room room (set_entry e es)

-- one mapping's outcome
unfoldable pub pick_mapping : ℕ → List (List ℕ) → Direction → ℕ → Mapping → List Entry → Outcome Entry
unfolding point_step counting point_taken
pick_mapping room texts d day m es = point_taken room (point_step texts d m.name (counting day 0 m.intervals)) es

-- the mappings from number t on, onto these entries
unfoldable pub pick_mappings : ℕ → List (List ℕ) → Direction → ℕ → ℕ → List Mapping → List Entry → Build Entry
unfolding pick_mapping counting place_of onward
pick_mappings room texts d day t [] es = built es
pick_mappings room texts d day t (m ∷ ms) es =
    onward t (place_of (counting day 0 m.intervals)) (pick_mappings room texts d day (t + 1) ms) (pick_mapping room texts d day m es)

-- 10 if the day is before the start's day, or an end exists and the day's start is not before it; an end of 0 is a missing one
unfoldable pub outside_query : Fields → ℕ → Bool
outside_query f day = ltb day (f.start / day_length) || (not (eqb f.end 0) && leb f.end (day * day_length))

-- 9, then 10, then the mappings onto an empty table
unfoldable pub on_day : ℕ → List (List ℕ) → Metadata → Read Direction → ℕ → Build Entry
unfolding outside_query pick_mappings
on_day room texts m (fault c) day = stopped c 0 0
on_day room texts m (value d) day = cond (outside_query m.fields day) (stopped 10 0 0) (pick_mappings room texts d day 0 m.mappings [])

-- the build for an asked date: 11 for it first
unfoldable pub asked : ℕ → List (List ℕ) → Metadata → Read ℕ → Build Entry
unfolding on_day direction_of
asked room texts m (fault c) = stopped c 0 0
asked room texts m (value day) = on_day room texts m (direction_of m.fields) day

unfoldable pub point_in_time : ℕ → List (List ℕ) → Metadata → ℕ → Build Entry
unfolding asked day_in
point_in_time room texts m date = asked room texts m (day_in date)

-- the step once the mapping's name is read, and before it is
unfoldable pub number_step : Direction → ℕ → ℕ → List ℕ → List ℕ → Step Entry
unfolding reading number_in number_side entry_of
number_step d name n symbol mapped = reading (number_in (number_side d symbol mapped)) (λ i. give (entry_of d i n name))

unfoldable pub name_step : List (List ℕ) → Direction → ℕ → ℕ → List ℕ → Step Entry
unfolding reading text_of number_step
name_step texts d name n symbol = reading (text_of texts name) (number_step d name n symbol)

-- a number that was read, and the other side's name: the entry, or 8
unfoldable pub numbered : ℕ → Read ℕ → Step Entry
unfolding reading
numbered v r = reading r (λ i. give (record { instrument = i; symbol = v }))
