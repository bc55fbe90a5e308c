-- The point-in-time table (RULES, The map over time): "sorted by instrument, each once, known symbols". The record or the build
-- "sets the instrument's entry", "a later entry for one instrument replaces the earlier one"; "its lookup takes the instrument
-- alone; its length counts entries".
use Rattle.std.specs.Prelude.{Option as Found, Some, None, ℕ, ◌/◌, ◌%◌, Bool, true, ◌&&◌, cond, List, [], ◌∷◌, length, ltb, leb, eqb}
use Rattle.std.proofs.Math.Option.{Option, none, some}
use Rattle.theory.specs.Answer.{Answer, answer}
use Rattle.leaves.specs.Refusal.{refused}
use Rattle.leaves.specs.declared.refusal.Refusal.TheVariants.{NoRoom, IllFormed, BadMemory}
use Rattle.map_rules.specs.Table.{room_fits, names_fit}
use Rattle.map_point.specs.Entries.{entries, put_entries}
use Rattle.map_point.specs.declared.entries.Entry.{Entry}

-- ---- lists of entries

-- x may stand before these: the next is of a higher instrument
unfoldable pub ahead : Entry → List Entry → Bool
ahead x [] = true
ahead x (y ∷ ys) = ltb x.instrument y.instrument

-- sorted by instrument, each once: the order part of well-formed
unfoldable pub rising : List Entry → Bool
unfolding ahead
rising [] = true
rising (x ∷ xs) = ahead x xs && rising xs

-- the other part: every symbol number is known, where so many names are
unfoldable pub all_known : ℕ → List Entry → Bool
all_known names [] = true
all_known names (x ∷ xs) = ltb x.symbol names && all_known names xs

-- well-formed
unfoldable pub well_formed : ℕ → List Entry → Bool
unfolding rising all_known
well_formed names xs = rising xs && all_known names xs

-- an instrument's symbol: that of its first entry, else nothing
unfoldable pub symbol_for : ℕ → List Entry → Option ℕ
symbol_for i [] = none
symbol_for i (x ∷ xs) = cond (eqb x.instrument i) (some x.symbol) (symbol_for i xs)

-- an instrument's entry set: it replaces the earlier one, or stands before the first of a higher instrument
unfoldable pub set_entry : Entry → List Entry → List Entry
set_entry x [] = x ∷ []
set_entry x (y ∷ ys) =
    let rest = set_entry x ys in
    cond (ltb y.instrument x.instrument) (y ∷ rest)
    (cond (ltb x.instrument y.instrument) (x ∷ y ∷ ys) (x ∷ ys))

-- ---- calls

-- a length that is a multiple of 8, a room within the limit, and no more in use than the room; 15 where not (RULES, Numbers the
-- desk lives by)
unfoldable pub points_fit : ℕ → ℕ → Bool
points_fit bytes used = eqb (bytes % 8) 0 && room_fits (bytes / 8) used

-- the check's answer: 15; 14 unless the table is well-formed; done
unfoldable pub points_checked : List ℕ → ℕ → ℕ → Answer
unfolding points_fit well_formed
points_checked t used names =
    cond (points_fit (length t) used && names_fit names)
    (cond (well_formed names (entries t used)) (answer 0 []) (refused IllFormed))
    (refused BadMemory)

-- the answer that is a symbol or nothing
abbrev pub symbol_answer : Option ℕ → Answer
symbol_answer none = answer 0 []
symbol_answer (some symbol) = answer 0 (symbol ∷ [])

-- the lookup's answer: 15; the instrument's symbol, or nothing
unfoldable pub point_found : List ℕ → ℕ → ℕ → Answer
unfolding points_fit symbol_for
point_found t used i = cond (points_fit (length t) used) (symbol_answer (symbol_for i (entries t used))) (refused BadMemory)

-- the values of what a lookup finds: a symbol, or nothing
abbrev pub symbol_values : Found ℕ → List ℕ
symbol_values None = []
symbol_values (Some symbol) = symbol ∷ []

-- whether an outcome fits the room of a table's bytes
unfoldable pub has_room : List ℕ → List Entry → Bool
has_room t out = leb (length out) (length t / 8)

-- the answer of a call that stores an outcome: 2 if it would not fit the room; its length
unfoldable pub stored_answer : List ℕ → List Entry → Answer
unfolding has_room
stored_answer t out = cond (has_room t out) (answer 0 (length out ∷ [])) (refused NoRoom)

-- what the table holds then: the outcome from the front, every other byte as it was; after 2 what it held
unfoldable pub stored_bytes : List ℕ → List Entry → List ℕ
unfolding has_room
stored_bytes t out = cond (has_room t out) (put_entries t 0 out) t

-- how many entries are in use then, and which: the outcome; after 2 those before
unfoldable pub used_then : List ℕ → ℕ → List Entry → ℕ
unfolding has_room
used_then t used out = cond (has_room t out) (length out) used

unfoldable pub entries_then : List ℕ → ℕ → List Entry → List Entry
unfolding has_room
entries_then t used out = cond (has_room t out) out (entries t used)
