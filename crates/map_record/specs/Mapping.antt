-- The mapping call: what a record's bytes leave of a table and a name list (RULES, The map over time: "A symbol mapping record
-- inserts"; Merging records: "The mapping call takes a record's bytes").
use Rattle.std.specs.Prelude.{◌≡◌, ℕ, ◌+◌, Bool, true, false, cond, List, [], ◌∷◌, length, set}
use Rattle.theory.specs.Answer.{Answer, answer}
use Rattle.leaves.specs.Refusal.{refused}
use Rattle.leaves.specs.declared.refusal.Refusal.TheVariants.{NoRoom}
use Rattle.leaves.specs.Frame.{mapped_in, name_in}
use Rattle.leaves_names.specs.Names.{name_written}
use Rattle.map_rules.specs.Table.{Row, Outcome, refused_by, stored, if_room, insert_rows, well_formed as wellFormedRows}
use Rattle.map_rules.specs.Memory.{same_value, known_value, rows, room_of, table_fits, rows_written}
use Rattle.map_point.specs.Entries.{entries, put_entries}
use Rattle.map_point.specs.Points.{well_formed, set_entry, points_fit, has_room}
use Rattle.map_point.specs.declared.entries.Entry.{Entry}
use Rattle.map_plan.specs.Wanted.{Wanted, nothing, refuses, stores, wanted, judged}
use Rattle.leaves.specs.declared.refusal.Refusal.{Refusal}
use Rattle.leaves_names.specs.Room.{SameMemory}
use Rattle.leaves_names.specs.declared.names.NameRoom.{NameRoom}

-- ---- what is wanted

-- a call on a table over time: 15 for all lent memory, 14 for table and list, then what the record asks
unfoldable pub time_judged : List ℕ → ℕ → List ℕ → List ℕ → ℕ → ℕ → List ℕ → Wanted
unfolding wanted judged
time_judged t used bytes ends names name_bytes record' =
    judged (table_fits (length t) used) (wellFormedRows same_value known_value names (rows t used)) bytes ends names name_bytes
    (wanted true bytes ends names name_bytes (name_in record') (mapped_in record'))

-- and on a point-in-time table
unfoldable pub point_judged : List ℕ → ℕ → List ℕ → List ℕ → ℕ → ℕ → List ℕ → Wanted
unfolding wanted judged
point_judged t used bytes ends names name_bytes record' =
    judged (points_fit (length t) used) (well_formed names (entries t used)) bytes ends names name_bytes
    (wanted false bytes ends names name_bytes (name_in record') (mapped_in record'))

-- ---- what comes of the table

-- the call is refused; or the table holds these, in these bytes, and the name joins the list or not
pub data Comes (X : Type 0) : Type 0 where
  refusing : Answer → Comes X
  holding : List X → List ℕ → Bool → Comes X

-- the row of a symbol mapping
abbrev pub mapping_row : ℕ → ℕ → ℕ → ℕ → Row ℕ
mapping_row instrument start end number = record { instrument = instrument; start = start; end = end; value = number }

-- the outcome on a table over time: "a symbol mapping record inserts", or 2
unfoldable pub time_outcome : List ℕ → ℕ → ℕ → ℕ → ℕ → ℕ → Outcome (Row ℕ)
time_outcome t used instrument start end number =
    if_room (room_of t) (insert_rows same_value (mapping_row instrument start end number) (rows t used))

-- "The name joins the list only when the interval is stored"
abbrev pub outcome_comes : List ℕ → ℕ → Bool → Outcome (Row ℕ) → Comes (Row ℕ)
outcome_comes t used new (refused_by c) = refusing (answer c [])
outcome_comes t used new (stored ys) = holding ys (rows_written t used ys) new

unfoldable pub time_comes : List ℕ → ℕ → Wanted → Comes (Row ℕ)
unfolding time_outcome
time_comes t used nothing = holding (rows t used) t false
time_comes t used (refuses a) = refusing a
time_comes t used (stores instrument start end number new) = outcome_comes t used new (time_outcome t used instrument start end number)

-- the entries once an instrument has a symbol: "a symbol mapping record sets the instrument's entry"
unfoldable pub point_outcome : List ℕ → ℕ → ℕ → ℕ → List Entry
point_outcome t used instrument number = set_entry (record { instrument = instrument; symbol = number }) (entries t used)

-- 2 if the outcome would not fit the room, "the name joining only when done"
unfoldable pub point_comes : List ℕ → ℕ → Wanted → Comes Entry
unfolding point_outcome
point_comes t used nothing = holding (entries t used) t false
point_comes t used (refuses a) = refusing a
point_comes t used (stores instrument start end number new) =
    let out = point_outcome t used instrument number in
    cond (has_room t out) (holding out (put_entries t 0 out) new) (refusing (refused NoRoom))

-- ---- what is left

-- whether the name of what is wanted is new
abbrev pub joins_in : Wanted → Bool
joins_in nothing = false
joins_in (refuses a) = false
joins_in (stores instrument start end number new) = new

-- how many names, and how many bytes of them, are in use once a name has joined or not
abbrev pub names_then : Bool → ℕ → ℕ
names_then joins names = cond joins (names + 1) names

abbrev pub name_bytes_then : Bool → ℕ → List ℕ → ℕ
name_bytes_then joins name_bytes name = cond joins (name_bytes + length name) name_bytes

-- the list's bytes and ends: the new name's after those in use, or as at entry
unfoldable pub bytes_then : Bool → List ℕ → ℕ → List ℕ → List ℕ
bytes_then joins bytes name_bytes name = cond joins (name_written bytes name_bytes name) bytes

unfoldable pub ends_then : Bool → List ℕ → ℕ → ℕ → List ℕ → List ℕ
ends_then joins ends names name_bytes name = cond joins (set ends names (name_bytes + length name)) ends

-- what a call leaves: its answer, the table's bytes, the name list's bytes and ends
pub record Left : Type 0 where
  pub says : Answer
  pub table : List ℕ
  pub bytes : List ℕ
  pub ends : List ℕ

-- a refusal leaves all as at entry; a done call tells how many are in use in the table, the names and the name bytes
unfoldable pub left_by : {X : Type 0} → List ℕ → List ℕ → List ℕ → ℕ → ℕ → List ℕ → Comes X → Left
unfolding bytes_then ends_then
left_by t bytes ends names name_bytes name (refusing a) = record { says = a; table = t; bytes = bytes; ends = ends }
left_by t bytes ends names name_bytes name (holding xs t' joins) = record {
  says = answer 0 (length xs ∷ names_then joins names ∷ name_bytes_then joins name_bytes name ∷ []);
  table = t';
  bytes = bytes_then joins bytes name_bytes name;
  ends = ends_then joins ends names name_bytes name;
}

unfoldable pub time_left : List ℕ → ℕ → List ℕ → List ℕ → ℕ → ℕ → List ℕ → Left
unfolding time_comes time_judged left_by
time_left t used bytes ends names name_bytes record' =
    left_by t bytes ends names name_bytes (name_in record') (time_comes t used (time_judged t used bytes ends names name_bytes record'))

unfoldable pub point_left : List ℕ → ℕ → List ℕ → List ℕ → ℕ → ℕ → List ℕ → Left
unfolding point_comes point_judged left_by
point_left t used bytes ends names name_bytes record' =
    left_by t bytes ends names name_bytes (name_in record') (point_comes t used (point_judged t used bytes ends names name_bytes record'))

-- how many are in use in the table then, and which
abbrev pub used_by : {X : Type 0} → ℕ → Comes X → ℕ
used_by used (refusing a) = used
used_by used (holding xs t joins) = length xs

abbrev pub held_by : {X : Type 0} → List X → Comes X → List X
held_by xs (refusing a) = xs
held_by xs (holding ys t joins) = ys

-- whether a name joins the list
abbrev pub joins_by : {X : Type 0} → Comes X → Bool
joins_by (refusing a) = false
joins_by (holding xs t joins) = joins

abbrev pub time_joins : List ℕ → ℕ → NameRoom → List ℕ → Bool
time_joins t used s record' = joins_by (time_comes t used (time_judged t used s.bytes.now s.ends.now s.names s.name_bytes record'))

abbrev pub point_joins : List ℕ → ℕ → NameRoom → List ℕ → Bool
point_joins t used s record' = joins_by (point_comes t used (point_judged t used s.bytes.now s.ends.now s.names s.name_bytes record'))

-- a name has joined a list that is lent, or not
pub record Joins (joins : Bool) (s : NameRoom) (name : List ℕ) (t : NameRoom) : Type 0 where
  pub bytes : t.bytes.now ≡ bytes_then joins s.bytes.now s.name_bytes name
  pub ends : t.ends.now ≡ ends_then joins s.ends.now s.names s.name_bytes name
  pub names : t.names ≡ names_then joins s.names
  pub name_bytes : t.name_bytes ≡ name_bytes_then joins s.name_bytes name
  pub memory : SameMemory s t

-- a call gave this answer and left this memory: they are what it leaves, and the table's are those that it comes to
pub record Leaves {X : Type 0} (read : List ℕ → ℕ → List X) (comes : Comes X) (left : Left) (t : List ℕ) (used : ℕ) (a : Answer) (t' b' e' : List ℕ) : Type 0 where
  pub says : a ≡ left.says
  pub table : t' ≡ left.table
  pub bytes : b' ≡ left.bytes
  pub ends : e' ≡ left.ends
  pub holds : read t' (used_by used comes) ≡ held_by (read t used) comes

abbrev pub TimeLeaves : List ℕ → ℕ → List ℕ → List ℕ → ℕ → ℕ → List ℕ → Answer → List ℕ → List ℕ → List ℕ → Type 0
TimeLeaves t used bytes ends names name_bytes record' a t' b' e' =
    Leaves rows (time_comes t used (time_judged t used bytes ends names name_bytes record')) (time_left t used bytes ends names name_bytes record') t used a t' b' e'

abbrev pub PointLeaves : List ℕ → ℕ → List ℕ → List ℕ → ℕ → ℕ → List ℕ → Answer → List ℕ → List ℕ → List ℕ → Type 0
PointLeaves t used bytes ends names name_bytes record' a t' b' e' =
    Leaves entries (point_comes t used (point_judged t used bytes ends names name_bytes record')) (point_left t used bytes ends names name_bytes record') t used a t' b' e'

-- a step that refuses is what the call comes to, and leaves the table; one that is done leaves what the call comes to
pub record Keeps {X : Type 0} (read : List ℕ → ℕ → List X) (comes : Comes X) (new : Bool) (t : List ℕ) (a : Answer) (t' : List ℕ) : Type 0 where
  pub refused_so : (r : Refusal) → refused r ≡ a → (comes ≡ refusing (refused r)) × (t' ≡ t)
  pub done_so : (used : ℕ) → answer 0 (used ∷ []) ≡ a → comes ≡ holding (read t' used) t' new
