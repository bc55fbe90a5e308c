-- A comparison over lent bytes (RULES, Requests, No. 1): the tables are those of the map over time, and a stretch takes 28 bytes,
-- little-endian: instrument 4, left symbol 4, right symbol 4, start 8, end 8. Nothing is 4294967295.
use Rattle.std.specs.Prelude.{◌≡◌, ℕ, ◌+◌, ◌*◌, ◌/◌, ◌%◌, ◌<◌, Bool, not, ◌&&◌, ◌||◌, cond, List, [], ◌∷◌, ◌++◌, length, drop, eqb}
use Rattle.std.proofs.Math.Option.{Option, none, some}
use Rattle.theory.specs.Answer.{Answer, answer}
use Rattle.theory.specs.Fields.{field, put_field}
use Rattle.map_rules.specs.Table.{Row, Outcome, refused_by, stored, if_room, names_fit, well_formed}
use Rattle.map_rules.specs.Memory.{same_value, known_value, rows, bytes_of, table_fits}
use Rattle.map_compare_rules.specs.Compare.{Difference, Stretches, compared}

-- what an interval says: a symbol number
abbrev pub Value : Type 0
Value = ℕ

-- the bytes of a stretch
abbrev pub stretch_width : ℕ
stretch_width = 28

-- no symbol on this side; no name has this number
abbrev pub nothing : ℕ
nothing = 4294967295

-- a side's four bytes as a number, and back
unfoldable pub symbol_in : Option Value → ℕ
symbol_in none = nothing
symbol_in (some v) = v

unfoldable pub symbol_of : ℕ → Option Value
symbol_of n = cond (eqb n nothing) none (some n)

-- the stretch at place i
unfoldable pub stretch_at : List ℕ → ℕ → Row (Difference Value)
unfolding symbol_of
stretch_at t i = record {
  instrument = field 4 t (i * stretch_width);
  start = field 8 t (i * stretch_width + 12);
  end = field 8 t (i * stretch_width + 20);
  value = record { left = symbol_of (field 4 t (i * stretch_width + 4)); right = symbol_of (field 4 t (i * stretch_width + 8)) };
}

-- the memory with the stretch d at place i
unfoldable pub put_stretch : List ℕ → ℕ → Row (Difference Value) → List ℕ
put_stretch t i d =
    let o = i * stretch_width in
    put_field 8 (put_field 8 (put_field 4 (put_field 4 (put_field 4 t o d.instrument) (o + 4) (symbol_in d.value.left))
    (o + 8) (symbol_in d.value.right)) (o + 12) d.start) (o + 20) d.end

-- the bytes of a stretch, and of stretches
unfoldable pub stretch_bytes : Row (Difference Value) → List ℕ
stretch_bytes d =
    bytes_of 4 d.instrument ++ (bytes_of 4 (symbol_in d.value.left) ++ (bytes_of 4 (symbol_in d.value.right)
    ++ (bytes_of 8 d.start ++ bytes_of 8 d.end)))

unfoldable pub stretches_bytes : Stretches Value → List ℕ
stretches_bytes [] = []
stretches_bytes (d ∷ ds) = stretch_bytes d ++ stretches_bytes ds

-- what is lent is two tables and a list, by the lengths of their memory, the numbers in use, and the name count, which is one for both;
-- where not, 15
unfoldable pub compare_fits : ℕ → ℕ → ℕ → ℕ → ℕ → ℕ → Bool
compare_fits left-long left_used right-long right_used names long =
    (table_fits left-long left_used && names_fit names) && ((table_fits right-long right_used && names_fit names) && eqb (long % stretch_width) 0)

-- both tables pass the check
unfoldable pub both_formed : List ℕ → ℕ → List ℕ → ℕ → ℕ → Bool
both_formed left left_used right right_used names =
    well_formed same_value known_value names (rows left left_used) && well_formed same_value known_value names (rows right right_used)

-- the stretches in which two tables in bytes disagree
abbrev pub stretches_of : List ℕ → ℕ → List ℕ → ℕ → Stretches Value
stretches_of left left_used right right_used = compared same_value (rows left left_used) (rows right right_used)

-- the outcome of a comparison into the memory t: 15, 14, then 2 for the whole list
unfoldable pub compare_outcome : List ℕ → ℕ → List ℕ → ℕ → ℕ → List ℕ → Outcome (Row (Difference Value))
unfolding compare_fits both_formed
compare_outcome left left_used right right_used names t =
    cond (compare_fits (length left) left_used (length right) right_used names (length t))
    (cond (both_formed left left_used right right_used names)
    (if_room (length t / stretch_width) (stretches_of left left_used right right_used)) (refused_by 14)) (refused_by 15)

-- what a comparison answers: the refusal's number, or 0 and the number of stretches
unfoldable pub compared_answer : Outcome (Row (Difference Value)) → Answer
compared_answer (refused_by c) = answer c []
compared_answer (stored ds) = answer 0 (length ds ∷ [])

-- the list's memory after it: a refusal leaves it as at entry; places past the list keep what they held
unfoldable pub compared_memory : List ℕ → Outcome (Row (Difference Value)) → List ℕ
compared_memory t (refused_by c) = t
compared_memory t (stored ds) = stretches_bytes ds ++ drop (length ds * stretch_width) t

-- a call with this outcome gave this answer and left this memory
pub record Compares (o : Outcome (Row (Difference Value))) (t : List ℕ) (a : Answer) (t' : List ℕ) : Type 0 where
  pub answers : a ≡ compared_answer o
  pub memory : t' ≡ compared_memory t o

-- laid one after another from place k on
unfoldable pub lay_stretches : List ℕ → ℕ → Stretches Value → List ℕ
lay_stretches t k [] = t
lay_stretches t k (d ∷ ds) = lay_stretches (put_stretch t k d) (k + 1) ds
