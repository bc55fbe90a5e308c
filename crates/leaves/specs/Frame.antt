-- A record's frame (RULES, Merging records).
use Rattle.std.specs.Prelude.{ℕ, Option, Some, None, Result, Ok, Err, ◌+◌, ◌-◌, cond, ◌||◌, List, [], ◌∷◌, length, drop, eqb, ltb}
use Rattle.theory.specs.Answer.{Answer, answer}
use Rattle.theory.specs.Fields.{field}
use Rattle.leaves.specs.Refusal.{reason_number, refused}
use Rattle.leaves.specs.declared.frame.Head.{Head}
use Rattle.leaves.specs.declared.frame.Mapping.{Mapping}
use Rattle.leaves.specs.declared.refusal.Reason.{Reason}
use Rattle.leaves.specs.declared.refusal.Refusal.{Refusal}

-- what stands at a place of a stream's bytes: a record with its length, kind, instrument and time; the end; or damage with its reason
pub data Read : Type 0 where
  whole : ℕ → ℕ → ℕ → ℕ → Read
  ended : Read
  damaged : ℕ → Read

-- "with 0 bytes left the stream ends"; else 13 with reason 1 "fewer than 16 bytes left", 2 "length outside 16 to 1,024", 3 "length past the end"
unfoldable pub judged : ℕ → ℕ → Read → Read
judged left size r =
    cond (eqb left 0) ended
    (cond (ltb left 16) (damaged 1)
    (cond (ltb size 16 || ltb 1024 size) (damaged 2)
    (cond (ltb left size) (damaged 3) r)))

-- "all numbers little-endian: whole length (2 bytes), kind (2), instrument (4), timestamp (8), then the body"
unfoldable pub record_at : List ℕ → ℕ → Read
record_at b place = whole (field 2 b place) (field 2 b (place + 2)) (field 4 b (place + 4)) (field 8 b (place + 8))

-- what stands at a place of a stream's bytes
unfoldable pub frame_at : List ℕ → ℕ → Read
unfolding judged record_at
frame_at b place = judged (length b - place) (field 2 b place) (record_at b place)

-- its answer: 13 with the reason where it is damage, and done with the record's numbers or with nothing else
abbrev pub read_of : Read → Answer
read_of (whole size kind instrument time) = answer 0 (size ∷ kind ∷ instrument ∷ time ∷ [])
read_of ended = answer 0 []
read_of (damaged reason) = answer 13 (reason ∷ [])

-- what a read that found a record, the end or damage says
abbrev pub head_of : Result (Option Head) Reason → Read
head_of (Ok None) = ended
head_of (Ok (Some h)) = whole h.length h.kind h.instrument h.time
head_of (Err why) = damaged (reason_number why)

-- its answer
abbrev pub frame_of : Result (Option Head) Reason → Answer
frame_of r = read_of (head_of r)

-- what a number `found` says: 0 the end, 1 to 3 damage with this reason, else the record r
unfoldable pub read_found : ℕ → Read → Read
read_found found r = cond (eqb found 0) ended (cond (ltb found 4) (damaged found) r)

-- what a record's bytes ask for: nothing; to map an instrument, from a start to an end; or they are not exactly one record, or short, for a reason
pub data Mapped : Type 0 where
  other : Mapped
  symbol : ℕ → ℕ → ℕ → Mapped
  not_one : ℕ → Mapped

-- "a time of 18446744073709551615 is missing", "a missing start is 0"; a missing end is 18446744073709551615, the number itself
unfoldable pub mapping_start : ℕ → ℕ
mapping_start time = cond (eqb time 18446744073709551615) 0 time

-- "Kind 2 is a symbol mapping; its body is start (8), end (8), name"; reason 4 for "a body under 16 bytes"; "other kinds are done and change nothing"
unfoldable pub of_kind : List ℕ → ℕ → ℕ → Mapped
unfolding mapping_start
of_kind b kind instrument =
    cond (eqb kind 2) (cond (ltb (length b - 16) 16) (not_one 4) (symbol instrument (mapping_start (field 8 b 16)) (field 8 b 24))) other

-- the name of a symbol mapping: the body after the two times
abbrev pub name_in : List ℕ → List ℕ
name_in b = drop 32 b

-- bytes that aren't exactly one record get 13 with reason 1, 2 or 3, 3 also for bytes left over; no bytes are fewer than 16
unfoldable pub one_record : List ℕ → Read → Mapped
unfolding of_kind
one_record b ended = not_one 1
one_record b (damaged reason) = not_one reason
one_record b (whole size kind instrument time) = cond (eqb size (length b)) (of_kind b kind instrument) (not_one 3)

unfoldable pub mapped_in : List ℕ → Mapped
unfolding one_record frame_at
mapped_in b = one_record b (frame_at b 0)

-- its answer, over `size` bytes: "stream and place 0"; the name stands from byte 32 to the end
abbrev pub mapped_of : ℕ → Mapped → Answer
mapped_of size other = answer 0 []
mapped_of size (symbol instrument start end) = answer 0 (instrument ∷ start ∷ end ∷ 32 ∷ size ∷ [])
mapped_of size (not_one reason) = answer 13 (0 ∷ 0 ∷ reason ∷ [])

-- the answer of a reading of a mapping
abbrev pub mapping_of : Result (Option Mapping) Refusal → Answer
mapping_of (Ok None) = answer 0 []
mapping_of (Ok (Some m)) = answer 0 (m.instrument ∷ m.start ∷ m.end ∷ m.name_from ∷ m.name_to ∷ [])
mapping_of (Err r) = refused r
