-- The whole text of a bundle's replay (RULES, Merging records): a line for each answer of the merge, "No hints are given",
-- and for a bad bundle "only the line `bad bundle`".
use Rattle.std.specs.Prelude.{ℕ, ◌*◌, cond, List, [], ◌∷◌, ◌++◌, length, get_or, replicate, ltb}
use Rattle.std.proofs.Math.Option.{Option, none, some}
use Rattle.theory.specs.Answer as theory
use Rattle.records_rules.specs.Machine.{Stream, record_at_lem, damage_at, Answer, says, end, Status}
use Rattle.records_rules.specs.Bytes.{bytes_of}
use Rattle.records_rules.specs.Literal.{literal_run}
use Rattle.lines.specs.Sections.{streams_in}
use Rattle.lines.specs.Lines.{record_line, damage_line, end_line, bad_line, laid}
use Rattle.records_rules.specs.Whole.{all_from}

-- the streams of a list, stream p at index p
unfoldable pub among : List (List ℕ) → ℕ → Stream
unfolding bytes_of
among ss p = bytes_of (get_or ss p [])

-- the line of an answer
unfoldable pub line_of : Answer → List ℕ
unfolding record_line damage_line end_line
line_of (says p (record_at_lem a r)) = record_line p r.time r.instrument
line_of (says p (damage_at a reason)) = damage_line p a
line_of end = end_line

-- the lines of answer after answer
unfoldable pub lines_of : List Answer → List ℕ
unfolding line_of
lines_of [] = []
lines_of (x ∷ xs) = line_of x ++ lines_of xs

-- the text of a bundle's streams, all hints 0; a bad bundle's
unfoldable pub text_of : Option (List (List ℕ)) → List ℕ
unfolding lines_of among literal_run bad_line
text_of none = bad_line
text_of (some ss) = lines_of (literal_run (among ss) (replicate (length ss) 0))

-- the text of a bundle's replay
unfoldable pub replay_text : List ℕ → List ℕ
unfolding text_of streams_in
replay_text bundle = text_of (streams_in bundle)

-- ---- a call

-- the bytes that every text fits: 60,000 / 16 records, 256 damage reports and the end, 63 bytes each
abbrev pub text_room : ℕ
text_room = 4007 * 63

-- what a call answers over so many lent bytes: 15 where they are fewer, else done with the length of the text
unfoldable pub replay_answer : List ℕ → ℕ → theory.Answer
unfolding replay_text
replay_answer bundle room = cond (ltb room text_room) (theory.answer 15 []) (theory.answer 0 (length (replay_text bundle) ∷ []))

-- what the lent bytes then hold: the text from the front on, and what stood behind it
unfoldable pub replay_laid : List ℕ → List ℕ → List ℕ
unfolding replay_text laid
replay_laid bundle text = cond (ltb (length text) text_room) text (laid text 0 (replay_text bundle))

-- the lines to come from these statuses on
unfoldable pub lines_left : (ℕ → Stream) → List Status → List ℕ
lines_left b ss = lines_of (all_from b ss)
