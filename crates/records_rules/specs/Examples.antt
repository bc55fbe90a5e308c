-- Runs of the machine by computation: the printed replay example and the traps of the merge.
use Rattle.std.specs.Prelude.{◌≡◌, refl, ℕ, List, [], ◌∷◌, ◌++◌, map, get_or}
use Rattle.theory.specs.Fields.{field}
use Rattle.leaves.specs.Frame.{frame_at}
use Rattle.records_rules.specs.Machine.{rec, Stream, record_at_lem, damage_at, Answer, says, end}
use Rattle.records_rules.specs.Bytes.{bytes_of, streams_of}
use Rattle.records_rules.specs.Whole.{run}
use Rattle.records_rules.specs.Literal.{literal_run}
use Rattle.records_rules.specs.Others.{others, handed_out}

-- a record of 16 bytes: kind 1, instrument 7, the time t below 256
unfoldable pub short : ℕ → List ℕ
short t = 16 ∷ 0 ∷ 1 ∷ 0 ∷ 7 ∷ 0 ∷ 0 ∷ 0 ∷ t ∷ 0 ∷ 0 ∷ 0 ∷ 0 ∷ 0 ∷ 0 ∷ 0 ∷ []

-- it, handed out by the stream p at the place a
unfoldable pub out : ℕ → ℕ → ℕ → Answer
out p a t = says p (record_at_lem a (rec 16 1 7 t))

unfoldable pub streams : List (List ℕ) → ℕ → Stream
streams ss p = bytes_of (get_or ss p [])

-- the printed replay example: stream 0 has a record (time 5) and 3 stray bytes, stream 1 a record (time 6), no hints
pub replay : run (streams ((short 5 ++ 1 ∷ 2 ∷ 3 ∷ []) ∷ short 6 ∷ [])) (0 ∷ 0 ∷ []) ≡ out 0 0 5 ∷ says 0 (damage_at 16 1) ∷ out 1 0 6 ∷ end ∷ []
unfolding run streams bytes_of frame_at short out field
replay = refl

-- the same, the two streams in one buffer, cut at 0, 19 and 35
pub replay_cut : run (streams_of (short 5 ++ (1 ∷ 2 ∷ 3 ∷ []) ++ short 6) (0 ∷ 19 ∷ 35 ∷ [])) (0 ∷ 0 ∷ []) ≡ out 0 0 5 ∷ says 0 (damage_at 16 1) ∷ out 1 0 6 ∷ end ∷ []
unfolding run streams_of frame_at short out field
replay_cut = refl

-- a record of time 0 comes before the damage of stream 1; of time 5 after it, and it is not lost
pub damage_first : (run (streams (short 0 ∷ (1 ∷ 2 ∷ 3 ∷ []) ∷ [])) (0 ∷ 0 ∷ []) ≡ out 0 0 0 ∷ says 1 (damage_at 0 1) ∷ end ∷ [])
    × (run (streams (short 5 ∷ (1 ∷ 2 ∷ 3 ∷ []) ∷ [])) (0 ∷ 0 ∷ []) ≡ says 1 (damage_at 0 1) ∷ out 0 0 5 ∷ end ∷ [])
unfolding run streams bytes_of frame_at short out field
damage_first = (refl, refl)

-- hints 0 and 10 over first records 5 and 1: 5 goes out first
pub hint_above : run (streams (short 5 ∷ short 1 ∷ [])) (0 ∷ 10 ∷ []) ≡ out 0 0 5 ∷ out 1 0 1 ∷ end ∷ []
unfolding run streams bytes_of frame_at short out field
hint_above = refl

-- after a damage report no stream is read on in: times 1,9 | one stray byte | time 4, with hints 0, 3, 4
pub after_damage : literal_run (streams ((short 1 ++ short 9) ∷ (1 ∷ []) ∷ short 4 ∷ [])) (0 ∷ 3 ∷ 4 ∷ []) ≡ out 0 0 1 ∷ says 1 (damage_at 0 1) ∷ out 2 0 4 ∷ out 0 16 9 ∷ end ∷ []
unfolding literal_run streams bytes_of frame_at short out field
after_damage = refl

-- one empty stream: the end at once
pub empty : run (streams ([] ∷ [])) (0 ∷ []) ≡ end ∷ []
unfolding run streams bytes_of frame_at
empty = refl

-- ---- one stream leaves the others alone: the answers without those of the stream p

-- times 5, 2 | p | time 4: what others say where p is empty, has times 3 and 10, three stray bytes, or time 0 at the greatest hint
unfoldable pub around : List ℕ → ℕ → Stream
unfolding streams
around p = streams ((short 5 ++ short 2) ∷ p ∷ short 4 ∷ [])

unfoldable pub around_out : List Answer
around_out = out 2 0 4 ∷ out 0 0 5 ∷ out 0 16 2 ∷ end ∷ []

pub around_p : (run (around []) (0 ∷ 0 ∷ 0 ∷ []) ≡ around_out)
    × (run (around (short 3 ++ short 10)) (0 ∷ 0 ∷ 0 ∷ []) ≡ out 1 0 3 ∷ out 2 0 4 ∷ out 0 0 5 ∷ out 0 16 2 ∷ out 1 16 10 ∷ end ∷ [])
    × (others 1 (run (around (short 3 ++ short 10)) (0 ∷ 0 ∷ 0 ∷ [])) ≡ around_out)
    × (run (around (1 ∷ 2 ∷ 3 ∷ [])) (0 ∷ 0 ∷ 0 ∷ []) ≡ says 1 (damage_at 0 1) ∷ around_out)
    × (others 1 (run (around (1 ∷ 2 ∷ 3 ∷ [])) (0 ∷ 0 ∷ 0 ∷ [])) ≡ around_out)
    × (others 1 (run (around (short 0)) (0 ∷ 18446744073709551615 ∷ 0 ∷ [])) ≡ around_out)
unfolding run around around_out bytes_of frame_at short out field others
around_p = (refl, refl, refl, refl, refl, refl)

-- p before the others: they keep their numbers
pub before_others : (others 0 (run (streams ([] ∷ short 7 ∷ short 7 ∷ [])) (0 ∷ 0 ∷ 0 ∷ [])) ≡ out 1 0 7 ∷ out 2 0 7 ∷ end ∷ [])
    × (others 0 (run (streams (short 7 ∷ short 7 ∷ short 7 ∷ [])) (0 ∷ 0 ∷ 0 ∷ [])) ≡ out 1 0 7 ∷ out 2 0 7 ∷ end ∷ [])
unfolding run streams bytes_of frame_at short out field others
before_others = (refl, refl)

-- another stream is damaged too: times 5 and a stray byte | p | time 6, p empty and a stray byte
pub damaged_too : (others 1 (run (streams ((short 5 ++ 9 ∷ []) ∷ [] ∷ short 6 ∷ [])) (0 ∷ 0 ∷ 0 ∷ [])) ≡ out 0 0 5 ∷ says 0 (damage_at 16 1) ∷ out 2 0 6 ∷ end ∷ [])
    × (others 1 (run (streams ((short 5 ++ 9 ∷ []) ∷ (9 ∷ []) ∷ short 6 ∷ [])) (0 ∷ 0 ∷ 0 ∷ [])) ≡ out 0 0 5 ∷ says 0 (damage_at 16 1) ∷ out 2 0 6 ∷ end ∷ [])
unfolding run streams bytes_of frame_at short out field others
damaged_too = (refl, refl)

-- the bytes handed out are those of the record that stands at the place
pub bytes_too : map (handed_out (λ p. short 5 ++ short 2)) (out 0 16 2 ∷ says 1 (damage_at 0 1) ∷ end ∷ []) ≡ short 2 ∷ [] ∷ [] ∷ []
unfolding handed_out out short
bytes_too = refl
