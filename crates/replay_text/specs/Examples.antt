-- Replays by computation: the printed example of the rules, and the smallest bundles.
use Rattle.std.specs.Prelude.{◌≡◌, refl, ℕ, List, [], ◌∷◌, ◌++◌}
use Rattle.theory.specs.Fields.{field}
use Rattle.leaves.specs.Frame.{frame_at}
use Rattle.records_rules.specs.Literal.{literal_run}
use Rattle.lines.specs.Lines.{bad_line, end_line}
use Rattle.replay_text.specs.Replay.{replay_text}
use Rattle.replay_text.specs.OtherLines.{other_lines}

-- a record of 16 bytes: kind 1, instrument 7, the time t below 256
unfoldable pub short : ℕ → List ℕ
short t = 16 ∷ 0 ∷ 1 ∷ 0 ∷ 7 ∷ 0 ∷ 0 ∷ 0 ∷ t ∷ 0 ∷ 0 ∷ 0 ∷ 0 ∷ 0 ∷ 0 ∷ 0 ∷ []

-- a section's whole length, below 256, and its kind
unfoldable pub head : ℕ → ℕ → List ℕ
head size kind = size ∷ 0 ∷ 0 ∷ 0 ∷ kind ∷ 0 ∷ []

-- stream 0: a 16-byte record (time 5, instrument 7), 3 stray bytes; stream 1: a record (time 6, instrument 7)
unfoldable pub printed_bundle : List ℕ
unfolding short head
printed_bundle = head 25 1 ++ short 5 ++ (1 ∷ 2 ∷ 3 ∷ []) ++ head 22 1 ++ short 6

-- "0 5 7", "0 damaged 16", "1 6 7", "end"
unfoldable pub printed_text : List ℕ
printed_text =
    48 ∷ 32 ∷ 53 ∷ 32 ∷ 55 ∷ 10 ∷ 48 ∷ 32 ∷ 100 ∷ 97 ∷ 109 ∷ 97 ∷ 103 ∷ 101 ∷ 100 ∷ 32 ∷ 49 ∷ 54 ∷ 10 ∷ 49 ∷ 32 ∷ 54 ∷ 32 ∷ 55 ∷ 10 ∷ 101 ∷ 110 ∷ 100
    ∷ 10 ∷ []

pub printed : replay_text printed_bundle ≡ printed_text
unfolding replay_text printed_bundle printed_text literal_run frame_at field
printed = refl

-- without the lines of stream 0: "1 6 7", "end"; without those of stream 1: "0 5 7", "0 damaged 16", "end"
pub printed_others : (other_lines 0 printed_text ≡ (49 ∷ 32 ∷ 54 ∷ 32 ∷ 55 ∷ []) ∷ (101 ∷ 110 ∷ 100 ∷ []) ∷ [])
    × (other_lines 1 printed_text
    ≡ (48 ∷ 32 ∷ 53 ∷ 32 ∷ 55 ∷ []) ∷ (48 ∷ 32 ∷ 100 ∷ 97 ∷ 109 ∷ 97 ∷ 103 ∷ 101 ∷ 100 ∷ 32 ∷ 49 ∷ 54 ∷ []) ∷ (101 ∷ 110 ∷ 100 ∷ []) ∷ [])
unfolding other_lines printed_text
printed_others = (refl, refl)

-- no input is bad; one empty stream ends at once; with a byte more, with kind 2, or with a length below 6 it is bad
pub smallest : (replay_text [] ≡ bad_line)
    × (replay_text (head 6 1) ≡ end_line)
    × (replay_text (head 6 1 ++ (0 ∷ [])) ≡ bad_line)
    × (replay_text (head 6 2) ≡ bad_line)
    × (replay_text (head 5 1) ≡ bad_line)
unfolding replay_text head literal_run frame_at field bad_line end_line
smallest = (refl, refl, refl, refl, refl)
