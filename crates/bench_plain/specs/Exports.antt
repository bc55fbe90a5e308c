-- The plain engine's exports: what a call and an opening hand over. Assumes nothing.
use Rattle.std.specs.Prelude.{ℕ, ◌-◌, ◌≡◌, true, false, List, [], length}
use Rattle.theory.specs.Answer.{Answer, answer}
use Rattle.records_rules.specs.Bytes.{streams_of}
use Rattle.records_rules.specs.State.{right_streams, opening, Small}
use Rattle.records_plain.specs.Plain.{plain_fits, PlainUntouched, PlainSays, PlainOpens}
use Rattle.door_answers.specs.Answers.{number_in, value_in}
use Rattle.door_records.specs.Merge.{turn_answer, Numbers, Handed}

-- what `plain_open` answers
abbrev pub plain_answer : List ℕ → List ℕ → List ℕ → List ℕ → List ℕ → List ℕ → List ℕ → Answer
plain_answer buffer cuts hints ms ts cs hs =
    opening (plain_fits 0 ms ts cs hs) (right_streams (length buffer) cuts (length hints)) (length cuts - 1)

-- `plain_open`, which returned r: the number of the streams is that of the answer
pub record PlainOpenHands (buffer cuts hints ms ts cs hs : List ℕ) (streams r streams' : ℕ) (ms' ts' cs' hs' : List ℕ) : Type 0 where
  pub returns : r ≡ number_in (plain_answer buffer cuts hints ms ts cs hs)
  pub counts : streams' ≡ value_in streams 0 (plain_answer buffer cuts hints ms ts cs hs)
  pub opens : PlainOpens buffer cuts hints ms ts cs hs (plain_answer buffer cuts hints ms ts cs hs) ms' ts' cs' hs'

-- `plain_next`, which returned r: 15 and nothing changed where what is lent is not right; else what the machine says
pub record PlainNextHands (buffer cuts : List ℕ) (n : ℕ) (ms ts cs hs : List ℕ) (o : Numbers) (r : ℕ) (ms' ts' cs' hs' : List ℕ) (o' : Numbers) : Type 0 where
  pub refused : plain_fits n ms ts cs hs ≡ false → Handed (answer 15 []) r o o' × PlainUntouched ms ts cs hs ms' ts' cs' hs'
  pub told : plain_fits n ms ts cs hs ≡ true → Small n cs hs
      → (let b = streams_of buffer cuts in
      let x = turn_answer b n ms ts cs hs in
      Handed x r o o' × PlainSays b n ms ts cs hs x ms' ts' cs' hs')
