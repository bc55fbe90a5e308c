-- Lines computed by the definitions (RULES, Requests, No. 4): a line of each reason, and of a refusal. Assumes nothing.
use Rattle.std.specs.Prelude.{◌≡◌, refl, ℕ, List, [], ◌∷◌}
use Rattle.theory.specs.Answer.{Answer, answer}
use Rattle.theory.specs.Runs.{All}
use Rattle.lines.specs.Lines.{decimal, blank, newline}
use Rattle.explain_main.specs.Text.{line_text}

-- a question's answer, and its line
record Case : Type 0 where
  instrument : ℕ
  moment : ℕ
  answers : Answer
  line : List ℕ

abbrev case : ℕ → ℕ → Answer → List ℕ → Case
case i m a l = record { instrument = i; moment = m; answers = a; line = l }

abbrev Right : Case → Type 0
Right c = line_text c.instrument c.moment c.answers ≡ c.line

cases : List Case
cases =
    -- `7 15 in 0 10 20 3`
    case 7 15 (answer 0 (1 ∷ 0 ∷ 10 ∷ 20 ∷ 3 ∷ []))
    (55 ∷ 32 ∷ 49 ∷ 53 ∷ 32 ∷ 105 ∷ 110 ∷ 32 ∷ 48 ∷ 32 ∷ 49 ∷ 48 ∷ 32 ∷ 50 ∷ 48 ∷ 32 ∷ 51 ∷ 10 ∷ []) ∷
    -- `7 5 before 0 10 20 3`
    case 7 5 (answer 0 (3 ∷ 0 ∷ 10 ∷ 20 ∷ 3 ∷ []))
    (55 ∷ 32 ∷ 53 ∷ 32 ∷ 98 ∷ 101 ∷ 102 ∷ 111 ∷ 114 ∷ 101 ∷ 32 ∷ 48 ∷ 32 ∷ 49 ∷ 48 ∷ 32 ∷ 50 ∷ 48 ∷ 32 ∷ 51 ∷ 10 ∷ []) ∷
    -- `7 25 between 0 10 20 3 1 30 40 4`
    case 7 25 (answer 0 (5 ∷ 0 ∷ 10 ∷ 20 ∷ 3 ∷ 1 ∷ 30 ∷ 40 ∷ 4 ∷ []))
    (55 ∷ 32 ∷ 50 ∷ 53 ∷ 32 ∷ 98 ∷ 101 ∷ 116 ∷ 119 ∷ 101 ∷ 101 ∷ 110 ∷ 32 ∷ 48 ∷ 32 ∷ 49 ∷ 48 ∷ 32 ∷ 50 ∷ 48 ∷ 32 ∷ 51 ∷ 32 ∷ 49 ∷ 32 ∷ 51 ∷ 48 ∷ 32 ∷ 52 ∷ 48 ∷ 32 ∷ 52 ∷ 10 ∷ []) ∷
    -- `7 40 after 1 30 40 4`
    case 7 40 (answer 0 (4 ∷ 1 ∷ 30 ∷ 40 ∷ 4 ∷ []))
    (55 ∷ 32 ∷ 52 ∷ 48 ∷ 32 ∷ 97 ∷ 102 ∷ 116 ∷ 101 ∷ 114 ∷ 32 ∷ 49 ∷ 32 ∷ 51 ∷ 48 ∷ 32 ∷ 52 ∷ 48 ∷ 32 ∷ 52 ∷ 10 ∷ []) ∷
    -- `9 5 unknown`
    case 9 5 (answer 0 (2 ∷ []))
    (57 ∷ 32 ∷ 53 ∷ 32 ∷ 117 ∷ 110 ∷ 107 ∷ 110 ∷ 111 ∷ 119 ∷ 110 ∷ 10 ∷ []) ∷
    -- `7 15 refused 14`
    case 7 15 (answer 14 [])
    (55 ∷ 32 ∷ 49 ∷ 53 ∷ 32 ∷ 114 ∷ 101 ∷ 102 ∷ 117 ∷ 115 ∷ 101 ∷ 100 ∷ 32 ∷ 49 ∷ 52 ∷ 10 ∷ []) ∷ []

lines_right : All Right cases
unfolding cases line_text decimal blank newline
lines_right = (refl, (refl, (refl, (refl, (refl, (refl, tt))))))
