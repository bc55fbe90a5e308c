-- The lines of explanations (RULES, Requests, No. 4): a question's line is instrument, moment, the reason's word, then index, start, end
-- and symbol of each interval that it names; or `refused` and the number. Numbers are decimal, one blank parts two fields, a newline
-- ends each line.
use Rattle.std.specs.Prelude.{◌≡◌, ℕ, suc, zero, ◌+◌, ◌*◌, ◌≤◌, true, length, cond, List, [], ◌∷◌, ◌++◌, eqb, Result, Ok, Err}
use Rattle.theory.specs.Answer.{Answer, answer}
use Rattle.theory.specs.Fields.{field}
use Rattle.leaves.specs.Refusal.{refused}
use Rattle.leaves.specs.declared.refusal.Refusal.{Refusal}
use Rattle.lines.specs.Lines.{decimal, blank, newline}
use Rattle.leaves_limits.specs.Limits.{most_room}
use Rattle.map_rules.specs.Table.{ordered}
use Rattle.map_rules.specs.Memory.{same_value, width, rows}
use Rattle.map_explain.specs.Explain.{rows_answer}

-- " in", " unknown", " before", " after", " between", " refused "
unfoldable pub in_word : List ℕ
in_word = 32 ∷ 105 ∷ 110 ∷ []

unfoldable pub unknown_word : List ℕ
unknown_word = 32 ∷ 117 ∷ 110 ∷ 107 ∷ 110 ∷ 111 ∷ 119 ∷ 110 ∷ []

unfoldable pub before_word : List ℕ
before_word = 32 ∷ 98 ∷ 101 ∷ 102 ∷ 111 ∷ 114 ∷ 101 ∷ []

unfoldable pub after_word : List ℕ
after_word = 32 ∷ 97 ∷ 102 ∷ 116 ∷ 101 ∷ 114 ∷ []

unfoldable pub between_word : List ℕ
between_word = 32 ∷ 98 ∷ 101 ∷ 116 ∷ 119 ∷ 101 ∷ 101 ∷ 110 ∷ []

unfoldable pub refused_word : List ℕ
refused_word = 32 ∷ 114 ∷ 101 ∷ 102 ∷ 117 ∷ 115 ∷ 101 ∷ 100 ∷ 32 ∷ []

-- the word of a reason's number
unfoldable pub reason_word : ℕ → List ℕ
unfolding in_word unknown_word before_word after_word between_word
reason_word c =
    cond (eqb c 1) in_word (cond (eqb c 2) unknown_word (cond (eqb c 3) before_word (cond (eqb c 4) after_word between_word)))

-- numbers, a blank before each
unfoldable pub numbers_text : List ℕ → List ℕ
numbers_text [] = []
numbers_text (v ∷ vs) = blank ++ decimal v ++ numbers_text vs

-- a done call's values: a reason's number, and the numbers of its intervals
unfoldable pub values_text : List ℕ → List ℕ
unfolding reason_word numbers_text
values_text [] = []
values_text (c ∷ vs) = reason_word c ++ numbers_text vs

-- what an answer says behind the question
unfoldable pub answer_text : Answer → List ℕ
unfolding values_text refused_word
answer_text (answer n vs) = cond (eqb n 0) (values_text vs) (refused_word ++ decimal n)

-- the line of an instrument, a moment and their answer
unfoldable pub line_text : ℕ → ℕ → Answer → List ℕ
unfolding answer_text
line_text i m a = decimal i ++ blank ++ decimal m ++ answer_text a ++ newline

-- ---- questions

-- the question at place k: 12 bytes, instrument 4, moment 8
unfoldable pub instrument_at : List ℕ → ℕ → ℕ
instrument_at b k = field 4 b (k * 12)

unfoldable pub moment_at : List ℕ → ℕ → ℕ
moment_at b k = field 8 b (k * 12 + 4)

-- what the check of a table says: that it is well-formed, or a refusal
abbrev pub Checked : Type 0
Checked = Result (Unit {0}) Refusal

-- an answer in a table on which the check said this: the check's refusal comes first
abbrev pub after_check : Checked → Answer → Answer
after_check (Ok u) a = a
after_check (Err r) a = refused r

-- a table that passed the check is in order
abbrev pub Ready : List ℕ → ℕ → Checked → Type 0
Ready t used c = c ≡ Ok tt → (used * width ≤ length t) × (used ≤ most_room) × (ordered same_value (rows t used) ≡ true)

-- the line of the question at place k
unfoldable pub question_text : List ℕ → ℕ → Checked → List ℕ → ℕ → List ℕ
unfolding line_text instrument_at moment_at
question_text t used c b k =
    let i = instrument_at b k in
    let m = moment_at b k in
    line_text i m (after_check c (rows_answer t used i m))

-- the lines of n questions from place k on
unfoldable pub lines_from : List ℕ → ℕ → Checked → List ℕ → ℕ → ℕ → List ℕ
unfolding question_text
lines_from t used c b k zero = []
lines_from t used c b k (suc n) = question_text t used c b k ++ lines_from t used c b (suc k) n
