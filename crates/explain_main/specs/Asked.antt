-- What the explain program is asked (RULES, Requests, No. 4): one section of kind 2, the name count in 4 bytes, one of kind 3, a table's
-- intervals, all in use, and one of kind 4, questions of 12 bytes each, at most 65,536, and nothing else; at most 2,359,318 bytes.
use Rattle.std.specs.Prelude.{ℕ, ◌+◌, ◌/◌, ◌%◌, Bool, ◌&&◌, cond, List, length, leb, eqb, Option, Some, None}
use Rattle.theory.specs.Fields.{field}
use Rattle.theory.specs.Answer.{Answer, answer}
use Rattle.map_rules.specs.Memory.{width, check_answer}
use Rattle.lines.specs.Asked.{table_end, between}

-- so many bytes are whole questions, and not too many
unfoldable pub are_questions : ℕ → Bool
are_questions n = eqb (n % 12) 0 && leb (n / 12) 65536

-- the status by the check's answer
unfoldable pub answer_status : Answer → ℕ
answer_status (answer n vs) = cond (eqb n 0) 0 1

-- the status of a table, all of whose intervals are in use, and so many bytes of questions: 0 where they are answered, 1 where the table
-- is refused or there are no whole questions
unfoldable pub asked_status : List ℕ → ℕ → ℕ → ℕ
unfolding are_questions answer_status
asked_status t names n = cond (are_questions n) (answer_status (check_answer t (length t / width) names)) 1

-- the status where the table's section ends there; 1 where the input is something else
abbrev pub parted_status : List ℕ → Option ℕ → ℕ
parted_status b None = 1
parted_status b (Some e) = asked_status (between 16 e b) (field 4 b 6) (length (between (e + 6) (length b) b))

-- the status of an input
unfoldable pub status_of : List ℕ → ℕ
status_of b = parted_status b (table_end 2359318 4 b)
