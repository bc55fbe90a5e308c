-- What a comparison's check of its tables answers, and what its test of room says.
use Rattle.std.specs.Prelude.{◌≡◌, ℕ, ◌≤◌, ◌<◌, cond, List, [], length}
use Rattle.theory.specs.Answer.{Answer, answer}
use Rattle.map_compare_rules.specs.Memory.{compare_fits, both_formed}
use Rattle.map_compare_walk.specs.declared.tables.Tables.{Tables}

-- 15, then 14, else done
unfoldable pub tables_answer : List ℕ → ℕ → List ℕ → ℕ → ℕ → ℕ → Answer
tables_answer left n right m names long =
    cond (compare_fits (length left) n (length right) m names long) (cond (both_formed left n right m names) (answer 0 []) (answer 14 [])) (answer 15 [])

-- these two tables, with so many in use
pub record Holds (left : List ℕ) (n : ℕ) (right : List ℕ) (m : ℕ) (t : Tables) : Type 0 where
  pub left_same : t.left.now ≡ left
  pub left_used : t.left_used ≡ n
  pub right_same : t.right.now ≡ right
  pub right_used : t.right_used ≡ m

-- a number that goes over a room exactly where so many stretches do
pub record Needed (r room many : ℕ) : Type 0 where
  pub fits : r ≤ room → many ≤ room
  pub over : room < r → room < many
