-- What an insert gives and leaves at the C door (RULES, The map over time).
use Rattle.std.specs.Prelude.{◌≡◌, ℕ, List}
use Rattle.map_rules.specs.Table.{Row, Outcome}
use Rattle.map_rules.specs.Memory.{outcome_answer, memory_after}
use Rattle.door_answers.specs.Answers.{number_in, value_in}

-- `desk_insert` of an insert with this outcome, which returned r: the lent number in use becomes the answer's value, and the lent bytes are what it leaves
pub record DeskInsert (o : Outcome (Row ℕ)) (t : List ℕ) (used r used' : ℕ) (t' : List ℕ) : Type 0 where
  pub returns : r ≡ number_in (outcome_answer o)
  pub in_use : used' ≡ value_in used 0 (outcome_answer o)
  pub memory : t' ≡ memory_after t used o
