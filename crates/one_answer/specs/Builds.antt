-- The answers of the builds: two that say the same number and the same values are one answer. Assumes nothing.
use Rattle.std.specs.Prelude.{◌≡◌, ℕ, Result}
use Rattle.theory.specs.Answer.{one_value}
use Rattle.leaves.specs.Refusal.{answer_with}
use Rattle.leaves.specs.declared.refusal.Refusal.{Refusal}
use Rattle.one_answer.specs.Leaves.{value_one}

pub built_one : (x y : Result ℕ Refusal) → answer_with one_value x ≡ answer_with one_value y → x ≡ y
built_one = value_one
