-- The answer of the plain engine's opening: two that say the same are one. Assumes nothing.
use Rattle.std.specs.Prelude.{◌≡◌, ℕ, [], ◌∷◌, Result}
use Rattle.leaves.specs.declared.refusal.Refusal.{Refusal}
use Rattle.records.specs.Merge.{opened_of}
use Rattle.one_answer.specs.Leaves.{answer_one}

pub plain_opened_one : (x y : Result ℕ Refusal) → opened_of x ≡ opened_of y → x ≡ y
plain_opened_one = answer_one (λ streams. streams ∷ streams ∷ []) (λ m n e. cc)
