-- What a done explanation hands over, and that a refusal leaves what was held. Assumes nothing.
use Rattle.std.specs.Prelude.{◌≡◌, refl, ℕ, List}
use Rattle.theory.specs.Answer.{Answer, answer}
use Rattle.leaves.specs.Refusal.{number_of, refused}
use Rattle.leaves.specs.declared.refusal.Refusal.{Refusal}
use Rattle.door_answers.specs.Answers.{number_in, value_in}
use Rattle.door_answers.specs.AnswersLaws.{not_number, not_value}
use Rattle.door_map.specs.declared.explain.Numbers.{Numbers}
use Rattle.door_map.specs.Lent.{numbers_in, DeskExplain}

module _ {a : Answer} (o : Numbers) where
  pub explains_done : {values : List ℕ} {n : Numbers} → answer 0 values ≡ a → n ≡ numbers_in (answer 0 values) → DeskExplain a 0 o n
  unfolding number_in value_in
  explains_done {values} {n} e f =
      let h : DeskExplain (answer 0 values) 0 o (numbers_in (answer 0 values)) =
      record { returns = refl; reason = refl; index = refl; start = refl; end = refl; symbol = refl; next_start = refl; next_end = refl; next_symbol = refl } in
      let g : DeskExplain a 0 o (numbers_in (answer 0 values)) = rw e at h in
      rw f g

  pub explains_not : (r : Refusal) {n : ℕ} → n ≡ number_of r → refused r ≡ a → DeskExplain a n o o
  explains_not r f e = record {
    returns = not_number r f e;
    reason = not_value r _ 0 e;
    index = not_value r _ 1 e;
    start = not_value r _ 2 e;
    end = not_value r _ 3 e;
    symbol = not_value r _ 4 e;
    next_start = not_value r _ 6 e;
    next_end = not_value r _ 7 e;
    next_symbol = not_value r _ 8 e;
  }
