-- What a match on an answer gives at the door, one law a case. Assumes nothing.
use Rattle.std.specs.Prelude.{ℕ, ◌≡◌, refl, cond, List, ltb, length, get_or}
use Rattle.std.proofs.Common.{sym, ◌∙◌}
use Rattle.std.proofs.Math.Path.{ap}
use Rattle.theory.specs.Answer.{Answer, answer}
use Rattle.leaves.specs.Refusal.{number_of, refused}
use Rattle.leaves.specs.declared.refusal.Refusal.{Refusal}
use Rattle.leaves.specs.RefusalLaws.{refused_all}
use Rattle.door_answers.specs.Answers.{number_in, value_in, given_in, damage_in, either_in}

-- ---- a refusal

-- what was held stays
pub refused_value : (r : Refusal) (held k : ℕ) → value_in held k (refused r) ≡ held
unfolding value_in
refused_value r held k = refused_all (λ (a : Answer). value_in held k a ≡ held) (λ n values. refl) r

refused_given : (r : Refusal) (held k : ℕ) → given_in held k (refused r) ≡ held
unfolding given_in
refused_given r held k = refused_all (λ (a : Answer). given_in held k a ≡ held) (λ n values. refl) r

-- ---- a match

-- an answer that is known to be a case is what the case says
pub answer_same : {X : Type 0} (f : X → Answer) {x y : X} {a : Answer} → f x ≡ a → x ≡ y → f y ≡ a
answer_same f e w = sym (ap f w) ∙ e

module _ {a : Answer} where
  -- a done call returns 0, and hands its values over
  pub done_number : {values : List ℕ} → answer 0 values ≡ a → 0 ≡ number_in a
  unfolding number_in
  done_number e = ap number_in e

  pub done_value : {values : List ℕ} (held k : ℕ) → answer 0 values ≡ a → get_or values k 0 ≡ value_in held k a
  unfolding value_in
  done_value held k e = ap (value_in held k) e

  pub done_given : {values : List ℕ} (held k : ℕ) → answer 0 values ≡ a → cond (ltb k (length values)) 1 0 ≡ given_in held k a
  unfolding given_in
  done_given held k e = ap (given_in held k) e

  -- a refused call returns the refusal's number, and leaves what was held
  pub not_number : (r : Refusal) {n : ℕ} → n ≡ number_of r → refused r ≡ a → n ≡ number_in a
  unfolding number_in
  not_number r f e = f ∙ ap number_in e

  pub not_value : (r : Refusal) (held k : ℕ) → refused r ≡ a → held ≡ value_in held k a
  not_value r held k e = sym (refused_value r held k) ∙ ap (value_in held k) e

  pub not_given : (r : Refusal) (held k : ℕ) → refused r ≡ a → held ≡ given_in held k a
  not_given r held k e = sym (refused_given r held k) ∙ ap (given_in held k) e

  -- damage: a done call leaves what was held; a refused one hands over what comes with the refusal
  pub done_damage : {values : List ℕ} (held k : ℕ) → answer 0 values ≡ a → held ≡ damage_in held k a
  unfolding damage_in
  done_damage held k e = ap (damage_in held k) e

  pub done_either : {values : List ℕ} (held k : ℕ) → answer 0 values ≡ a → get_or values k 0 ≡ either_in held k a
  unfolding value_in damage_in either_in
  done_either held k e = ap (either_in held k) e

  pub not_damage : (r : Refusal) (held k : ℕ) {n : ℕ} → n ≡ damage_in held k (refused r) → refused r ≡ a → n ≡ damage_in held k a
  not_damage r held k f e = f ∙ ap (damage_in held k) e

  pub not_either : (r : Refusal) (held k : ℕ) {n : ℕ} → n ≡ damage_in held k (refused r) → refused r ≡ a → n ≡ either_in held k a
  unfolding either_in
  not_either r held k f e =
      f ∙ ap (λ (h : ℕ). damage_in h k (refused r)) (sym (refused_value r held k)) ∙ ap (either_in held k) e
