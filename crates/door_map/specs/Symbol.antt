-- What a lookup found, as C reads it. Assumes nothing.
use Rattle.std.specs.Prelude.{ℕ, ◌≡◌, Option, Some, None}
use Rattle.theory.specs.Answer.{Answer, answer}
use Rattle.map_look.specs.Lookup.{look_values}
use Rattle.map_point.specs.Points.{symbol_values}
use Rattle.door_answers.specs.Answers.{value_in, given_in}
use Rattle.door_answers.specs.AnswersLaws.{done_value, done_given}

-- 1 where there is a symbol, else 0
abbrev pub found_in : Option ℕ → ℕ
found_in None = 0
found_in (Some symbol) = 1

-- the symbol, else 0
abbrev pub symbol_in : Option ℕ → ℕ
symbol_in None = 0
symbol_in (Some symbol) = symbol

-- so they are the answer's values, behind the hint or alone
module _ {a : Answer} (held hint : ℕ) where
  pub look_hint : (x : Option ℕ) → answer 0 (look_values hint x) ≡ a → hint ≡ value_in held 0 a
  look_hint None e = done_value held 0 e
  look_hint (Some symbol) e = done_value held 0 e

  pub look_found : (x : Option ℕ) → answer 0 (look_values hint x) ≡ a → found_in x ≡ given_in held 1 a
  look_found None e = done_given held 1 e
  look_found (Some symbol) e = done_given held 1 e

  pub look_symbol : (x : Option ℕ) → answer 0 (look_values hint x) ≡ a → symbol_in x ≡ value_in held 1 a
  look_symbol None e = done_value held 1 e
  look_symbol (Some symbol) e = done_value held 1 e

module _ {a : Answer} (held : ℕ) where
  pub point_found : (x : Option ℕ) → answer 0 (symbol_values x) ≡ a → found_in x ≡ given_in held 0 a
  point_found None e = done_given held 0 e
  point_found (Some symbol) e = done_given held 0 e

  pub point_symbol : (x : Option ℕ) → answer 0 (symbol_values x) ≡ a → symbol_in x ≡ value_in held 0 a
  point_symbol None e = done_value held 0 e
  point_symbol (Some symbol) e = done_value held 0 e
