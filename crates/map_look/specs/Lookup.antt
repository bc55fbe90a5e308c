-- A lookup's answer in the rules' terms.
use Rattle.std.specs.Prelude.{ℕ, List, [], ◌∷◌, Option, Some, None, Result}
use Rattle.theory.specs.Answer.{Answer, answer}
use Rattle.leaves.specs.declared.refusal.Refusal.{Refusal}
use Rattle.leaves.specs.Refusal.{answer_with}
use Rattle.map_look.specs.declared.lookup.Looked.{Looked}
use Rattle.map_look.specs.declared.lookup.Seen.{Seen}

-- the new hint, and the symbol if there is one
abbrev pub look_values : ℕ → Option ℕ → List ℕ
look_values hint (Some symbol) = hint ∷ symbol ∷ []
look_values hint None = hint ∷ []

-- 0 with these, or the refusal
abbrev pub found_of : Result (Option ℕ) Refusal → ℕ → Answer
found_of found hint = answer_with (look_values hint) found

-- the same of what a lookup returns
abbrev pub looked_of : Looked → Answer
looked_of r = found_of r.found r.hint

-- and where nothing is refused
abbrev pub seen_of : Seen → Answer
seen_of r = answer 0 (look_values r.hint r.symbol)
