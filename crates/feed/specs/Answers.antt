-- The answers of the calls in the rules' numbers.
use Rattle.std.specs.Prelude.{ℕ, List, [], ◌∷◌, Result}
use Rattle.theory.specs.Answer.{Answer}
use Rattle.leaves.specs.Refusal.{answer_with}
use Rattle.leaves.specs.declared.refusal.Refusal.{Refusal}
use Rattle.feed.specs.declared.turns.Fed.{Fed}
use Rattle.feed.specs.declared.turns.Fed.TheVariants as fed

-- a record's stream, place, index in the window, length, kind, instrument and time; nothing at the end; the stream of which more is needed
abbrev pub fed_values : Fed → List ℕ
fed_values (fed.Record r at) = r.stream ∷ r.place ∷ at ∷ r.length ∷ r.kind ∷ r.instrument ∷ r.time ∷ []
fed_values fed.End = []
fed_values (fed.NeedMore stream) = stream ∷ []

abbrev pub fed_of : Result Fed Refusal → Answer
fed_of r = answer_with fed_values r

-- an opening is done, with the number of streams and of those that the heap holds
abbrev pub opened_of : ℕ → Result ℕ Refusal → Answer
opened_of held r = answer_with (λ streams. streams ∷ held ∷ []) r
