-- Either way is what the test says. Assumes nothing.
use mathlib.Core.Path.{sym, ap, ◌∙◌}
use mathlib.Core.Bool.{Bool}
use Rattle.door_answers.specs.Answers.{number_in, utf8_answer}
use Rattle.door_map.proofs.text.desk_utf8.Goals as goal

pub returns-then-is_utf8 : goal.returns-then-is_utf8
unfolding number_in utf8_answer
returns-then-is_utf8 c = ap (λ (b : Bool). number_in (utf8_answer b)) (sym c.if-is_utf8.true ∙ c.is_utf8.ensures)

pub returns-else-is_utf8 : goal.returns-else-is_utf8
unfolding number_in utf8_answer
returns-else-is_utf8 c = c.number.ensures ∙ ap (λ (b : Bool). number_in (utf8_answer b)) (sym c.if-is_utf8.false ∙ c.is_utf8.ensures)
