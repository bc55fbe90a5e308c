-- Each arm of the match is what its case says. Assumes nothing.
use mathlib.Core.Path.{ap, ◌∙◌}
use Rattle.door_answers.specs.Answers.{number_in, value_in}
use Rattle.door_answers.specs.AnswersLaws.{done_number, done_value}
use Rattle.door_map.proofs.text.desk_number_text.Goals as goal

pub returns-in-Ok : goal.returns-in-Ok
returns-in-Ok c = record { value = done_number c.in-Ok.ensures; value_after = done_value c.args.value.now 0 c.in-Ok.ensures }

pub returns-in-Err : goal.returns-in-Err
unfolding number_in value_in
returns-in-Err c = record { value = c.number-in-Err.ensures ∙ ap number_in c.in-Err.ensures; value_after = ap (value_in c.args.value.now 0) c.in-Err.ensures }
