-- Each arm of the match is what its case says. Assumes nothing.
use Rattle.door_answers.specs.AnswersLaws.{done_number, not_number}
use Rattle.door_map.proofs.map.desk_check.Goals as goal

pub returns-in-Ok : goal.returns-in-Ok
returns-in-Ok c = done_number c.in-Ok.ensures

pub returns-in-Err : goal.returns-in-Err
returns-in-Err c = not_number c.in-Err.refusal c.number.ensures c.in-Err.ensures
