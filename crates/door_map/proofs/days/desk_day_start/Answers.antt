-- Each arm of the match is what its case says. Assumes nothing.
use Rattle.door_answers.specs.AnswersLaws.{done_number, done_value, not_number, not_value}
use Rattle.door_map.proofs.days.desk_day_start.Goals as goal

pub returns-in-Ok : goal.returns-in-Ok
returns-in-Ok c = record { value = done_number c.in-Ok.ensures; moment_after = done_value c.args.moment.now 0 c.in-Ok.ensures }

pub returns-in-Err : goal.returns-in-Err
returns-in-Err c =
    let r = c.in-Err.refusal in
    record { value = not_number r c.number.ensures c.in-Err.ensures; moment_after = not_value r c.args.moment.now 0 c.in-Err.ensures }
