-- Each arm of the match is what its case says. Assumes nothing.
use Rattle.door_answers.specs.AnswersLaws.{done_number, done_value, not_number, not_value}
use Rattle.door_map.proofs.names.desk_place_of_name.Goals as goal

pub returns-in-Ok : goal.returns-in-Ok
returns-in-Ok c =
    let e = c.in-Ok.ensures in
    record { value = done_number e; first_after = done_value c.args.first.now 0 e; end_after = done_value c.args.end.now 1 e }

pub returns-in-Err : goal.returns-in-Err
returns-in-Err c =
    let e = c.in-Err.ensures in
    let r = c.in-Err.refusal in
    record { value = not_number r c.number.ensures e; first_after = not_value r c.args.first.now 0 e; end_after = not_value r c.args.end.now 1 e }
