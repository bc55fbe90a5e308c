-- Each arm of the match is what its case says. Assumes nothing.
use Rattle.door_answers.specs.AnswersLaws.{done_number, done_value, not_number, not_value}
use Rattle.door_map.proofs.compare.desk_compare.Goals as goal

pub returns-in-Ok : goal.returns-in-Ok
returns-in-Ok c =
    let e = c.in-Ok.ensures in
    record { value = done_number e.answers; count_after = done_value c.args.count.now 0 e.answers; stretches_after = e.memory }

pub returns-in-Err : goal.returns-in-Err
returns-in-Err c =
    let e = c.in-Err.ensures in
    let r = c.in-Err.refusal in
    record { value = not_number r c.number.ensures e.answers; count_after = not_value r c.args.count.now 0 e.answers; stretches_after = e.memory }
