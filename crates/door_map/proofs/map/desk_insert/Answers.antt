-- Each arm of the match is what its case says. Assumes nothing.
use Rattle.door_answers.specs.AnswersLaws.{done_number, done_value, not_number, not_value}
use Rattle.door_map.proofs.map.desk_insert.Goals as goal

pub returns-in-Ok : goal.returns-in-Ok
returns-in-Ok c =
    let e = c.in-Ok.ensures.answers in
    record {
      returns = done_number e;
      in_use = done_value c.args.used.now 0 e;
      memory = c.in-Ok.ensures.memory;
    }

pub returns-in-Err : goal.returns-in-Err
returns-in-Err c =
    let e = c.in-Err.ensures.answers in
    let r = c.in-Err.refusal in
    record {
      returns = not_number r c.number.ensures e;
      in_use = not_value r c.args.used.now 0 e;
      memory = c.in-Err.ensures.memory;
    }
