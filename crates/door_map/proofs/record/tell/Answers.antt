-- Each arm of the match is what its case says. Assumes nothing.
use mathlib.Core.Path.{sym, ap}
use Rattle.leaves.specs.Refusal.{answer_with}
use Rattle.door_answers.specs.AnswersLaws.{done_number, done_value, done_damage, not_number, not_value, not_damage}
use Rattle.door_map.specs.OnRecord.{in_use_values}
use Rattle.door_map.proofs.record.tell.Goals as goal

pub returns-in-Ok : goal.returns-in-Ok
returns-in-Ok c =
    let a = c.args in
    let e = sym (ap (answer_with (in_use_values a.names_then a.name_bytes_then)) c.in-Ok.is) in
    record {
      answers = done_number e;
      in_use = done_value a.used.now 0 e;
      names_in_use = done_value a.names.now 1 e;
      bytes_in_use = done_value a.name_bytes.now 2 e;
      damage = done_damage a.reason.now 2 e;
    }

pub returns-in-Err : goal.returns-in-Err
returns-in-Err c =
    let a = c.args in
    let r = c.in-Err.refusal in
    let e = sym (ap (answer_with (in_use_values a.names_then a.name_bytes_then)) c.in-Err.is) in
    record {
      answers = not_number r c.number.ensures e;
      in_use = not_value r a.used.now 0 e;
      names_in_use = not_value r a.names.now 1 e;
      bytes_in_use = not_value r a.name_bytes.now 2 e;
      damage = not_damage r a.reason.now 2 c.reason_in.ensures e;
    }
