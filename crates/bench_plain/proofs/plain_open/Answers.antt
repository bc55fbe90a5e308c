-- Each arm of the match is what its case says. Assumes nothing.
use mathlib.Core.Path.{refl}
use Rattle.door_answers.specs.AnswersLaws.{done_number, done_value, not_number, not_value}
use Rattle.bench_plain.proofs.plain_open.Goals as goal

pub returns-in-Ok : goal.returns-in-Ok
returns-in-Ok c =
    let o = c.in-Ok.ensures in
    let before = c.args.streams.now in
    record {
      returns = done_number o.answers;
      counts = done_value before 0 o.answers;
      opens = record { answers = refl; refused = o.refused; opened = o.opened };
    }

pub returns-in-Err : goal.returns-in-Err
returns-in-Err c =
    let o = c.in-Err.ensures in
    let before = c.args.streams.now in
    let r = c.in-Err.refusal in
    record {
      returns = not_number r c.number.ensures o.answers;
      counts = not_value r before 0 o.answers;
      opens = record { answers = refl; refused = o.refused; opened = o.opened };
    }
