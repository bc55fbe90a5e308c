-- Each arm of the match is what its case says. Assumes nothing.
use Rattle.std.specs.Prelude.{Result}
use Rattle.theory.specs.Answer.{Answer, one_value}
use Rattle.leaves.specs.Refusal.{answer_with}
use Rattle.door_answers.specs.Answers.{number_in, value_in}
use Rattle.door_answers.specs.AnswersLaws.{done_number, done_value, not_number, not_value}
use Rattle.door_feed.proofs.portions.desk_feed_bytes.Goals as goal

pub returns-in-Ok : goal.returns-in-Ok
unfolding number_in value_in
returns-in-Ok c =
    let o = c.in-Ok.ensures in
    let t = c.args.taken.now in
    record {
      refused = λ w. let x = o.refused w in (done_number x.0, done_value t 0 x.0, x.1, x.2);
      says = λ w n held ts hp hn ok.
          let x = o.says w n held ts hp hn ok in
          (done_number x.heard, done_value t 0 x.heard, rw (← x.heard) x);
    }

pub returns-in-Err : goal.returns-in-Err
unfolding number_in value_in
returns-in-Err c =
    let o = c.in-Err.ensures in
    let t = c.args.taken.now in
    let r = c.in-Err.refusal in
    record {
      refused = λ w. let x = o.refused w in (not_number r c.number.ensures x.0, not_value r t 0 x.0, x.1, x.2);
      says = λ w n held ts hp hn ok.
          let x = o.says w n held ts hp hn ok in
          (not_number r c.number.ensures x.heard, not_value r t 0 x.heard, rw (← x.heard) x);
    }
