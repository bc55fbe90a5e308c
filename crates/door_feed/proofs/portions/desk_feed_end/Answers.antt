-- Each arm of the match is what its case says. Assumes nothing.
use Rattle.door_answers.specs.Answers.{number_in}
use Rattle.door_answers.specs.AnswersLaws.{done_number, not_number}
use Rattle.door_feed.proofs.portions.desk_feed_end.Goals as goal

pub returns-in-Ok : goal.returns-in-Ok
unfolding number_in
returns-in-Ok c =
    let o = c.in-Ok.ensures in
    record {
      refused = λ w. let x = o.refused w in (done_number x.0, x.1);
      says = λ w n held window ts cs hs hp hn ok.
          let x = o.says w n held window ts cs hs hp hn ok in
          (done_number x.heard, rw (← x.heard) x);
    }

pub returns-in-Err : goal.returns-in-Err
unfolding number_in
returns-in-Err c =
    let o = c.in-Err.ensures in
    let r = c.in-Err.refusal in
    record {
      refused = λ w. let x = o.refused w in (not_number r c.number.ensures x.0, x.1);
      says = λ w n held window ts cs hs hp hn ok.
          let x = o.says w n held window ts cs hs hp hn ok in
          (not_number r c.number.ensures x.heard, rw (← x.heard) x);
    }
