-- Either way is what the reading of the words says. Assumes nothing.
use mathlib.Core.Path.{ap, refl}
use Rattle.door_answers.specs.Answers.{number_in, value_in}
use Rattle.door_answers.specs.AnswersLaws.{done_number, done_value}
use Rattle.door_answers.specs.HeaderLaws.{header_some, header_none}
use Rattle.door_records.specs.Hints.{hint_unfit, hint_fit}
use Rattle.door_records.proofs.hints.desk_hint_of.Goals as goal

pub returns-in_default : goal.returns-in_default
unfolding number_in value_in
returns-in_default c =
    let a = c.args in
    let e = hint_unfit a.header.now _ refl (header_none a.header.now c.in_default.ensures) in
    record {
      value = ap number_in e;
      hint_after = ap (value_in a.hint.now 0) e;
    }

pub returns : goal.returns
returns c =
    let a = c.args in
    let some = header_some a.header.now c.in-Some.h c.in-Some.ensures in
    let e = hint_fit a.header.now _ refl some.0 _ some.1 _ c.hint_of.ensures in
    record {
      value = done_number e;
      hint_after = done_value a.hint.now 0 e;
    }
