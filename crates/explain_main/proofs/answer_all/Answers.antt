-- Each way through the test is one law. Assumes nothing.
use Rattle.std.proofs.Common.{◌∙◌, ap}
use Rattle.explain_main.specs.Asked.{answer_status}
use Rattle.explain_main.specs.AskedLaws.{asked_none, asked_told, ends_too}
use Rattle.explain_main.proofs.answer_all.Goals as goal

pub returns-then-not-are_questions : goal.returns-then-not-are_questions
returns-then-not-are_questions g c = ends_too _ (asked_none _ _ _ c.are_questions.ensures c.if-not-are_questions.true) c.say.ensures

pub returns : goal.returns
returns g c =
    let e = ap answer_status c.new.ensures.checked in
    ends_too _ (e ∙ asked_told _ _ _ c.are_questions.ensures c.if-not-are_questions.false) c.tell_all.ensures
