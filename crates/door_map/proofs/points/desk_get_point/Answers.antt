-- Each arm of the match is what its case says. Assumes nothing.
use mathlib.Core.Path.{◌∙◌}
use Rattle.door_answers.specs.AnswersLaws.{done_number, not_number, not_value, not_given}
use Rattle.door_map.specs.Symbol.{point_found, point_symbol}
use Rattle.door_map.proofs.points.desk_get_point.Goals as goal

pub returns-in-Ok-clause-right : goal.returns-in-Ok-clause-right
returns-in-Ok-clause-right c = λ t.
    let a = c.args in
    let x = c.in-Ok.answer in
    let e = c.in-Ok.ensures.right t in
    let h = c.hand_symbol.ensures in
    (done_number e, h.0 ∙ point_found a.found.now x e, h.1 ∙ point_symbol a.symbol.now x e)

pub returns-in-Err-clause-right : goal.returns-in-Err-clause-right
returns-in-Err-clause-right c = λ t.
    let a = c.args in
    let r = c.in-Err.refusal in
    let e = c.in-Err.ensures.right t in
    (not_number r c.number.ensures e, not_given r a.found.now 0 e, not_value r a.symbol.now 0 e)
