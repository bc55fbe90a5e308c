-- Each arm of the match is what its case says. Assumes nothing.
use mathlib.Core.Path.{◌∙◌}
use Rattle.door_answers.specs.AnswersLaws.{done_number, not_number, not_value, not_given}
use Rattle.door_map.specs.Symbol.{look_hint, look_found, look_symbol}
use Rattle.door_map.proofs.map.desk_get_for_ts.Goals as goal

pub returns-in-Ok-clause-right : goal.returns-in-Ok-clause-right
returns-in-Ok-clause-right c = λ t.
    let a = c.args in
    let x = c.in-Ok.answer in
    let e = rw c.in-Ok.is at (c.get_for_ts-looked.ensures.right t).0 in
    let h = c.hand_symbol.ensures in
    (done_number e, look_hint a.hint.now _ x e, h.0 ∙ look_found a.found.now _ x e, h.1 ∙ look_symbol a.symbol.now _ x e)

pub returns-in-Err-clause-right : goal.returns-in-Err-clause-right
returns-in-Err-clause-right c = λ t.
    let a = c.args in
    let r = c.in-Err.why in
    let e = rw c.in-Err.is at (c.get_for_ts-looked.ensures.right t).0 in
    (not_number r c.number.ensures e, not_value r a.hint.now 0 e, not_given r a.found.now 1 e, not_value r a.symbol.now 1 e)
