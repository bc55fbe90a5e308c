-- The tests in the rules' order, then the record. Assumes nothing.
use mathlib.Core.Path.{sym, ap, ◌∙◌}
use Rattle.std.proofs.lemmas.Result.{err_from_is_err_and}
use Rattle.theory.specs.Answer.{no_values}
use Rattle.leaves.specs.Refusal.{answer_with}
use Rattle.map_plan.specs.WantedLaws.{judged_memory, judged_table, judged_checked, judged_on}
use Rattle.map_plan.proofs.planning.judge.Goals as goal

pub returns-then-not-fits-clause-result_value : goal.returns-then-not-fits-clause-result_value
returns-then-not-fits-clause-result_value c = judged_memory _ _ _ _ _ _ (sym c.fits.ensures ∙ c.if-not-fits.true)

pub returns-in_err-checked-clause-result_value : goal.returns-in_err-checked-clause-result_value
returns-in_err-checked-clause-result_value c =
    let p = err_from_is_err_and c.from_residual.result c.from_residual.ensures.1 in
    rw (p.1, p.2) (judged_table _ _ _ _ _ _ (sym c.fits.ensures ∙ c.if-not-fits.false) _ (sym (ap (answer_with no_values) c.in_err-checked.was)))

pub returns-in_err-names-clause-result_value : goal.returns-in_err-names-clause-result_value
returns-in_err-names-clause-result_value c =
    let p = err_from_is_err_and c.from_residual-in_err-names.result c.from_residual-in_err-names.ensures.1 in
    rw (p.1, p.2)
    (judged_checked _ _ _ _ _ _ (sym c.fits.ensures ∙ c.if-not-fits.false) _ (sym (ap (answer_with no_values) c.in_ok-checked.was)) c.in_err-names.ensures.answer)

pub returns-clause-result_value : goal.returns-clause-result_value
returns-clause-result_value c =
    let k = c.in_ok-names.ensures.formed in
    (rw c.in_ok-names.ensures.list at c.plan_record.ensures.result_value)
    ∙ judged_on _ _ _ _ _ _ k.0 (sym (ap (answer_with no_values) c.in_ok-checked.was)) k.1

pub returns-clause-ready : goal.returns-clause-ready
returns-clause-ready c =
    let q = ap (answer_with no_values) c.in_ok-checked.was in
    rw q (rw c.in_ok-names.ensures.list at c.plan_record.ensures.ready)
