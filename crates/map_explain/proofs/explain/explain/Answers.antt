-- A table that the check refuses gets that refusal, and any other its reason. Assumes nothing.
use Rattle.std.proofs.Common.{◌∙◌, sym, rules}
use Rattle.map_explain.specs.ExplainLaws.{checked_order}
use Rattle.map_explain.specs.Calls.{call_explains, refused_first}
use Rattle.map_explain.proofs.explain.explain.Goals as goal

pub explain_checked-requires : goal.explain_checked-requires
explain_checked-requires c = checked_order _ _ _ (sym c.in_ok-check.ensures)

pub returns : goal.returns
returns c = c.explain_checked.ensures ∙ sym (call_explains _ _ _ _ _ (sym c.in_ok-check.ensures)).answers

pub returns-in_err-check : goal.returns-in_err-check
returns-in_err-check c = search (rules, refused_first)
