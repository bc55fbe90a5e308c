-- A table that the check refused gets that refusal, and any other its reason. Assumes nothing.
use Rattle.std.proofs.Common.{◌∙◌, ap, sym, rules}
use Rattle.map_explain.specs.Explain.{rows_answer}
use Rattle.explain_main.specs.Text.{Checked, after_check}
use Rattle.explain_main.specs.TextLaws.{ready_order}
use Rattle.explain_main.proofs.telling.Asked.explain.Goals as goal

pub explain_checked-requires : goal.explain_checked-requires
explain_checked-requires c = ready_order _ c.args.self.ready c.in_ok-self.was

pub returns : goal.returns
returns c =
    let s = c.args.self in
    c.explain_checked.ensures
    ∙ sym (ap (λ (k : Checked). after_check k (rows_answer s.table.now s.used c.args.instrument c.args.moment)) c.in_ok-self.was)

pub returns-in_err-self : goal.returns-in_err-self
returns-in_err-self c =
    let s = c.args.self in
    let e = ap (λ (k : Checked). after_check k (rows_answer s.table.now s.used c.args.instrument c.args.moment)) c.in_err-self.was in
    search rules
