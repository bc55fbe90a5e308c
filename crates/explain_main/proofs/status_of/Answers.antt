-- Each arm of the match is what its case says. Assumes nothing.
use Rattle.std.proofs.Common.{◌∙◌, ap, sym}
use Rattle.std.specs.Prelude.{Result}
use Rattle.theory.specs.Answer.{no_values}
use Rattle.leaves.specs.Refusal.{answer_with}
use Rattle.leaves.specs.declared.refusal.Refusal.{Refusal}
use Rattle.explain_main.specs.Asked.{answer_status}
use Rattle.explain_main.specs.AskedLaws.{refused_status}
use Rattle.explain_main.proofs.status_of.Goals as goal

pub returns-in-Ok : goal.returns-in-Ok
unfolding answer_status
returns-in-Ok c = sym (ap (λ (r : Result (Unit {0}) Refusal). answer_status (answer_with no_values r)) c.in-Ok.is)

pub returns-in-Err : goal.returns-in-Err
returns-in-Err c =
    refused_status c.in-Err.field-0 ∙ sym (ap (λ (r : Result (Unit {0}) Refusal). answer_status (answer_with no_values r)) c.in-Err.is)
