-- The four arrays are opened, and all that were opened are held. Assumes nothing.
use Rattle.std.specs.Prelude.{◌≡◌, refl, Err}
use borrow.Author.Rules.{rules}
use Rattle.records_plain.specs.PlainSteps.{plain_engine_opens, plain_refused}
use Rattle.records_plain.proofs.plain.PlainEngine.open.Goals as goal

pub returns-in_err-streams-clause-refused : goal.returns-in_err-streams-clause-refused
returns-in_err-streams-clause-refused c =
    let u = plain_refused _ c.in_err-streams.ensures in
    let e : c.from_residual.result ≡ Err c.in_err-streams.field-0.0 = search rules in
    rw (e, u.marks, u.times, u.places, u.heads) refl

pub returns-in_err-streams-clause-says : goal.returns-in_err-streams-clause-says
returns-in_err-streams-clause-says c =
    let e : c.from_residual.result ≡ Err c.in_err-streams.field-0.0 = search rules in
    plain_engine_opens (rw e c.in_err-streams.ensures)

pub returns-clause-says : goal.returns-clause-says
returns-clause-says c = plain_engine_opens c.in_ok-streams.ensures
