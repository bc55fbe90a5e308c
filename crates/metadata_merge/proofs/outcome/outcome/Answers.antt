-- `outcome::outcome` meets its contract: the sets, the plan of the mappings, and the room make the verdict. Assumes nothing.
use mathlib.Core.Path.{refl}
use Rattle.std.proofs.lemmas.Result.{err_from_is_err_and}
use Rattle.metadata_merge.specs.Outcome.{decide_refused, decide_fits, decide_short}
use Rattle.metadata_merge.specs.OutcomeCalls.{outcomes}
use Rattle.metadata_merge.proofs.outcome.outcome.Goals as goal

pub returns-in_err-laid-clause-outcomes : goal.returns-in_err-laid-clause-outcomes
returns-in_err-laid-clause-outcomes c =
    let p = err_from_is_err_and c.from_residual.result c.from_residual.ensures.1 in
    outcomes c.requires _ _ _ c.unite-symbols.ensures _ _ _ c.unite-partial.ensures _ _ _ c.unite-not_found.ensures _ c.rest_known-rest.ensures
    _ _ _ c.plan.ensures _ refl _ (rw (p.1, p.2) (decide_refused _ _ _ _ _ _ c.in_err-laid.was))

pub returns-then-not-outcome_fits-clause-outcomes : goal.returns-then-not-outcome_fits-clause-outcomes
returns-then-not-outcome_fits-clause-outcomes c =
    outcomes c.requires _ _ _ c.unite-symbols.ensures _ _ _ c.unite-partial.ensures _ _ _ c.unite-not_found.ensures _ c.rest_known-rest.ensures
    _ _ _ c.plan.ensures _ c.lengths.ensures _
    (decide_short _ _ _ _ _ _ _ c.in_ok-laid.was c.outcome_fits.ensures c.if-not-outcome_fits.true)

pub returns-clause-outcomes : goal.returns-clause-outcomes
returns-clause-outcomes c =
    outcomes c.requires _ _ _ c.unite-symbols.ensures _ _ _ c.unite-partial.ensures _ _ _ c.unite-not_found.ensures _ c.rest_known-rest.ensures
    _ _ _ c.plan.ensures _ c.lengths.ensures _
    (decide_fits _ _ _ _ _ _ _ c.in_ok-laid.was c.outcome_fits.ensures c.if-not-outcome_fits.false)
