-- 9, on a table that is empty, or the mappings, settled. Assumes nothing.
use Rattle.std.proofs.lemmas.Result.{err_from_is_err_and}
use Rattle.build_time.specs.OverTimeMappings.{directed_stops, directed_laid, holds_none, lays_settled, settled_empties}
use Rattle.build_time.proofs.over_time.build.Goals as goal

pub returns-in_err-direction-clause-lays : goal.returns-in_err-direction-clause-lays
returns-in_err-direction-clause-lays c =
    let p = err_from_is_err_and c.from_residual.result c.from_residual.ensures.1 in
    rw (p.1, p.2) (directed_stops _ c.args.table.now _ _ _ _ _ _ c.in_err-direction.ensures)

pub returns-in_err-direction-clause-emptied : goal.returns-in_err-direction-clause-emptied
returns-in_err-direction-clause-emptied c =
    let p = err_from_is_err_and c.from_residual.result c.from_residual.ensures.1 in
    rw p.1 (holds_none _ _ c.requires.0)

pub returns-clause-lays : goal.returns-clause-lays
returns-clause-lays c =
    rw (c.settle.ensures.same, c.settle.ensures.memory)
    (lays_settled _ _ (directed_laid _ c.args.table.now _ _ _ _ _ _ _ c.in_ok-direction.ensures c.lay_mappings-laid.ensures))

pub returns-clause-emptied : goal.returns-clause-emptied
returns-clause-emptied c =
    rw (c.settle.ensures.same, c.settle.ensures.memory, ← c.lay_mappings-laid.auto.table) (settled_empties _ _)
