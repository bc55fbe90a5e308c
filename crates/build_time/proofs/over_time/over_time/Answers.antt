-- A refusal of the lent memory leaves the emptied table; else the build. Assumes nothing.
use Rattle.std.proofs.lemmas.Result.{err_from_is_err_and}
use Rattle.metadata_form.specs.Header.{lent}
use Rattle.build_time.specs.OverTimeMappings.{emptied_settled, over_refused, over_ready, over_built}
use Rattle.build_time.proofs.over_time.over_time.Goals as goal

pub returns-in_err-names : goal.returns-in_err-names
returns-in_err-names c =
    let a = c.args in
    let p = err_from_is_err_and c.from_residual.result c.from_residual.ensures.1 in
    let o = over_refused a.table.now a.header (lent a.lists) a.list.bytes.now a.list.ends.now _ _ c.fill.new.self (c.fill.ensures.after (λ y e. e))
    c.table_fits-of_form.ensures _ c.in_err-names.ensures.answered in
    rw (p.1, p.2) (record { result_value = o.result_value; table_after = o.table_after; rows_after = o.rows_after })

pub returns : goal.returns
returns c =
    let a = c.args in
    let b = c.build.ensures in
    let long = c.build.auto.table in
    let o = over_built a.table.now a.header (lent a.lists) a.list.bytes.now a.list.ends.now _ _ c.fill.new.self (c.fill.ensures.after (λ y e. e))
    c.table_fits-of_form.ensures c.in_ok-names.ensures.answered _ _ long (rw c.in_ok-names.ensures.same at b.lays) in
    rw (emptied_settled c.build.result _ (rw (← long) at b.emptied)) (record { result_value = o.result_value; table_after = o.table_after; rows_after = o.rows_after })

pub build-requires : goal.build-requires
build-requires c =
    let a = c.args in
    rw c.in_ok-names.ensures.same (over_ready a.table.now a.header (lent a.lists) a.list.bytes.now a.list.ends.now _ _ c.fill.new.self
    (c.fill.ensures.after (λ y e. e)) c.table_fits-of_form.ensures c.in_ok-names.ensures.answered)
