-- A refusal of the lent memory or of the start leaves the emptied table; else the mappings, settled. Assumes nothing.
use Rattle.std.proofs.lemmas.Result.{err_from_is_err_and}
use Rattle.metadata_form.specs.Header.{lent}
use Rattle.build_point.specs.BuildLaws.{ends_unlent, ends_lists, ends_begun, ends_laid, clean_zeros}
use Rattle.build_point.proofs.build.point_in_time.Goals as goal

pub returns-in_err-names : goal.returns-in_err-names
returns-in_err-names c =
    let a = c.args in
    let p = err_from_is_err_and c.from_residual.result c.from_residual.ensures.1 in
    let o = ends_unlent _ a.header (lent a.lists) a.list.bytes.now a.list.ends.now _ _ a.date c.fill.new.self (c.fill.ensures.after (λ y e. e))
    c.points_fit-of_form.ensures _ c.in_err-names.ensures.answered in
    rw (p.1, p.2) (record { answered = o.answered; memory = o.memory })

pub returns-in_err-start : goal.returns-in_err-start
returns-in_err-start c =
    let a = c.args in
    let p = err_from_is_err_and c.from_residual-in_err-start.result c.from_residual-in_err-start.ensures.1 in
    let o = ends_begun _ a.header (lent a.lists) a.list.bytes.now a.list.ends.now _ _ a.date c.fill.new.self (c.fill.ensures.after (λ y e. e))
    c.points_fit-of_form.ensures c.in_ok-names.ensures.answered _ c.in_err-start.ensures in
    rw (p.1, p.2) (record { answered = o.answered; memory = o.memory })

pub lay_mappings-laid-requires : goal.lay_mappings-laid-requires
lay_mappings-laid-requires c =
    let a = c.args in
    record {
      clean = clean_zeros _ _ (c.fill.ensures.after (λ y e. e));
      count_in_bounds = ends_lists _ a.header (lent a.lists) a.list.bytes.now a.list.ends.now _ _ a.date c.fill.new.self (c.fill.ensures.after (λ y e. e))
          c.points_fit-of_form.ensures c.in_ok-names.ensures.answered;
    }

pub returns : goal.returns
returns c =
    let a = c.args in
    let o = ends_laid _ a.header (lent a.lists) a.list.bytes.now a.list.ends.now _ _ a.date c.fill.new.self (c.fill.ensures.after (λ y e. e))
    c.points_fit-of_form.ensures c.in_ok-names.ensures.answered _ c.in_ok-start.ensures _ _ c.lay_mappings-laid.auto.table
    (rw c.in_ok-names.ensures.same at c.lay_mappings-laid.ensures) in
    rw (c.settle.ensures.same, c.settle.ensures.memory) (record { answered = o.answered; memory = o.memory })
