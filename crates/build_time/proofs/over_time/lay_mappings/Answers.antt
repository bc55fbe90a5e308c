-- The invariant: what is left of the mappings, on the table as it stands, is the whole. Assumes nothing.
use native.Mathlib.Omega.{arith}
use Rattle.std.proofs.lemmas.Result.{err_from_is_err_and}
use Rattle.build_time.specs.OverTimeMappings.{mapping_start_lem, mapping_within, mapping_turn, mapping_stop, mapping_end}
use Rattle.build_time.proofs.over_time.lay_mappings.Goals as goal

pub loop-t-init : goal.loop-t-init
loop-t-init c = mapping_start_lem _ _ _ _ _ _ _ c.requires.0

pub intervals_at-intervals-requires : goal.intervals_at-intervals-requires
intervals_at-intervals-requires c =
    let l = c.loop-t in
    mapping_within _ _ _ _ _ _ c.args.table.now l.table _ _ _ l.invariant (omega arith) _ c.count_at-n.ensures c.requires.2

pub returns-in_err-used : goal.returns-in_err-used
returns-in_err-used c =
    let l = c.loop-t in
    let p = err_from_is_err_and c.from_residual.result c.from_residual.ensures.1 in
    rw (p.1, p.2) (mapping_stop _ _ _ _ _ _ c.args.table.now l.table _ _ _ l.invariant (omega arith) _ _ _ c.name_at-name.ensures c.count_at-n.ensures
    c.intervals_at-intervals.ensures _ c.in_err-used.ensures)

pub overflow_add-from : goal.overflow_add-from
overflow_add-from c =
    let l = c.loop-t in
    omega (
      arith,
      c.ranges,
      mapping_within _ _ _ _ _ _ c.args.table.now l.table _ _ _ l.invariant (omega arith) _ c.count_at-n.ensures c.requires.2,
    )

pub loop-t-preserved : goal.loop-t-preserved
loop-t-preserved c =
    let l = c.loop-t in
    mapping_turn _ _ _ _ _ _ c.args.table.now l.table _ _ _ l.invariant (omega arith) _ _ _ c.name_at-name.ensures c.count_at-n.ensures
    c.intervals_at-intervals.ensures _ c.lay_mapping.auto.table c.in_ok-used.ensures

pub returns : goal.returns
returns c =
    let l = c.loop-t in
    mapping_end _ _ _ _ _ _ c.args.table.now l.table _ _ _ l.invariant (omega arith)
