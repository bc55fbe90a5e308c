-- The invariant: what is left of the intervals, on the table as it stands, is the whole. Assumes nothing.
use native.Mathlib.Omega.{arith}
use Rattle.build_time.specs.OverTimeLaws.{laying_turn, laying_end}
use Rattle.build_time.proofs.over_time.lay_intervals.Goals as goal

pub loop-k-preserved : goal.loop-k-preserved
loop-k-preserved c =
    let l = c.loop-k in
    laying_turn _ _ _ _ c.args.table.now _ l.table _ _ l.invariant (omega arith) _ _ c.interval_at-interval.ensures _ c.lay_interval.auto.table c.in_ok-then.ensures

pub returns : goal.returns
returns c =
    let l = c.loop-k in
    laying_end _ _ _ _ c.args.table.now _ _ _ _ l.invariant (omega arith)
