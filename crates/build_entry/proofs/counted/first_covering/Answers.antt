-- A date that is none ends the search. Assumes nothing.
use native.Mathlib.Omega.{arith}
use Rattle.build_entry.specs.Counted.{passed_bad}
use Rattle.build_entry.proofs.counted.first_covering.Goals as goal

pub returns-in-Err : goal.returns-in-Err
returns-in-Err c = passed_bad _ _ _ c.loop-k.invariant (omega arith) _ c.interval_at-interval.ensures _ c.in-Err.ensures
