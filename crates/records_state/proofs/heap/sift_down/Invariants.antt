-- What each turn keeps, and what gets less.
use Prim.Native.Nat.{◌-◌}
use Rattle.records_rules.specs.Sift.{Holding}
use Rattle.records_state.proofs.heap.sift_down.Given as goal

abbrev pub invariant-loop-hole : goal.invariant-loop-hole
invariant-loop-hole l = Holding l.times l.held l.from l.moving.stream l.hole l.initial.heap l.heap

abbrev pub decreases-loop-hole : goal.decreases-loop-hole
decreases-loop-hole l = l.held - l.hole
