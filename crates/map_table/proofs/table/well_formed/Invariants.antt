-- What each turn keeps, and what gets less.
use Prim.Native.Nat.{◌-◌}
use Rattle.map_rules.specs.Checks.{Sofar}
use Rattle.map_table.specs.Interval.{row_of}
use Rattle.map_table.proofs.table.well_formed.Given as goal

abbrev pub invariant-loop-k : goal.invariant-loop-k
invariant-loop-k l = Sofar l.table l.used l.names l.k (row_of l.x)

abbrev pub decreases-loop-k : goal.decreases-loop-k
decreases-loop-k l = l.used - l.k
