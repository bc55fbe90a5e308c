-- What each turn keeps.
use Rattle.map_point.specs.PointsReads.{Left}
use Rattle.map_point.proofs.points.well_formed.Given as goal

abbrev pub invariant-loop-place : goal.invariant-loop-place
invariant-loop-place l = Left l.table l.used l.names l.place
