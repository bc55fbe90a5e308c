-- The three tests one after the other. Assumes nothing.
use Rattle.map_point.specs.PointsReads.{fit_odd, fit_large, fit_used}
use borrow.Author.Rules.{rules}
use Rattle.map_point.proofs.points.points_fit.Goals as goal

pub returns-then-bytes-le-ROOM : goal.returns-then-bytes-le-ROOM
returns-then-bytes-le-ROOM c = search (rules, fit_used)

pub returns-else-bytes-le-ROOM : goal.returns-else-bytes-le-ROOM
returns-else-bytes-le-ROOM c = search (rules, fit_odd, fit_large)
