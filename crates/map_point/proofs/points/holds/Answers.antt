-- The place is tested, then the entry's instrument. Assumes nothing.
use Rattle.map_point.specs.PointsReads.{holds_past, holds_own}
use borrow.Author.Rules.{rules}
use Rattle.map_point.proofs.points.holds.Goals as goal

pub returns-then-place-used : goal.returns-then-place-used
returns-then-place-used c = search (rules, holds_own)

pub returns-else-place-used : goal.returns-else-place-used
returns-else-place-used c = search (rules, holds_past)
