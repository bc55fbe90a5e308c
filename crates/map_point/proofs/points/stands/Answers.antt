-- The symbol is tested, then the next entry, if there is one. Assumes nothing.
use Rattle.map_point.specs.PointsReads.{stands_unknown, stands_last, stands_next}
use borrow.Author.Rules.{rules}
use Rattle.map_point.proofs.points.stands.Goals as goal

pub returns-then-place-used : goal.returns-then-place-used
returns-then-place-used c = search (rules, stands_last)

pub returns-else-place-used : goal.returns-else-place-used
returns-else-place-used c = search (rules, stands_next)

pub returns-else-x-names : goal.returns-else-x-names
returns-else-x-names c = search (rules, stands_unknown)
