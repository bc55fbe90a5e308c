-- The entry before the answer is below the instrument, the one at it is not. Assumes nothing.
use borrow.Author.Rules.{rules, of_calls}
use Rattle.std.proofs.Common.{le_refl}
use Rattle.map_table.specs.Places.{divided}
use Rattle.map_point.specs.PointsReads.{bracket_placed}
use Rattle.map_point.proofs.points.place_of.Goals as goal

pub returns : goal.returns
returns c = bracket_placed (le_refl _) (divided c.first_not.ensures (λ k b z. search (rules, of_calls)))
