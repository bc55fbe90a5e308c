-- The invariant: the check from the place on is the whole check. Assumes nothing.
use Rattle.map_point.specs.PointsReads.{left_start, left_on, left_fault, left_end}
use borrow.Author.Rules.{rules}
use Rattle.map_point.proofs.points.well_formed.Goals as goal

pub loop-place-init : goal.loop-place-init
loop-place-init c = search (rules, left_start)

pub returns-then-not-stands : goal.returns-then-not-stands
returns-then-not-stands c = search (rules, left_fault)

pub loop-place-preserved : goal.loop-place-preserved
loop-place-preserved c = search (rules, left_on)

pub returns : goal.returns
returns c = search (rules, left_end)
