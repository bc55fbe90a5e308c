-- Two places an interval suffice, or the stretches are counted. Assumes nothing.
use mathlib.Core.Path.{ap}
use lib.ListN.{length}
use Rattle.std.proofs.Common.{inl, arith}
use Rattle.map_compare.specs.CompareLaws.{needed_none}
use Rattle.map_compare_walk.specs.StretchesLaws.{in_order, few_stretches}
use Rattle.map_compare.proofs.compare.needed.Goals as goal

pub count-requires-clause-fits : goal.count-requires-clause-fits
count-requires-clause-fits c = inl (omega (arith, ap length c.new.ensures, few_stretches _ _ _ _ (in_order c.args.tables)))

pub returns-then-tables-room : goal.returns-then-tables-room
returns-then-tables-room c = needed_none _ _ _ _ _ c.if-tables-room.true
