-- What each turn keeps.
use Rattle.leaves_names.specs.Names.{names_in}
use Rattle.build_time.specs.OverTimeLaws.{Laying}
use Rattle.build_time.proofs.over_time.lay_intervals.Given as goal

abbrev pub invariant-loop-k : goal.invariant-loop-k
invariant-loop-k l = Laying l.names.list.names (names_in l.names.list) l.way l.intervals l.initial.table l.used l.table l.then l.k
