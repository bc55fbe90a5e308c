-- What each turn keeps.
use Rattle.map_rules.specs.Search.{Walked}
use Rattle.map_table.specs.Interval.{row_of}
use Rattle.map_moves.proofs.search.pass.Given as goal

abbrev pub invariant-loop-hi : goal.invariant-loop-hi
invariant-loop-hi l = Walked l.table l.used (row_of l.n) l.hi
