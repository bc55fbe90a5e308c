-- What each turn keeps.
use lib.ListN.{length}
use Rattle.leaves_names.specs.Names.{names_in}
use Rattle.build_point.specs.Mappings.{Going}
use Rattle.build_point.proofs.mappings.lay_mappings.Given as goal

abbrev pub invariant-loop-i : goal.invariant-loop-i
invariant-loop-i l =
    Going (length l.initial.table) (names_in l.names.list) l.start.direction l.start.day l.mappings.words.now l.mappings.intervals.now l.mappings.count l.table l.used l.from l.i
