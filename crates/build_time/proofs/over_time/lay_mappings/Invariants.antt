-- What each turn keeps.
use Rattle.leaves_names.specs.Names.{names_in}
use Rattle.build_time.specs.OverTimeMappings.{Mapped}
use Rattle.build_time.proofs.over_time.lay_mappings.Given as goal

abbrev pub invariant-loop-t : goal.invariant-loop-t
invariant-loop-t l =
    Mapped l.names.list.names (names_in l.names.list) l.direction l.mappings.words.now l.mappings.intervals.now l.mappings.count l.initial.table l.table l.used l.from l.t
