-- What each turn keeps.
use mathlib.Core.Path.{◌≡◌}
use lib.ListN.{length}
use Rattle.metadata_lists.specs.NamesLaying.{Laying}
use Rattle.metadata_lists.proofs.names.lay_names.Given as goal

abbrev pub invariant-loop-i : goal.invariant-loop-i
invariant-loop-i l =
    Laying l.linked.mappings.words.now l.linked.mappings.count l.linked.mappings.intervals.now l.linked.starts.now l.linked.firsts.now l.initial.out_mappings l.out_mappings l.initial.out_intervals l.out_intervals l.i l.laid.mappings l.laid.intervals × (length l.temp ≡ length l.initial.temp)
