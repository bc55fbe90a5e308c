-- What each turn keeps.
use mathlib.Core.Path.{◌≡◌}
use Prim.Native.Nat.{◌+◌}
use Rattle.metadata_gather.specs.Sides.{Following}
use Rattle.metadata_gather.proofs.sides.lay_places.Given as goal

abbrev pub invariant-loop-i : goal.invariant-loop-i
invariant-loop-i l =
    (l.so_far.mappings ≡ l.fn.laid.mappings + l.i) × Following l.mappings.words.now l.mappings.intervals.now l.starts l.places l.count l.initial.both_mappings l.both_mappings l.fn.laid.mappings l.initial.both_intervals l.both_intervals l.fn.laid.intervals l.so_far.intervals l.i
