-- What each turn keeps.
use mathlib.Core.Path.{◌≡◌}
use lib.ListN.{length}
use Rattle.metadata_gather.specs.Picks.{Picking}
use Rattle.metadata_gather.proofs.picks.picks.Given as goal

abbrev pub invariant-loop-i : goal.invariant-loop-i
invariant-loop-i l =
    (length l.names ≡ length l.initial.names) × (length l.marks ≡ length l.initial.marks) × (length l.last ≡ length l.initial.last) × Picking l.mappings l.names l.marks l.last l.kept l.i
