-- What each turn keeps.
use mathlib.Core.Path.{◌≡◌}
use lib.ListN.{length}
use Rattle.metadata_gather.specs.Sides.{Counted}
use Rattle.metadata_gather.proofs.sides.count_up.Given as goal

abbrev pub invariant-loop-i : goal.invariant-loop-i
invariant-loop-i l = (length l.places ≡ length l.initial.places) × Counted l.places l.i
