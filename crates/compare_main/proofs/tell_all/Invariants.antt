-- What each turn keeps, and what gets less.
use mathlib.Core.Path.{◌≡◌}
use lib.ListN.{length}
use Rattle.map_compare_walk.specs.Stretches.{rest}
use Rattle.compare_main.proofs.tell_all.Given as goal

abbrev pub invariant-loop-walk : goal.invariant-loop-walk
invariant-loop-walk g l = length l.text ≡ length l.initial.text

abbrev pub decreases-loop-walk : goal.decreases-loop-walk
decreases-loop-walk g l = length (rest l.walk)
