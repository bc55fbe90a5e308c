-- What each turn keeps.
use mathlib.Core.Path.{◌≡◌}
use lib.ListN.{length}
use Rattle.vectors_side.proofs.list_at.Given as goal

abbrev pub invariant-loop-i : goal.invariant-loop-i
invariant-loop-i l = length l.out ≡ length l.initial.out
