-- What each turn keeps: the elements before the place are copied.
use mathlib.Core.Path.{◌≡◌}
use lib.Seq.{paste}
use Rattle.leaves_fields.proofs.copies.copy.Given as goal

abbrev pub invariant-loop-i : goal.invariant-loop-i
invariant-loop-i g l = l.to ≡ paste l.initial.to 0 l.from l.i
