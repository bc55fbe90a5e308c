-- What each turn keeps, and what gets less.
use mathlib.Core.Path.{◌≡◌}
use Prim.Native.Nat.{◌-◌, ◌≤◌}
use lib.ListN.{length}
use Rattle.standard.proofs.read_input.Given as goal

abbrev pub invariant-loop-used : goal.invariant-loop-used
invariant-loop-used g l = (l.used ≤ length l.space) × (length l.space ≡ length l.initial.space)

abbrev pub decreases-loop-used : goal.decreases-loop-used
decreases-loop-used g l = length l.space - l.used
