-- What each turn keeps, and what gets less.
use mathlib.Core.Path.{◌≡◌}
use Prim.Native.Nat.{◌≤◌, ◌-◌}
use lib.ListN.{length}
use lib.Seq.{slice}
use Rattle.leaves_utf8.specs.Utf8.{is_utf8}
use Rattle.leaves_utf8.proofs.utf8.walk_end.Given as goal

abbrev pub invariant-loop-at : goal.invariant-loop-at
invariant-loop-at l =
    (l.at ≤ length l.text) × (is_utf8 (slice l.fn.at (length l.text) l.text) ≡ is_utf8 (slice l.at (length l.text) l.text))

abbrev pub decreases-loop-at : goal.decreases-loop-at
decreases-loop-at l = length l.text - l.at
