-- What each turn keeps, and what gets less.
use mathlib.Core.Path.{◌≡◌}
use Prim.Native.Nat.{◌+◌, ◌-◌, ◌*◌, ◌≤◌}
use lib.ListN.{length}
use Rattle.lines.specs.SectionsLaws.{Taking}
use Rattle.lines.proofs.sections.part.Given as goal

abbrev pub invariant-loop-at : goal.invariant-loop-at
invariant-loop-at l =
    (length l.buffer ≡ length l.initial.buffer) × (length l.cuts ≡ length l.initial.cuts) × (l.at ≤ length l.bundle)
    × (l.bytes + 6 * l.count ≡ l.at) × (l.count ≤ 256) × Taking l.bundle l.buffer l.cuts l.at l.bytes l.count

abbrev pub decreases-loop-at : goal.decreases-loop-at
decreases-loop-at l = length l.bundle - l.at
