-- What each turn keeps.
use mathlib.Core.Path.{◌≡◌}
use Prim.Native.Nat.{◌≤◌, ◌+◌, ◌-◌, ◌*◌}
use lib.ListN.{length}
use Rattle.metadata_words.specs.Words.{lay_intervals, rest}
use Rattle.metadata_words.proofs.words.copy_intervals.Given as goal

abbrev pub invariant-loop-i : goal.invariant-loop-i
invariant-loop-i l =
    (l.i ≤ l.to) × (length l.out ≡ length l.initial.out) × (3 * (l.k + (l.to - l.i)) ≤ length l.out) × (lay_intervals l.out l.k (rest l.intervals l.i l.to) ≡ lay_intervals l.initial.out l.at (rest l.intervals l.from l.to))
