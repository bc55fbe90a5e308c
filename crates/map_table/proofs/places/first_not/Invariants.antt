-- What each turn keeps, and what gets less.
use Prim.Native.Nat.{ℕ, ◌+◌, ◌-◌, ◌≤◌, ◌<◌}
use mathlib.Core.Path.{◌≡◌}
use mathlib.Core.Bool.{true, false}
use Rattle.map_table.proofs.places.first_not.Given as goal

abbrev pub invariant-loop-low : goal.invariant-loop-low
invariant-loop-low g l =
    (l.low ≤ l.high) × (l.high ≤ l.count) × ((k : ℕ) → k + 1 ≡ l.low → goal.F-post g l.is_before k true) × (l.high < l.count → goal.F-post g l.is_before l.high false)

abbrev pub decreases-loop-low : goal.decreases-loop-low
decreases-loop-low g l = l.high - l.low
