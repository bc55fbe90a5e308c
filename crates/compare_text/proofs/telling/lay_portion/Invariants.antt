-- What each turn keeps, and what gets less.
use mathlib.Core.Path.{◌≡◌}
use lib.ListN.{length}
use Rattle.map_compare_walk.specs.Stretches.{rest}
use Rattle.compare_text.specs.Portions.{Telling}
use Rattle.compare_text.proofs.telling.lay_portion.Given as goal

abbrev pub invariant-loop-text : goal.invariant-loop-text
invariant-loop-text l =
    Telling (rest l.initial.walk) (rest l.walk) l.at l.initial.text l.text × (l.walk.tables ≡ l.initial.walk.tables)

abbrev pub decreases-loop-text : goal.decreases-loop-text
decreases-loop-text l = length (rest l.walk)
