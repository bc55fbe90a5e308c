-- What each turn keeps, and what gets less.
use mathlib.Core.Path.{◌≡◌}
use Prim.Native.Nat.{◌-◌}
use lib.ListN.{length}
use Rattle.metadata_lists.specs.Name.{Going}
use Rattle.metadata_lists.proofs.name.lay_name.Given as goal

abbrev pub invariant-loop-j : goal.invariant-loop-j
invariant-loop-j l =
    Going l.linked.mappings.words.now l.linked.mappings.intervals.now l.linked.starts.now l.linked.mappings.count l.i l.initial.out l.out (length l.initial.temp) l.at l.j l.laid × (length l.temp ≡ length l.initial.temp)

abbrev pub decreases-loop-j : goal.decreases-loop-j
decreases-loop-j l = l.linked.mappings.count - l.j
