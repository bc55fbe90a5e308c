-- What each turn keeps.
use mathlib.Core.Path.{◌≡◌}
use Prim.Native.Nat.{◌≤◌, ◌+◌}
use lib.ListN.{length, take}
use Rattle.metadata_rules.specs.Metadata.{add_all}
use Rattle.metadata_gather.specs.Arrivals.{AllAdded}
use Rattle.metadata_gather.proofs.arrivals.add_all.Given as goal

abbrev pub invariant-loop-x : goal.invariant-loop-x
invariant-loop-x l =
    (l.held ≤ l.count + l.x-index) × (length l.numbers ≡ length l.initial.numbers) × (length l.marks ≡ length l.initial.marks) × AllAdded (add_all (take l.count l.initial.numbers) (take l.x-index l.added)) l.held l.numbers l.marks
