-- What each turn keeps: what the run is to hand back is what is handed back from here on.
use Rattle.std.specs.Prelude.{ℕ}
use Rattle.run_rules.specs.RowsLaws.{Here}
use Rattle.run_list.proofs.run.steps.Given as goal

abbrev pub invariant-loop-at : goal.invariant-loop-at
invariant-loop-at g l =
    g.C.Calls.room l.calls l.state × g.C.Calls.leaves l.initial.calls l.initial.state l.calls l.state
    × ((n : ℕ) (m : g.C.Calls.Machine) → g.C.Calls.shows l.initial.calls l.initial.state n m
    → (o : g.C.Calls.Machine)
    × Here (g.C.Calls.say l.initial.calls) (g.C.Calls.go l.initial.calls) l.limit m l.initial.list l.at o l.list
    × g.C.Calls.shows l.calls l.state n o)
