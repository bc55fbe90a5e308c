-- What each turn keeps, and what gets less.
use mathlib.Core.Path.{◌≡◌}
use Rattle.records_rules.specs.Bytes.{streams_of}
use Rattle.records_rules.specs.Kept.{waits}
use Rattle.records_rules.specs.View.{statuses_of}
use Rattle.records_state.specs.Lent.{SameMemory}
use Rattle.records_plain.specs.PlainSteps.{Scanning}
use Rattle.records_plain.proofs.plain.turns.Given as goal

abbrev pub invariant-loop-p : goal.invariant-loop-p
invariant-loop-p l =
    let s = l.initial.state in
    let t = l.state in
    record {
      scanning : Scanning (streams_of l.buffer l.cuts) s.held s.marks.now s.times.now s.places.now s.heads.now
          t.marks.now t.times.now t.places.now t.heads.now;
      memory : SameMemory s t;
      held : t.held ≡ s.held;
      heap : t.heap ≡ s.heap;
    }

abbrev pub decreases-loop-p : goal.decreases-loop-p
decreases-loop-p l = waits (statuses_of l.state.held l.state.marks.now l.state.times.now l.state.places.now l.state.heads.now)
