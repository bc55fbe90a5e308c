-- What each turn keeps, and what gets less.
use Rattle.records_rules.specs.Bytes.{streams_of}
use Rattle.records_rules.specs.Kept.{waits}
use Rattle.records_rules.specs.View.{statuses_of}
use Rattle.records_rules.specs.Steps.{Going}
use Rattle.records_state.specs.Lent.{SameMemory}
use Rattle.records.proofs.merge.turns.Given as goal

abbrev pub invariant-loop-state : goal.invariant-loop-state
invariant-loop-state l =
    let s = l.initial.state in
    let t = l.state in
    record {
      going : Going (streams_of l.buffer l.cuts) s.held s.marks.now s.times.now s.places.now s.heads.now s.heap.now
          t.held t.marks.now t.times.now t.places.now t.heads.now t.heap.now;
      memory : SameMemory s t;
    }

abbrev pub decreases-loop-state : goal.decreases-loop-state
decreases-loop-state l = waits (statuses_of 256 l.state.marks.now l.state.times.now l.state.places.now l.state.heads.now)
