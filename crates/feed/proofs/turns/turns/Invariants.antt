-- What each turn keeps, and what gets less.
use Rattle.records_rules.specs.Kept.{waits}
use Rattle.records_rules.specs.View.{statuses_of}
use Rattle.feed_rules.specs.Going.{Going⁺}
use Rattle.records_state.specs.Lent.{SameMemory}
use Rattle.feed.proofs.turns.turns.Given as goal

abbrev pub invariant-loop-state : goal.invariant-loop-state
invariant-loop-state l =
    let s = l.initial.state in
    let t = l.state in
    record {
      going : Going⁺ l.window s.held s.marks.now s.times.now s.places.now s.heads.now s.heap.now l.initial.spans
          t.held t.marks.now t.times.now t.places.now t.heads.now t.heap.now l.spans;
      memory : SameMemory s t;
    }

abbrev pub decreases-loop-state : goal.decreases-loop-state
decreases-loop-state l = let t = l.state in waits (statuses_of 256 t.marks.now t.times.now t.places.now t.heads.now)
