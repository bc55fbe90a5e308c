-- What each turn keeps.
use Rattle.records_rules.specs.Opening.{Laying}
use Rattle.records_state.specs.Lent.{SameMemory}
use Rattle.records_state.proofs.state.State.lay_streams.Given as goal

abbrev pub invariant-loop-i : goal.invariant-loop-i
invariant-loop-i l =
    record {
      laying : Laying l.streams l.i l.hints l.initial.self.marks.now l.initial.self.times.now l.initial.self.places.now
          l.initial.self.heads.now l.initial.self.heap.now l.self.marks.now l.self.times.now l.self.places.now l.self.heads.now
          l.self.heap.now;
      memory : SameMemory l.initial.self l.self;
    }
