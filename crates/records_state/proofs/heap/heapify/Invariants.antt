-- What each turn keeps.
use Rattle.records_rules.specs.Sift.{Heaped}
use Rattle.records_state.proofs.heap.heapify.Given as goal

abbrev pub invariant-loop-k : goal.invariant-loop-k
invariant-loop-k l = Heaped l.times l.held l.initial.heap l.heap l.k
