-- What each turn keeps.
use Rattle.metadata_gather.specs.Arrivals.{NotYet}
use Rattle.metadata_gather.proofs.arrivals.first_place.Given as goal

abbrev pub invariant-loop-i : goal.invariant-loop-i
invariant-loop-i l = NotYet l.numbers l.x l.i
