-- What each turn keeps: the search from here on finds what the whole search does.
use Rattle.build_entry.specs.Counted.{Passed}
use Rattle.build_entry.proofs.counted.first_covering.Given as goal

abbrev pub invariant-loop-k : goal.invariant-loop-k
invariant-loop-k l = Passed l.intervals l.day l.k
