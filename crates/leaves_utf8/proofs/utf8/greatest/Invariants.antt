-- What each turn keeps.
use Rattle.leaves_utf8.specs.Utf8.{Upto}
use Rattle.leaves_utf8.proofs.utf8.greatest.Given as goal

abbrev pub invariant-loop-x : goal.invariant-loop-x
invariant-loop-x l = Upto l.text 0 l.x-index l.most
