-- What each turn keeps.
use Rattle.leaves_names.specs.NamesLaws.{Sought}
use Rattle.leaves_names.proofs.names.Names.find.Given as goal

abbrev pub invariant-loop-n : goal.invariant-loop-n
invariant-loop-n l = Sought l.self.list.bytes.now l.self.list.ends.now l.self.list.names l.text l.start l.n
