-- What each turn keeps.
use Rattle.leaves_names.specs.NamesLaws.{Walked}
use Rattle.leaves_names.proofs.names.NameList.is_formed.Given as goal

abbrev pub invariant-loop-last : goal.invariant-loop-last
invariant-loop-last l = Walked l.self.bytes.now l.self.ends.now l.self.names l.self.name_bytes l.start l.last-index
