-- What each turn keeps.
use Rattle.std.specs.Prelude.{◌/◌, length}
use Rattle.explain_main.specs.Portions.{Telling}
use Rattle.explain_main.proofs.telling.lay_portion.Given as goal

abbrev pub invariant-loop-k : goal.invariant-loop-k
invariant-loop-k l = Telling l.asked.table.now l.asked.used l.asked.checked l.questions (length l.questions / 12) l.from l.k l.at l.initial.text l.text
