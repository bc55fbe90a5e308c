-- What each turn keeps.
use Rattle.leaves_text.specs.NumberTextLaws.{Left}
use Rattle.leaves_text.proofs.number_text.number.Given as goal

abbrev pub invariant-loop-i : goal.invariant-loop-i
invariant-loop-i l = Left l.text l.digits l.from l.i l.value
