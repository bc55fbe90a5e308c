-- What each turn keeps.
use mathlib.Core.Path.{◌≡◌}
use mathlib.Core.Bool.{true}
use Rattle.metadata_words.specs.Words.{rest}
use Rattle.metadata_gather.specs.Judge.{judged_by}
use Rattle.metadata_gather.proofs.judge.judge.Given as goal

abbrev pub invariant-loop-i : goal.invariant-loop-i
invariant-loop-i l =
    (judged_by l.names l.all_known l.all_forward (rest l.intervals l.i l.count) ≡ judged_by l.names l.known true (rest l.intervals 0 l.count))
