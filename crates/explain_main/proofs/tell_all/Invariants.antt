-- What each turn keeps, and what gets less.
use Rattle.std.specs.Prelude.{◌≡◌, ◌-◌, ◌/◌, ◌≤◌, length}
use Rattle.explain_main.proofs.tell_all.Given as goal

abbrev pub invariant-loop-next : goal.invariant-loop-next
invariant-loop-next g l = (l.next ≤ length l.questions / 12) × (length l.text ≡ length l.initial.text)

abbrev pub decreases-loop-next : goal.decreases-loop-next
decreases-loop-next g l = length l.questions / 12 - l.next
