-- The test of the mark. Assumes nothing.
use borrow.Author.Tests.{eq-eqb, ne_eqb}
use Rattle.feed_rules.specs.Spans.{counts}
use Rattle.feed_window.proofs.portions.counting.Goals as goal

pub returns-then-mark-eq-WAITING : goal.returns-then-mark-eq-WAITING
unfolding counts
returns-then-mark-eq-WAITING c = simp (eq-eqb _ _ c.if-mark-eq-WAITING.true)

pub returns-else-mark-eq-WAITING : goal.returns-else-mark-eq-WAITING
unfolding counts
returns-else-mark-eq-WAITING c = simp (ne_eqb _ _ c.if-mark-eq-WAITING.false)
