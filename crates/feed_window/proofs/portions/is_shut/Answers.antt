-- The tests of the definition, one after the other. Assumes nothing.
use borrow.Author.Tests.{lt-ltb, le-ltb, eq-eqb, ne_eqb}
use Rattle.feed_rules.specs.Adding.{shut_at}
use Rattle.feed_window.proofs.portions.is_shut.Goals as goal

pub returns-then-stream-ge-MOST_STREAMS-clause-value : goal.returns-then-stream-ge-MOST_STREAMS-clause-value
unfolding shut_at
returns-then-stream-ge-MOST_STREAMS-clause-value c = simp (le-ltb _ _ c.if-stream-ge-MOST_STREAMS.true)

pub returns-then-marks-p-eq-GONE-clause-value : goal.returns-then-marks-p-eq-GONE-clause-value
unfolding shut_at
returns-then-marks-p-eq-GONE-clause-value c =
    simp (lt-ltb _ _ c.if-stream-ge-MOST_STREAMS.false, eq-eqb _ _ c.if-marks-p-eq-GONE.true)

pub returns-else-marks-p-eq-GONE-clause-value : goal.returns-else-marks-p-eq-GONE-clause-value
unfolding shut_at
returns-else-marks-p-eq-GONE-clause-value c =
    simp (lt-ltb _ _ c.if-stream-ge-MOST_STREAMS.false, ne_eqb _ _ c.if-marks-p-eq-GONE.false, c.from.ensures)
