-- The tests of the definition. Assumes nothing.
use borrow.Author.Tests.{eq-eqb, ne_eqb}
use Rattle.feed_rules.specs.Adding.{word_fits}
use Rattle.feed_window.proofs.portions.words_fit.Goals as goal

pub returns-then-marks-eq-PLACES-clause-value : goal.returns-then-marks-eq-PLACES-clause-value
unfolding word_fits
returns-then-marks-eq-PLACES-clause-value c = simp (eq-eqb _ _ c.if-marks-eq-PLACES.true)

pub returns-else-marks-eq-PLACES-clause-value : goal.returns-else-marks-eq-PLACES-clause-value
unfolding word_fits
returns-else-marks-eq-PLACES-clause-value c = simp (ne_eqb _ _ c.if-marks-eq-PLACES.false)
