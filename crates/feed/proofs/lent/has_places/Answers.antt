-- The tests of the definition. Assumes nothing.
use mathlib.Core.Path.{sym, ◌∙◌}
use Rattle.feed_rules.specs.OpeningLaws.{open_none, open_spans}
use Rattle.feed.proofs.lent.has_places.Goals as goal

pub returns-then-has_places : goal.returns-then-has_places
returns-then-has_places c = open_spans _ _ _ _ _ _ (sym c.has_places.ensures ∙ c.if-has_places.true)

pub returns-else-has_places : goal.returns-else-has_places
returns-else-has_places c = c.if-has_places.false ∙ open_none _ _ _ _ _ _ (sym c.has_places.ensures ∙ c.if-has_places.false)
