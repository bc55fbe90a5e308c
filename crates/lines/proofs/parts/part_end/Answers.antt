-- A section ends behind its bytes. Assumes nothing.
use mathlib.Core.Path.{sym, ◌∙◌}
use Rattle.lines.specs.Parts.{end_none, end_some}
use Rattle.lines.proofs.parts.part_end.Goals as goal

pub returns-in_err-size-clause-whole : goal.returns-in_err-size-clause-whole
returns-in_err-size-clause-whole c = c.from_residual.ensures ∙ end_none _ _ _ (sym c.in_err-size.was ∙ c.part_size.ensures.whole)

pub returns-clause-whole : goal.returns-clause-whole
returns-clause-whole c = end_some _ _ _ (sym c.in_ok-size.was ∙ c.part_size.ensures.whole)
