-- The number tells bad memory from every other refusal. Assumes nothing.
use mathlib.Core.Path.{sym, ◌∙◌}
use borrow.Author.Tests.{eq-eqb, ne_eqb}
use Rattle.door_run.specs.Handing.{moved_in}
use Rattle.door_run.proofs.run.moved.Goals as goal

pub returns-then-number-eq-BAD_MEMORY : goal.returns-then-number-eq-BAD_MEMORY
unfolding moved_in
returns-then-number-eq-BAD_MEMORY c = simp (eq-eqb _ _ (sym c.number.ensures ∙ c.if-number-eq-BAD_MEMORY.true))

pub returns : goal.returns
unfolding moved_in
returns c = simp (ne_eqb _ _ (λ e. c.if-number-eq-BAD_MEMORY.false (c.number.ensures ∙ e)))
