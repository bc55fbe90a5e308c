-- The two cases of the definition. Assumes nothing.
use borrow.Author.Tests.{eq-eqb, ne_eqb}
use Rattle.leaves.specs.Frame.{mapping_start}
use Rattle.leaves.proofs.frame.mapping_start.Goals as goal

pub returns-then-time-eq-MISSING : goal.returns-then-time-eq-MISSING
unfolding mapping_start
returns-then-time-eq-MISSING c = simp (eq-eqb _ _ c.if-time-eq-MISSING.true)

pub returns-else-time-eq-MISSING : goal.returns-else-time-eq-MISSING
unfolding mapping_start
returns-else-time-eq-MISSING c = simp (ne_eqb _ _ c.if-time-eq-MISSING.false)
