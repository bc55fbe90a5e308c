-- A table that the check accepts is in order. Assumes nothing.
use Rattle.explain_main.specs.TextLaws.{check_ready}
use Rattle.explain_main.proofs.telling.Asked.new.Goals as goal

pub invariant_of-result : goal.invariant_of-result
invariant_of-result c = record { ready = check_ready _ _ _ _ c.check.ensures }
