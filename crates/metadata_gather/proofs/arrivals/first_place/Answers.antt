-- `arrivals::first_place` meets its contract. The invariant: none of the places passed holds x. Assumes nothing.
use mathlib.Core.Path.{subst}
use Rattle.metadata_gather.specs.Arrivals.{NotYet, not_yet_none, not_yet_more, found_at, found_none}
use native.Mathlib.Omega.{arith}
use Rattle.metadata_gather.proofs.arrivals.first_place.Goals as goal

pub loop-i-init : goal.loop-i-init
loop-i-init c = not_yet_none _ _

pub returns-then-numbers-i : goal.returns-then-numbers-i
returns-then-numbers-i c = found_at _ _ _ c.loop-i.invariant c.loop-i-test.true c.if-numbers-i.true

pub loop-i-preserved : goal.loop-i-preserved
loop-i-preserved c = not_yet_more _ _ _ c.loop-i.invariant c.if-numbers-i.false

pub returns : goal.returns
returns c = found_none _ _ (subst (NotYet _ _) (omega arith) c.loop-i.invariant)
