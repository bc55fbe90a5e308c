-- `sides::count_up` meets its contract. The invariant: the places passed hold their own numbers. Assumes nothing.
use mathlib.Core.Path.{refl}
use lib.ListN.{length-set}
use Rattle.metadata_gather.specs.Sides.{Counted, counted_none, counted_more}
use native.Mathlib.Omega.{arith}
use Rattle.metadata_gather.proofs.sides.count_up.Goals as goal

pub loop-i-init : goal.loop-i-init
loop-i-init c = (refl, counted_none _)

pub loop-i-preserved : goal.loop-i-preserved
loop-i-preserved c = (simp length-set c.loop-i.invariant.0, counted_more _ _ c.loop-i.invariant.1 (omega arith))

pub returns : goal.returns
unfolding Counted
returns c = λ t h. c.loop-i.invariant.1 t (omega arith)
