-- The stretches that were laid and those still to come are the whole list. Assumes nothing.
use Rattle.map_compare.specs.CompareLaws.{lay_on, lay_end}
use Rattle.map_compare.proofs.compare.lay.Goals as goal

pub loop-stretch-preserved : goal.loop-stretch-preserved
loop-stretch-preserved c = rw c.put_stretch.ensures (lay_on c.loop-stretch.invariant c.in-Some.ensures.steps)

pub returns-clause-list : goal.returns-clause-list
returns-clause-list c = lay_end c.loop-stretch.invariant c.in-None.ensures.steps.0
