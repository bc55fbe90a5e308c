-- `vectors_leaves::run` meets its contract: it is safe and ends; the measure is what is left of the text, and each line takes some of it. Assumes nothing.
use native.Mathlib.Omega.{arith}
use Rattle.vectors_leaves.proofs.run.Goals as goal

pub loop-at-smaller : goal.loop-at-smaller
loop-at-smaller g c = omega (arith, c.next_line-at.ensures (omega arith))
