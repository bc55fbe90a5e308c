-- The invariant: the place never falls below where it began; the measure is what is left of the text. Assumes nothing.
use native.Mathlib.Omega.{arith}
use Rattle.vectors_text.proofs.group_from.Goals as goal

pub loop-at-smaller : goal.loop-at-smaller
loop-at-smaller c = omega (arith, c.next_line-at.ensures (omega arith))

pub loop-at-preserved : goal.loop-at-preserved
loop-at-preserved c = omega (arith, c.next_line-at.ensures (omega arith))
