-- The next line begins behind the one at the place. Assumes nothing.
use native.Mathlib.Omega.{arith}
use Rattle.vectors_text.proofs.run_group.Goals as goal

pub loop-at-smaller : goal.loop-at-smaller
loop-at-smaller g c = omega (arith, c.group_next-at.ensures (omega arith))
