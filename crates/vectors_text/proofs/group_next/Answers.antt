-- The next line begins behind the one at the place, and the group's no sooner. Assumes nothing.
use native.Mathlib.Omega.{arith}
use Rattle.vectors_text.proofs.group_next.Goals as goal

pub returns : goal.returns
returns c = λ h. omega (arith, c.next_line.ensures h, c.group_from.ensures)
