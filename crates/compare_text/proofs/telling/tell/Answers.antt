-- The two parts of the line stand as one. Assumes nothing.
use native.Mathlib.Omega.{arith}
use Prim.Native.Nat.{◌≤◌}
use lib.ListN.{length}
use Rattle.lines.specs.LinesLaws.{lays_then}
use Rattle.compare_text.specs.Text.{stretch_line}
use borrow.Author.Rules.{rules}
use Rattle.compare_text.proofs.telling.tell.Goals as goal

pub returns : goal.returns
unfolding stretch_line
returns c =
    let h : c.args.at ≤ length c.args.text.now = omega arith in
    (lays_then h c.numbers-a.ensures.0 c.sides.ensures.0, search rules)
