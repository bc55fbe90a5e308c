-- The words are laid one behind the other, and stand as one. Assumes nothing.
use Prim.Native.Nat.{◌≤◌}
use lib.ListN.{length}
use native.Mathlib.Omega.{arith}
use Rattle.lines.specs.LinesLaws.{lays_then, lays_same}
use Rattle.lines.specs.Lines.{blank}
use Rattle.explain_main.specs.TextLaws.{two_numbers}
use borrow.Author.Rules.{rules}
use Rattle.explain_main.proofs.telling.pair.Goals as goal

pub returns : goal.returns
unfolding blank
returns c =
    let a = c.args in
    let h : a.at ≤ length a.text.now = omega arith in
    let l = lays_then h (lays_then h (lays_then h c.word-a.ensures c.number-b.ensures.0) c.word-c.ensures) c.number.ensures.0 in
    (lays_same (two_numbers _ _) l, search rules)
