-- The words are laid one behind the other, and stand as one. Assumes nothing.
use Prim.Native.Nat.{◌≤◌}
use lib.ListN.{length}
use native.Mathlib.Omega.{arith}
use Rattle.lines.specs.LinesLaws.{lays_then}
use Rattle.lines.specs.Lines.{blank, newline}
use Rattle.explain_main.specs.Text.{line_text}
use borrow.Author.Rules.{rules}
use Rattle.explain_main.proofs.telling.line.Goals as goal

pub returns : goal.returns
unfolding line_text blank newline
returns c =
    let a = c.args in
    let h : a.at ≤ length a.text.now = omega arith in
    let l = lays_then h (lays_then h (lays_then h c.number-a.ensures.0 c.word-b.ensures) c.number-c.ensures.0) c.answer-d.ensures.0 in
    (lays_then h l c.word.ensures, search rules)
