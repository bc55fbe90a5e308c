-- The words are laid one behind the other, and stand as one. Assumes nothing.
use native.Mathlib.Omega.{arith}
use Prim.Native.Nat.{◌≤◌}
use lib.ListN.{length}
use Rattle.lines.specs.LinesLaws.{lays_then}
use Rattle.lines.specs.Lines.{blank}
use Rattle.compare_text.specs.Text.{numbers_text}
use borrow.Author.Rules.{rules}
use Rattle.compare_text.proofs.telling.numbers.Goals as goal

pub returns : goal.returns
unfolding numbers_text blank
returns c =
    let a = c.args in
    let h : a.at ≤ length a.text.now = omega arith in
    let w0 = c.number-a.ensures.0 in
    let w1 = c.word-b.ensures in
    let w2 = c.number-c.ensures.0 in
    let w3 = c.word-d.ensures in
    let w4 = c.number-e.ensures.0 in
    (lays_then h (lays_then h (lays_then h (lays_then h (lays_then h w0 w1) w2) w3) w4) c.word.ensures, search rules)
