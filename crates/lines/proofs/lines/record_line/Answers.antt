-- The words are laid one behind the other, and stand as one. Assumes nothing.
use native.Mathlib.Omega.{arith}
use Prim.Native.Nat.{◌≤◌}
use lib.ListN.{length}
use Rattle.lines.specs.Lines.{record_line, blank, newline}
use Rattle.lines.specs.LinesLaws.{lays_then}
use borrow.Author.Rules.{rules}
use Rattle.lines.proofs.lines.record_line.Goals as goal

pub returns : goal.returns
unfolding record_line blank newline
returns c =
    let w0 = c.number-a.ensures.0 in
    let w1 = c.word-b.ensures in
    let w2 = c.number-c.ensures.0 in
    let w3 = c.word-d.ensures in
    let w4 = c.number-e.ensures.0 in
    let w5 = c.word.ensures in
    let h : c.args.at ≤ length
    c.args.text.now = omega arith in (
      lays_then h (lays_then h (lays_then h (lays_then h (lays_then h w0 w1) w2) w3) w4) w5,
      search rules,
    )
