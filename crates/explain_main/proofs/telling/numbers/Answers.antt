-- Two numbers, then two more. Assumes nothing.
use mathlib.Core.Path.{sym}
use Prim.Native.Nat.{◌≤◌}
use lib.ListN.{length}
use native.Mathlib.Omega.{arith}
use Rattle.lines.specs.LinesLaws.{lays_then, lays_same}
use Rattle.explain_main.specs.TextLaws.{numbers_more}
use borrow.Author.Rules.{rules}
use Rattle.explain_main.proofs.telling.numbers.Goals as goal

pub returns : goal.returns
returns c =
    let a = c.args in
    let h : a.at ≤ length a.text.now = omega arith in
    (lays_same (sym (numbers_more _ _)) (lays_then h c.pair-a.ensures.0 c.pair.ensures.0), search rules)
