-- The word, then the numbers. Assumes nothing.
use native.Mathlib.Omega.{arith}
use Rattle.std.specs.Prelude.{◌≤◌, length}
use Rattle.lines.specs.LinesLaws.{lays_then}
use Rattle.explain_main.proofs.telling.named.Goals as goal

pub returns : goal.returns
returns c =
    let h : c.args.at ≤ length c.args.text.now = omega arith in
    (lays_then h c.word-a.ensures c.numbers.ensures.0, omega (arith, c.word-a.ensures.behind, c.numbers.ensures.1))
