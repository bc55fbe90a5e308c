-- The digits that `io::decimal` answers are the number's, at most 20. Assumes nothing.
use native.Mathlib.Omega.{arith}
use mathlib.Core.Path.{◌∙◌}
use Prim.Native.Nat.{◌≤◌}
use Rattle.lines.specs.LinesLaws.{decimal_fewest, twenty_digits, lays_same}
use Rattle.lines.proofs.lines.number.Goals as goal

pub word-requires : goal.word-requires
word-requires c =
    let d = c.decimal-k in
    let k : d.result ≤ 20 = twenty_digits _ _ d.ensures.len (omega arith) in
    omega (arith, d.ensures.in_bounds)

pub returns : goal.returns
returns c =
    let d = c.decimal-k in
    let k : d.result ≤ 20 = twenty_digits _ _ d.ensures.len (omega arith) in
    let w = c.word.ensures in (
      lays_same (d.ensures.digits ∙ decimal_fewest _ _ d.ensures.len) w,
      omega (arith, d.ensures.in_bounds, w.behind),
    )
