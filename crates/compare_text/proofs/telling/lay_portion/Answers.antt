-- What is laid and the lines still to come are all, and each turn comes nearer to the end. Assumes nothing.
use mathlib.Core.Path.{◌∙◌}
use native.Mathlib.Omega.{arith}
use Rattle.compare_text.specs.Portions.{telling_on}
use Rattle.compare_text.proofs.telling.lay_portion.Goals as goal

pub loop-text-preserved : goal.loop-text-preserved
loop-text-preserved c =
    let w = c.loop-text.invariant.0 in
    let e = c.tell-at.ensures in
    (telling_on w c.in-Some.ensures.steps e.0 (omega (arith, w.within, c.loop-text-test.true, e.1)), c.in-Some.ensures.tables ∙ c.loop-text.invariant.1)
