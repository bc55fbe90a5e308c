-- Each turn takes a question. Assumes nothing.
use native.Mathlib.Omega.{arith}
use Rattle.explain_main.specs.Portions.{telling_on}
use Rattle.explain_main.proofs.telling.lay_portion.Goals as goal

pub loop-k-preserved : goal.loop-k-preserved
loop-k-preserved c =
    let w = c.loop-k.invariant in
    let e = c.tell-at.ensures in
    telling_on w (omega arith) e.0 (omega (arith, w.within, c.if-text-at-lt-LINE.false, e.1))
