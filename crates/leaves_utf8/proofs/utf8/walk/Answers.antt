-- What is asked of all the bytes is what is asked of those from `at` on; each first byte has its law. Assumes nothing.
use Rattle.std.specs.Prelude.{length}
use mathlib.Core.Path.{sym, ◌∙◌}
use native.Mathlib.Omega.{arith}
use Rattle.leaves_utf8.specs.Utf8Laws.{by_1, by_2, by_3, by_4, no_lead, no_2nd, no_3rd, no_4th}
use Rattle.leaves_utf8.proofs.utf8.walk.Goals as goal
use Rattle.leaves_utf8.proofs.utf8.walk.Goals.{then-a-lt194-via-then-a-lt194, then-a-lt194-via-else-a-lt194+then-not-is_tail}

pub loop-at-preserved-then-a-lt128 : goal.loop-at-preserved-then-a-lt128
loop-at-preserved-then-a-lt128 c =
    let s = c.args.text.now in
    (omega arith, c.loop-at.invariant.1 ∙ by_1 s c.loop-at.at (length s) c.loop-at-test.true (omega arith) c.if-a-lt128.true)

pub returns-then-a-lt194 : goal.returns-then-a-lt194
returns-then-a-lt194 c =
    let s = c.args.text.now in
    let n = c.loop-at.at in
    elim c.then-a-lt194.branch [
      | then-a-lt194-via-then-a-lt194 w ↦
          sym (c.loop-at.invariant.1 ∙ no_lead s n (length s) c.loop-at-test.true (omega arith) c.if-a-lt128.false w.if-a-lt194.true)
      | then-a-lt194-via-else-a-lt194+then-not-is_tail w ↦
          sym
          (c.loop-at.invariant.1
          ∙ no_2nd s n (length s) c.loop-at-test.true (omega arith) w.if-a-lt194.false c.if-a-lt224.true
          (sym w.is_tail.ensures ∙ w.if-not-is_tail.true))
    ]

pub loop-at-preserved-then-a-lt224 : goal.loop-at-preserved-then-a-lt224
loop-at-preserved-then-a-lt224 c =
    let s = c.args.text.now in (
      omega arith,
      c.loop-at.invariant.1
          ∙ by_2 s c.loop-at.at (length s) c.loop-at-test.true (omega arith) c.if-a-lt194.false c.if-a-lt224.true
          (sym c.is_tail.ensures ∙ c.if-not-is_tail.false),
    )

pub returns-then-not-is_3 : goal.returns-then-not-is_3
returns-then-not-is_3 c =
    let s = c.args.text.now in
    sym
    (c.loop-at.invariant.1
    ∙ no_3rd s c.loop-at.at (length s) c.loop-at-test.true (omega arith) c.if-a-lt224.false c.if-a-lt240.true
    (sym c.is_3.ensures ∙ c.if-not-is_3.true))

pub loop-at-preserved-then-a-lt240 : goal.loop-at-preserved-then-a-lt240
loop-at-preserved-then-a-lt240 c =
    let s = c.args.text.now in (
      omega arith,
      c.loop-at.invariant.1
          ∙ by_3 s c.loop-at.at (length s) c.loop-at-test.true (omega arith) c.if-a-lt224.false (sym c.is_3.ensures ∙ c.if-not-is_3.false),
    )

pub returns-then-not-is_4 : goal.returns-then-not-is_4
returns-then-not-is_4 c =
    let s = c.args.text.now in
    sym
    (c.loop-at.invariant.1
    ∙ no_4th s c.loop-at.at (length s) c.loop-at-test.true (omega arith) c.if-a-lt240.false (sym c.is_4.ensures ∙ c.if-not-is_4.true))

pub loop-at-preserved : goal.loop-at-preserved
loop-at-preserved c =
    let s = c.args.text.now in (
      omega arith,
      c.loop-at.invariant.1
          ∙ by_4 s c.loop-at.at (length s) c.loop-at-test.true (omega arith) c.if-a-lt240.false (sym c.is_4.ensures ∙ c.if-not-is_4.false),
    )
