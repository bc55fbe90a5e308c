-- `judge` meets its contract. The invariant: what is left to test, with what was found so far, decides as the whole does. Assumes nothing.
use mathlib.Core.Path.{◌≡◌, refl, sym, ◌∙◌}
use mathlib.Core.Bool.{true}
use Rattle.leaves.specs.declared.refusal.Refusal.TheVariants.{UnknownSymbol, Reversed}
use Rattle.std.specs.Prelude.{Ok, Err}
use Rattle.metadata_gather.specs.Judge.{known, forward, judged_of, judge_turn, judge_stop, judge_end}
use native.Mathlib.Omega.{arith}
use Rattle.metadata_gather.proofs.judge.judge.Goals as goal

pub loop-i-init : goal.loop-i-init
loop-i-init c = refl

pub returns-then-not-is_dated : goal.returns-then-not-is_dated
returns-then-not-is_dated c =
    let a = c.args in
    judge_stop a.names a.intervals.now c.loop-i.i a.count _ _ c.interval_at-x.ensures c.is_dated.ensures
    c.if-not-is_dated.true c.loop-i-test.true ∙ c.loop-i.invariant

pub loop-i-preserved : goal.loop-i-preserved
unfolding known forward
loop-i-preserved c =
    let a = c.args in
    rw c.is_known-all_known.ensures (judge_turn a.names a.intervals.now c.loop-i.i a.count _ _ c.interval_at-x.ensures
    c.is_dated.ensures c.if-not-is_dated.false c.loop-i-test.true) ∙ c.loop-i.invariant

pub returns-then-not-all_known : goal.returns-then-not-all_known
unfolding judged_of
returns-then-not-all_known c =
    let a = c.args in
    let l = c.loop-i in
    let e : judged_of true l.all_known l.all_forward ≡ Err UnknownSymbol = rw c.if-not-all_known.true refl in
    sym e ∙ judge_end a.names a.intervals.now l.i a.count _ _ (omega arith) ∙ l.invariant

pub returns-then-not-all_forward : goal.returns-then-not-all_forward
unfolding judged_of
returns-then-not-all_forward c =
    let a = c.args in
    let l = c.loop-i in
    let e : judged_of true l.all_known l.all_forward ≡ Err Reversed =
    rw (c.if-not-all_known.false, c.if-not-all_forward.true) refl in
    sym e ∙ judge_end a.names a.intervals.now l.i a.count _ _ (omega arith) ∙ l.invariant

pub returns : goal.returns
unfolding judged_of
returns c =
    let a = c.args in
    let l = c.loop-i in
    let e : judged_of true l.all_known l.all_forward ≡ Ok tt =
    rw (c.if-not-all_known.false, c.if-not-all_forward.false) refl in
    sym e ∙ judge_end a.names a.intervals.now l.i a.count _ _ (omega arith) ∙ l.invariant
