-- What is left to read is what there was to read. Assumes nothing.
use mathlib.Core.Path.{sym, ◌∙◌}
use native.Mathlib.Omega.{arith}
use borrow.Author.Tests.{eqb-true, eqb-false}
use Rattle.std.proofs.lemmas.Result.{err_from_is_err_and}
use Rattle.leaves_text.specs.NumberTextLaws.{begun_rest, left_missing, left_first, left_turn, left_stop, left_done, err_place}
use Rattle.leaves_text.proofs.number_text.number.Goals as goal

pub returns-then-is_empty : goal.returns-then-is_empty
returns-then-is_empty c = left_missing _ _ _ (begun_rest c.digits_from-from.ensures) (eqb-true _ _ (sym c.is_empty.ensures ∙ c.if-is_empty.true))

pub loop-i-init : goal.loop-i-init
loop-i-init c = left_first _ _ _ (begun_rest c.digits_from-from.ensures) (eqb-false _ _ (sym c.is_empty.ensures ∙ c.if-is_empty.false))

pub returns-in_err-value : goal.returns-in_err-value
returns-in_err-value c =
    let p = err_from_is_err_and c.from_residual.result c.from_residual.ensures.1 in
    let e = err_place _ _ _ c.in_err-value.ensures.value in
    rw (p.1, p.2) (left_stop c.loop-i.invariant c.loop-i-test.true (e.0 ∙ c.append.ensures) e.1)

pub loop-i-preserved : goal.loop-i-preserved
loop-i-preserved c = left_turn c.loop-i.invariant c.loop-i-test.true (sym c.in_ok-value.ensures.ok_part ∙ c.append.ensures)

pub returns : goal.returns
returns c = left_done c.loop-i.invariant (omega (arith, c.loop-i-test.false))
