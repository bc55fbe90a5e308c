-- The byte is a digit, and the value with it fits, or not. Assumes nothing.
use mathlib.Core.Path.{sym, ◌∙◌}
use native.Mathlib.Omega.{arith}
use Rattle.leaves_text.specs.NumberText.{is_digit}
use Rattle.leaves_text.specs.NumberTextLaws.{no_digit, too_large, checked_is}
use Rattle.leaves_text.proofs.number_text.append.Goals as goal

pub returns-then-not-is_ascii_digit : goal.returns-then-not-is_ascii_digit
unfolding is_digit
returns-then-not-is_ascii_digit c = no_digit c.args.value c.args.byte (sym c.is_ascii_digit.ensures.value ∙ c.if-not-is_ascii_digit.true)

pub returns-in_err-checked_mul : goal.returns-in_err-checked_mul
returns-in_err-checked_mul c = rw c.from_residual.ensures (too_large c.args.value c.args.byte (λ h. c.in_err-checked_mul.ensures (omega arith)))

pub returns : goal.returns
unfolding is_digit
returns c =
    checked_is c.args.value c.args.byte _ _ (sym c.is_ascii_digit.ensures.value ∙ c.if-not-is_ascii_digit.false) c.in_ok-checked_mul.ensures.1 c.checked_add.ensures
