-- Each word fits its field, as the test of the words says. Assumes nothing.
use native.Mathlib.Omega.{arith}
use mathlib.Core.Bool.{Bool, true, cond}
use mathlib.Core.List.{List}
use mathlib.Core.Path.{◌≡◌, ap, sym, ◌∙◌}
use lib.ListN.{get_or}
use Prim.Native.Nat.{ℕ, ◌≤◌, ◌<◌}
use Rattle.std.specs.Prelude.{Some, None}
use Rattle.door_answers.specs.Header.{widths, within, header_fits, header_of}
use Rattle.door_answers.specs.HeaderLaws.{within_word}
use Rattle.door_answers.proofs.header.header_of.Goals as goal

fits : (w : List ℕ) {b : Bool} → b ≡ within w widths → b ≡ true → (i : ℕ) → i < 14 → get_or w i 0 ≤ get_or widths i 0
fits w e t = within_word w widths (sym e ∙ t)

pub overflow_cast-result : goal.overflow_cast-result
overflow_cast-result c = omega (arith, fits c.args.words.now c.is_within.ensures c.if-not-is_within.false 0 (omega arith))

pub overflow_cast-result-2 : goal.overflow_cast-result-2
overflow_cast-result-2 c = omega (arith, fits c.args.words.now c.is_within.ensures c.if-not-is_within.false 1 (omega arith))

pub overflow_cast-result-3 : goal.overflow_cast-result-3
overflow_cast-result-3 c = omega (arith, fits c.args.words.now c.is_within.ensures c.if-not-is_within.false 2 (omega arith))

pub overflow_cast-result-4 : goal.overflow_cast-result-4
overflow_cast-result-4 c = omega (arith, fits c.args.words.now c.is_within.ensures c.if-not-is_within.false 6 (omega arith))

pub overflow_cast-result-5 : goal.overflow_cast-result-5
overflow_cast-result-5 c = omega (arith, fits c.args.words.now c.is_within.ensures c.if-not-is_within.false 7 (omega arith))

pub returns-then-not-is_within : goal.returns-then-not-is_within
unfolding header_fits
returns-then-not-is_within c =
    ap (λ (b : Bool). cond b (Some (header_of c.args.words.now)) None) (sym c.if-not-is_within.true ∙ c.is_within.ensures)

pub returns : goal.returns
unfolding header_fits
returns c =
    ap (λ (b : Bool). cond b (Some (header_of c.args.words.now)) None) (sym c.if-not-is_within.false ∙ c.is_within.ensures)
