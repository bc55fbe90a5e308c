-- The reason's word and the numbers of its intervals, one behind the other. Assumes nothing.
use native.Mathlib.Omega.{arith}
use Rattle.std.specs.Prelude.{◌≤◌, ◌≡◌, length}
use Rattle.std.proofs.Common.{◌∙◌, ap, sym, rules}
use Rattle.lines.specs.LinesLaws.{lays_then, lays_same}
use Rattle.map_explain.specs.declared.explain.Explained.{Explained}
use Rattle.map_explain.specs.Explain.{named_of, explained_values}
use Rattle.explain_main.specs.Text.{in_word, unknown_word, before_word, after_word, between_word, reason_word, numbers_text, values_text}
use Rattle.explain_main.specs.TextLaws.{between_text}
use Rattle.explain_main.proofs.telling.reason.Goals as goal

-- two that are one say the same
same : {x y : Explained} → x ≡ y → values_text (explained_values y) ≡ values_text (explained_values x)
same e = ap (λ (z : Explained). values_text (explained_values z)) (sym e)

pub returns-in-In : goal.returns-in-In
unfolding values_text reason_word in_word
returns-in-In c = (lays_same (same c.in-In.is) c.named.ensures.0, omega (arith, c.named.ensures.1))

pub returns-in-Unknown : goal.returns-in-Unknown
unfolding values_text reason_word unknown_word numbers_text
returns-in-Unknown c = (lays_same (same c.in-Unknown.is) c.word.ensures, search rules)

pub returns-in-Before : goal.returns-in-Before
unfolding values_text reason_word before_word
returns-in-Before c = (lays_same (same c.in-Before.is) c.named-in-Before.ensures.0, omega (arith, c.named-in-Before.ensures.1))

pub returns-in-After : goal.returns-in-After
unfolding values_text reason_word after_word
returns-in-After c = (lays_same (same c.in-After.is) c.named-in-After.ensures.0, omega (arith, c.named-in-After.ensures.1))

pub returns-in-Between : goal.returns-in-Between
unfolding values_text reason_word between_word
returns-in-Between c =
    let h : c.args.at ≤ length c.args.text.now = omega arith in
    let e = between_text (named_of c.in-Between.x) (named_of c.in-Between.y) ∙ same c.in-Between.is in
    (lays_same e (lays_then h c.named-a.ensures.0 c.numbers.ensures.0), omega (arith, c.named-a.ensures.1, c.numbers.ensures.1))
