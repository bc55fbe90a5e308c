-- What an explanation says, or the refusal's number behind its word. Assumes nothing.
use native.Mathlib.Omega.{arith}
use Rattle.std.specs.Prelude.{◌≡◌, ◌≤◌, ◌++◌, ℕ, Result, length}
use Rattle.std.proofs.Common.{◌∙◌, ap, sym, rules}
use Rattle.leaves.specs.Refusal.{answer_with}
use Rattle.leaves.specs.declared.refusal.Refusal.{Refusal}
use Rattle.lines.specs.Lines.{decimal}
use Rattle.lines.specs.LinesLaws.{lays_then, lays_same}
use Rattle.map_explain.specs.declared.explain.Explained.{Explained}
use Rattle.map_explain.specs.Explain.{explained_values}
use Rattle.explain_main.specs.Text.{refused_word, answer_text}
use Rattle.explain_main.specs.TextLaws.{refused_text}
use Rattle.explain_main.proofs.telling.answer.Goals as goal

-- two answers that are one say the same
same : {x y : Result Explained Refusal} → x ≡ y → answer_text (answer_with explained_values y) ≡ answer_text (answer_with explained_values x)
same e = ap (λ (z : Result Explained Refusal). answer_text (answer_with explained_values z)) (sym e)

pub returns-in-Ok : goal.returns-in-Ok
unfolding answer_text
returns-in-Ok c = (lays_same (same c.in-Ok.is) c.reason.ensures.0, c.reason.ensures.1)

pub returns-in-Err : goal.returns-in-Err
unfolding refused_word
returns-in-Err c =
    let h : c.args.at ≤ length c.args.text.now = omega arith in
    let d = ap (λ (v : ℕ). refused_word ++ decimal v) c.number.ensures in
    (lays_same (d ∙ refused_text _ ∙ same c.in-Err.is) (lays_then h c.word-a.ensures c.number-in-Err.ensures.0), search rules)
