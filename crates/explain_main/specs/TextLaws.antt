-- Words laid one behind the other are what an answer says; with the check's own answer the lines are those of the call. Assumes nothing.
use Rattle.std.specs.Prelude.{◌≡◌, refl, ℕ, ◌+◌, ◌*◌, Bool, cond, List, [], ◌∷◌, ◌++◌, Ok, Err}
use Rattle.std.proofs.Common.{sym, ap, ◌∙◌, arith, append_assoc, append-nil, ne_eqb}
use Rattle.theory.specs.Answer.{Answer, no_values}
use Rattle.theory.specs.Fields.{field}
use Rattle.leaves.specs.Refusal.{number_of, values_of, refused, answer_with}
use Rattle.leaves.specs.RefusalLaws.{refused_not_done}
use Rattle.leaves.specs.declared.refusal.Refusal.{Refusal}
use Rattle.lines.specs.Lines.{decimal, blank}
use Rattle.map_rules.specs.Memory.{same_value, rows, check_answer}
use Rattle.std.proofs.Math.Dec.{T}
use Rattle.theory.specs.Bools.{true_T, T_true}
use Rattle.map_rules.specs.Table.{ordered}
use Rattle.map_rules.specs.Tests.{ordered_iff}
use Rattle.map_rules.specs.Pieces.{symbols}
use Rattle.map_explain.specs.Explain.{InOrder, rows_answer, explain_answer}
use Rattle.map_explain.specs.ExplainLaws.{checked_order}
use Rattle.map_explain.specs.Calls.{call_explains, refused_first}
use Rattle.explain_main.specs.Text.{Checked, between_word, numbers_text, values_text, answer_text, refused_word, line_text, after_check, Ready, instrument_at, moment_at, question_text}

-- ---- numbers

-- two numbers as they are laid
pub two_numbers : (a b : ℕ) → blank ++ decimal a ++ blank ++ decimal b ≡ numbers_text (a ∷ b ∷ [])
unfolding numbers_text
two_numbers a b = simp (append_assoc, append-nil)

-- numbers behind others
pub numbers_more : (vs ws : List ℕ) → numbers_text (vs ++ ws) ≡ numbers_text vs ++ numbers_text ws
unfolding numbers_text
numbers_more [] ws = refl
numbers_more (v ∷ vs) ws =
    ap (λ (t : List ℕ). blank ++ decimal v ++ t) (numbers_more vs ws) ∙ sym (append_assoc (blank ++ decimal v) (numbers_text vs) (numbers_text ws))

-- ---- answers

pub between_text : (vs ws : List ℕ) → between_word ++ numbers_text vs ++ numbers_text ws ≡ between_word ++ numbers_text (vs ++ ws)
between_text vs ws =
    append_assoc between_word (numbers_text vs) (numbers_text ws) ∙ ap (λ (t : List ℕ). between_word ++ t) (sym (numbers_more vs ws))

pub refused_text : (r : Refusal) → refused_word ++ decimal (number_of r) ≡ answer_text (refused r)
unfolding answer_text
refused_text r = sym (ap (λ (b : Bool). cond b (values_text (values_of r)) (refused_word ++ decimal (number_of r))) (ne_eqb (number_of r) 0 (refused_not_done r)))

pub question_text_lem : (t : List ℕ) (used : ℕ) (c : Checked) (b : List ℕ) (k : ℕ) {i m : ℕ} {a : Answer} → i ≡ field 4 b (k * 12)
    → m ≡ field 8 b (k * 12 + 4) → a ≡ after_check c (rows_answer t used i m) → line_text i m a ≡ question_text t used c b k
unfolding question_text instrument_at moment_at
question_text_lem t used c b k {i} {m} e f g =
    ap (line_text i m) g ∙ (λ j. line_text (e j) (f j) (after_check c (rows_answer t used (e j) (f j))))

-- ---- the check

-- a table that passed is in order
pub ready_order : {t : List ℕ} {used : ℕ} (c : Checked) → Ready t used c → c ≡ Ok tt → InOrder t used
ready_order {t} {used} c f w =
    let h = f w in
    let o : T (ordered same_value (rows t used)) = true_T _ h.2 in
    record { fits = omega (arith, h.0); few = omega (arith, h.1); order = (ordered_iff same_value symbols (rows t used)).0 o }

pub check_ready : (t : List ℕ) (used names : ℕ) (c : Checked) → answer_with no_values c ≡ check_answer t used names → Ready t used c
check_ready t used names c e w =
    let o : InOrder t used = checked_order t used names (sym e ∙ ap (λ (k : Checked). answer_with no_values k) w) in
    (o.fits, o.few, T_true _ ((ordered_iff same_value symbols (rows t used)).1 o.order))

-- with the check's own answer, an answer behind the check is the call's
pub check_answer_lem : (t : List ℕ) (used names i m : ℕ) (c : Checked) → answer_with no_values c ≡ check_answer t used names
    → after_check c (rows_answer t used i m) ≡ explain_answer t used names i m
check_answer_lem t used names i m (Ok u) e = sym (call_explains t used names i m (sym e)).answers
check_answer_lem t used names i m (Err r) e = refused_first t used names i m r e

-- so the line of a question is the line of the call's answer
pub question_call : (t : List ℕ) (used names : ℕ) (c : Checked) (b : List ℕ) (k : ℕ) → answer_with no_values c ≡ check_answer t used names
    → question_text t used c b k
    ≡ line_text (instrument_at b k) (moment_at b k) (explain_answer t used names (instrument_at b k) (moment_at b k))
unfolding question_text
question_call t used names c b k e =
    ap (line_text (instrument_at b k) (moment_at b k)) (check_answer_lem t used names (instrument_at b k) (moment_at b k) c e)
