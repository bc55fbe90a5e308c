-- A call of explain on lent bytes, as the request has it (RULES, Requests, No. 4): on a table that the check accepts it gives the one
-- reason that holds, names stored intervals and agrees with lookup at any hint; on any other it gives the check's refusal. Assumes nothing.
use Rattle.std.specs.Prelude.{◌≡◌, ◌≢◌, ℕ, Bool, ◌&&◌, length}
use Rattle.std.proofs.Math.Path.{refl, ap}
use Rattle.std.proofs.Common.{◌∙◌, sym}
use Rattle.std.proofs.Math.Bool.{true, false, cond}
use mathlib.Core.List.{List, []}
use Rattle.theory.specs.Answer.{answer}
use Rattle.theory.specs.Runs.{Mem, Interval}
use Rattle.leaves.specs.declared.refusal.Refusal.{Refusal}
use Rattle.leaves.specs.Refusal.{refused}
use Rattle.leaves.specs.RefusalLaws.{refused_not_done}
use Rattle.map_rules.specs.Table.{row_of, group, Ordered, names_fit, well_formed}
use Rattle.map_rules.specs.Groups.{formed_iff}
use Rattle.map_rules.specs.Lookup.{Finding, lookup_rows}
use Rattle.map_rules.specs.Memory.{same_value, known_value, rows, table_fits, check_answer}
use Rattle.map_rules.specs.Outcomes.{checked_ordered}
use Rattle.map_rules.specs.Looks.{number_in, finding_answer, lookup_answer, lookup_hint}
use Rattle.map_explain.specs.Reason.{Reason, explained_rows, Holds, named_by, hint_by, finding_by}
use Rattle.map_explain.specs.ReasonLaws.{reason_holds, reason_only, reason_looked, reason_stored}
use Rattle.map_explain.specs.ExplainLaws.{Accepted, accepted}
use Rattle.map_explain.specs.Explain.{Value, reason_answer, rows_answer, explain_answer}

-- what a done call says of the table, the instrument and the moment
pub record Explains (t : List ℕ) (used names i m : ℕ) (r : Reason Value) : Type 0 where
  pub answers : explain_answer t used names i m ≡ reason_answer r
  pub holds : Holds (group i (rows t used)) m r
  pub only : (q : Reason Value) → Holds (group i (rows t used)) m q → r ≡ q
  pub are_stored : (x : Interval Value) → Mem x (named_by r) → Mem (row_of i x) (rows t used)
  pub looked : (h : ℕ) → lookup_answer t used i m h ≡ finding_answer (finding_by r h)
  pub hinted : (h : ℕ) → lookup_hint t used i m h ≡ hint_by r h

module _ (t : List ℕ) (used names i m : ℕ) where
  module _ (w : Accepted t used names) where
    in_order : Ordered (rows t used)
    in_order = checked_ordered t used names refl w.formed

    told : explain_answer t used names i m ≡ rows_answer t used i m
    unfolding explain_answer
    told j = cond (w.fits j && w.few j) (cond (w.formed j) (rows_answer t used i m) (answer 14 [])) (answer 15 [])

    looks : (h : ℕ) → lookup_answer t used i m h ≡ finding_answer (lookup_rows (rows t used) i m h)
    unfolding lookup_answer
    looks h j = cond (w.fits j) (finding_answer (lookup_rows (rows t used) i m h)) (answer 15 [])

    hints : (h : ℕ) → lookup_hint t used i m h ≡ (lookup_rows (rows t used) i m h).hint
    unfolding lookup_hint
    hints h j = cond (w.fits j) (lookup_rows (rows t used) i m h).hint h

  pub call_explains : check_answer t used names ≡ answer 0 [] → Explains t used names i m (explained_rows (rows t used) i m)
  unfolding explained_rows
  call_explains e =
      let w : Accepted t used names = accepted t used names e in
      let o : Ordered (rows t used) = in_order w in
      record {
        answers = told w;
        holds = reason_holds (group i (rows t used)) m;
        only = λ q h. reason_only (group i (rows t used)) m q (((formed_iff (rows t used)).0 o).groups i) h;
        are_stored = reason_stored (rows t used) i m;
        looked = λ h. looks w h ∙ ap finding_answer (reason_looked (rows t used) o i m h);
        hinted = λ h. hints w h ∙ ap (λ (f : Finding Value). f.hint) (reason_looked (rows t used) o i m h);
      }

  -- a table that the check rejects gets the check's own refusal
  pub call_refused : check_answer t used names ≢ answer 0 [] → explain_answer t used names i m ≡ check_answer t used names
  unfolding explain_answer check_answer
  call_refused d = go (table_fits (length t) used && names_fit names) (well_formed same_value known_value names (rows t used)) d
    where
      go : (b c : Bool) → cond b (cond c (answer 0 []) (answer 14 [])) (answer 15 []) ≢ answer 0 []
          → cond b (cond c (rows_answer t used i m) (answer 14 [])) (answer 15 []) ≡ cond b (cond c (answer 0 []) (answer 14 [])) (answer 15 [])
      go true true f = absurd (f refl)
      go true false f = refl
      go false c f = refl

  -- so a refusal of the check's is the call's
  pub refused_first : (r : Refusal) → refused r ≡ check_answer t used names → refused r ≡ explain_answer t used names i m
  refused_first r e = e ∙ sym (call_refused (λ z. refused_not_done r (ap number_in (e ∙ z))))
