-- Each way through the tests of the explain program's input, and the status that it ends with. Assumes nothing.
use Rattle.std.specs.Prelude.{◌≡◌, ℕ, ◌+◌, ◌/◌, Bool, true, false, cond, List, length, Result, Some, None}
use Rattle.std.proofs.Common.{sym, ap, subst, ◌∙◌}
use Rattle.theory.specs.RunsTools.{cond_yes, cond_no}
use borrow.Author.Tests.{ne_eqb}
use Rattle.leaves.specs.Refusal.{number_of, refused}
use Rattle.leaves.specs.RefusalLaws.{refused_not_done}
use Rattle.leaves.specs.declared.refusal.Refusal.{Refusal}
use Rattle.map_rules.specs.Memory.{width, check_answer}
use Rattle.theory.specs.Fields.{field}
use Rattle.lines.specs.Asked.{table_end, between}
use Rattle.standard.specs.Status.{Ends}
use Rattle.standard.specs.declared.Status.{Status}
use Rattle.standard.specs.declared.Failure.{Failure}
use Rattle.explain_main.specs.Asked.{are_questions, answer_status, asked_status, parted_status, status_of}

-- a refusal's status
pub refused_status : (r : Refusal) → 1 ≡ answer_status (refused r)
unfolding answer_status
refused_status r = sym (ap (λ (b : Bool). cond b 0 1) (ne_eqb (number_of r) 0 (refused_not_done r)))

module _ (t : List ℕ) (names n : ℕ) where
  pub asked_none : {b : Bool} → b ≡ are_questions n → b ≡ false → 1 ≡ asked_status t names n
  unfolding asked_status
  asked_none e h = sym (cond_no (are_questions n) _ _ (rw (sym e ∙ h) tt))

  pub asked_told : {b : Bool} → b ≡ are_questions n → b ≡ true → answer_status (check_answer t (length t / width) names) ≡ asked_status t names n
  unfolding asked_status
  asked_told e h = sym (cond_yes (are_questions n) _ _ (rw (sym e ∙ h) tt))

-- the same status by two names
pub ends_too : {m n : ℕ} (r : Result Status Failure) → m ≡ n → Ends m r → Ends n r
ends_too r e h = subst (λ (k : ℕ). Ends k r) e h

module _ (b : List ℕ) where
  pub status_bad : None ≡ table_end 2359318 4 b → 1 ≡ status_of b
  unfolding status_of
  status_bad e = ap (parted_status b) e

  pub status_asked : {e k : ℕ} → Some e ≡ table_end 2359318 4 b → k ≡ field 4 b 6
      → asked_status (between 16 e b) k (length (between (e + 6) (length b) b)) ≡ status_of b
  unfolding status_of
  status_asked {e} g f = ap (λ (n : ℕ). asked_status (between 16 e b) n (length (between (e + 6) (length b) b))) f ∙ ap (parted_status b) g
