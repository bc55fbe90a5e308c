-- What the compare program is asked (RULES, Requests, No. 1): one section of kind 2, the name count in 4 bytes, then two of kind 3, a table's intervals
-- each, all in use, and nothing else; at most 3,145,750 bytes.
use Rattle.std.specs.Prelude.{◌≡◌, ℕ, ◌+◌, ◌/◌, Bool, true, false, cond, List, [], length, Option, Some, None, Result, Ok, Err}
use Rattle.std.proofs.Math.Path.{refl}
use Rattle.std.proofs.Common.{ap, ◌∙◌, subst, arith}
use Rattle.theory.specs.Answer.{Answer, answer, no_values}
use Rattle.theory.specs.Fields.{field}
use Rattle.map_rules.specs.Memory.{width}
use Rattle.map_compare_rules.specs.Memory.{compare_fits, both_formed}
use Rattle.lines.specs.Asked.{table_end, between}
use Rattle.leaves.specs.declared.refusal.Refusal.{Refusal}
use Rattle.leaves.specs.Refusal.{answer_with}
use Rattle.leaves.specs.RefusalLaws.{refused_not_done}
use Rattle.map_compare.specs.Compare.{tables_answer}
use Rattle.map_compare_walk.specs.declared.tables.Tables.{Tables}
use Rattle.standard.specs.declared.Status.{Status}
use Rattle.standard.specs.declared.Failure.{Failure}
use Rattle.standard.specs.Status.{Ends}

-- the status of two tables, all of whose intervals are in use: 0 where they are compared, 1 where they are refused
unfoldable pub tables_status : List ℕ → List ℕ → ℕ → ℕ
tables_status left right names =
    cond (compare_fits (length left) (length left / width) (length right) (length right / width) names 0)
    (cond (both_formed left (length left / width) right (length right / width) names) 0 1) 1

-- the status of an input whose table's section ends there: 1 where it is something else
abbrev pub asked_status : List ℕ → Option ℕ → ℕ
asked_status b None = 1
asked_status b (Some e) = tables_status (between 16 e b) (between (e + 6) (length b) b) (field 4 b 6)

-- the status of an input
unfoldable pub status_of : List ℕ → ℕ
status_of b = asked_status b (table_end 3145750 3 b)

-- ---- laws

-- the status by the check of the tables
abbrev pub checked_status : Result Tables Refusal → ℕ
checked_status (Ok t) = 0
checked_status (Err r) = 1

module _ (left right : List ℕ) (names : ℕ) where
  pub checked_status_lem : (c : Result Tables Refusal) → answer_with no_values c ≡ tables_answer left (length left / width) right (length right / width) names 0
      → checked_status c ≡ tables_status left right names
  unfolding tables_answer tables_status
  checked_status_lem c e =
      go (compare_fits (length left) (length left / width) (length right) (length right / width) names 0)
      (both_formed left (length left / width) right (length right / width) names) c e
    where
      number : Answer → ℕ
      number (answer n vs) = n

      go : (b f : Bool) (c : Result Tables Refusal) → answer_with no_values c ≡ cond b (cond f (answer 0 []) (answer 14 [])) (answer 15 [])
          → checked_status c ≡ cond b (cond f 0 1) 1
      go true true (Ok t) e = refl
      go true true (Err r) e = absurd (refused_not_done r (ap number e))
      go true false (Ok t) e = absurd (let z : ◌≡◌ {A = ℕ} 0 14 = ap number e in omega arith)
      go true false (Err r) e = refl
      go false f (Ok t) e = absurd (let z : ◌≡◌ {A = ℕ} 0 15 = ap number e in omega arith)
      go false f (Err r) e = refl

pub ends_same : {n m : ℕ} (r : Result Status Failure) → n ≡ m → Ends n r → Ends m r
ends_same r e w = subst (λ (k : ℕ). Ends k r) e w

module _ (b : List ℕ) where
  pub status_none : None ≡ table_end 3145750 3 b → 1 ≡ status_of b
  unfolding status_of
  status_none e = ap (asked_status b) e

  pub status_some : {e k : ℕ} → Some e ≡ table_end 3145750 3 b → k ≡ field 4 b 6
      → tables_status (between 16 e b) (between (e + 6) (length b) b) k ≡ status_of b
  unfolding status_of
  status_some {e} q f = ap (tables_status (between 16 e b) (between (e + 6) (length b) b)) f ∙ ap (asked_status b) q
