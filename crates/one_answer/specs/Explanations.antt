-- The answers of an explanation: two that say the same number and the same values are one answer. An explanation is read back from its
-- values. Assumes nothing.
use Rattle.std.specs.Prelude.{◌≡◌, refl, ℕ, ◌+◌, cond, List, get_or, eqb, Result}
use Rattle.std.proofs.Common.{sym, ap, ◌∙◌}
use Rattle.leaves.specs.Refusal.{answer_with}
use Rattle.leaves.specs.declared.refusal.Refusal.{Refusal}
use Rattle.map_explain.specs.Explain.{explained_values}
use Rattle.map_explain.specs.declared.explain.Named.{Named}
use Rattle.map_explain.specs.declared.explain.Explained.{Explained}
use Rattle.map_explain.specs.declared.explain.Explained.TheVariants.{In, Unknown, Before, After, Between}
use Rattle.one_answer.specs.Leaves.{answer_one}

-- the interval whose numbers stand from the k-th value on
abbrev named_at : List ℕ → ℕ → Named
named_at vs k = record { index = get_or vs k 0; start = get_or vs (k + 1) 0; end = get_or vs (k + 2) 0; symbol = get_or vs (k + 3) 0 }

-- the explanation that values say
abbrev read_back : List ℕ → Explained
read_back vs =
    cond (eqb (get_or vs 0 0) 1) (In (named_at vs 1))
    (cond (eqb (get_or vs 0 0) 2) Unknown
    (cond (eqb (get_or vs 0 0) 3) (Before (named_at vs 1))
    (cond (eqb (get_or vs 0 0) 4) (After (named_at vs 1)) (Between (named_at vs 1) (named_at vs 5)))))

back : (x : Explained) → read_back (explained_values x) ≡ x
back (In a) = refl
back Unknown = refl
back (Before a) = refl
back (After a) = refl
back (Between a b) = refl

pub explained_one : (x y : Result Explained Refusal) → answer_with explained_values x ≡ answer_with explained_values y → x ≡ y
explained_one = answer_one explained_values (λ x y e. sym (back x) ∙ ap read_back e ∙ back y)
