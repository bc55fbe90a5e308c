-- Each way through the tests is one law. Assumes nothing.
use native.Mathlib.Omega.{arith}
use Rattle.map_rules.specs.Outcomes.{entered_back, entered_empty, entered_unknown, entered_placed}
use borrow.Author.Rules.{rules}
use Rattle.map_time.proofs.insert.enter.Goals as goal

pub returns-then-n : goal.returns-then-n
returns-then-n c = search (rules, entered_back)

pub returns-then-n-2 : goal.returns-then-n-2
returns-then-n-2 c =
    entered_empty _ _ _ _ (search rules) (search rules) (λ x. omega (arith, c.slice_known-1.given x)) (search rules) (search rules)

pub returns-then-n-names : goal.returns-then-n-names
returns-then-n-names c = entered_placed _ _ _ _ (omega arith) (search rules) c.place.ensures

pub returns-else-n-names : goal.returns-else-n-names
returns-else-n-names c = entered_unknown _ _ _ _ (omega arith) (search rules)
