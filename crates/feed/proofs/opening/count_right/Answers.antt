-- The tests of the definition, one after the other. Assumes nothing.
use mathlib.Core.Path.{◌≡◌}
use mathlib.Core.Bool.{false}
use mathlib.Core.Logic.{◌⊎◌, inl, inr}
use Prim.Native.Nat.{ℕ, ◌<◌, ◌≤◌}
use borrow.Author.Rules.{rules}
use borrow.Author.Tests.{lt-leb, le-leb, eq-eqb, ne_eqb}
use Rattle.feed_rules.specs.Adding.{right_count}
use Rattle.feed.proofs.opening.count_right.Goals as goal

wrong : (n hints : ℕ) → ((1 ≤ n) × (256 < n)) ⊎ (n < 1) → false ≡ right_count n hints
unfolding right_count
wrong n hints (inl t) = simp (le-leb 1 n t.0, lt-leb n 256 t.1)
wrong n hints (inr t) = simp (lt-leb 1 n t)

pub returns-then-hints-eq0 : goal.returns-then-hints-eq0
unfolding right_count
returns-then-hints-eq0 c =
    let t = c.if-streams-le-PLACES.true in
    simp (le-leb _ _ t.0, le-leb _ _ t.1, eq-eqb _ _ c.if-hints-eq0.true)

pub returns-else-hints-eq0 : goal.returns-else-hints-eq0
unfolding right_count
returns-else-hints-eq0 c =
    let t = c.if-streams-le-PLACES.true in
    simp (le-leb _ _ t.0, le-leb _ _ t.1, ne_eqb _ _ c.if-hints-eq0.false)

pub returns-else-streams-le-PLACES : goal.returns-else-streams-le-PLACES
returns-else-streams-le-PLACES c = rw (← wrong _ _ c.if-streams-le-PLACES.either) (search rules)
