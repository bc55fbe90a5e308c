-- `heads::merge_intervals` meets its contract. The invariant: what is left of the walk from here leaves what the whole walk leaves;
-- a turn is one step of the definition. Assumes nothing.
use mathlib.Core.Path.{◌≡◌, sym, ap, ◌∙◌}
use Rattle.std.specs.Prelude.{ℕ, Option}
use native.Mathlib.Omega.{arith}
use borrow.Author.Tests.{ltb-true}
use lib.ListN.{length}
use Rattle.metadata_words.specs.Words.{put_length}
use Rattle.metadata_lists.specs.Heads.{ended_of, step_counts, turn_conflict, turn_out, end_left, end_right}
use Rattle.metadata_lists.proofs.heads.merge_intervals.Goals as goal
use Rattle.metadata_lists.proofs.heads.merge_intervals.Goals.{then-loop-i-test+else-j-right_to, else-loop-i-test}

pub returns-in_err-step : goal.returns-in_err-step
unfolding ended_of
returns-in_err-step c =
    ap (λ (r : Option ℕ). ended_of r c.loop-i.out) c.from_residual.ensures ∙
    turn_conflict _ _ _ _ _ _ _ _ (omega arith) (omega (arith, ltb-true)) _ _ c.interval_at.ensures
    c.interval_at-in-loop-i.ensures (sym c.in_err-step.was ∙ c.turn.ensures) ∙
    c.loop-i.invariant.4

pub overflow_add-i : goal.overflow_add-i
overflow_add-i c = let n = step_counts _ _ _ (sym c.in_ok-step.was ∙ c.turn.ensures) in omega arith

pub overflow_add-j : goal.overflow_add-j
overflow_add-j c = let n = step_counts _ _ _ (sym c.in_ok-step.was ∙ c.turn.ensures) in omega (arith, ltb-true)

pub loop-i-smaller : goal.loop-i-smaller
loop-i-smaller c = let n = step_counts _ _ _ (sym c.in_ok-step.was ∙ c.turn.ensures) in omega (arith, ltb-true)

pub loop-i-preserved : goal.loop-i-preserved
loop-i-preserved c =
    let n = step_counts _ _ _ (sym c.in_ok-step.was ∙ c.turn.ensures) in
    let l : length c.put_interval.new.intervals ≡ length c.loop-i.out = put_length _ _ _ _ c.put_interval.ensures in (
      omega arith,
      omega (arith, ltb-true),
      l ∙ c.loop-i.invariant.2,
      omega (arith, ltb-true),
      turn_out _ _ _ _ _ _ _ _ (omega arith) (omega (arith, ltb-true)) _ _ c.interval_at.ensures
          c.interval_at-in-loop-i.ensures _ _ (sym c.in_ok-step.was ∙ c.turn.ensures)
          c.put_interval.ensures ∙ c.loop-i.invariant.4,
    )

pub returns-then-i-left_to : goal.returns-then-i-left_to
unfolding ended_of
returns-then-i-left_to c =
    end_left _ _ _ _ _ _ _ _ _ (elim c.loop-i-test.branch [ then-loop-i-test+else-j-right_to w ↦ omega arith | else-loop-i-test w ↦ absurd (omega arith) ]) c.copy_intervals.ensures ∙
    c.loop-i.invariant.4

pub returns : goal.returns
unfolding ended_of
returns c = end_right _ _ _ _ _ _ _ _ _ (omega arith) c.copy_intervals-2.ensures ∙ c.loop-i.invariant.4
