-- `name::lay_name` meets its contract. The invariant: what is laid so far, walked on with the lists still to come, gives the name's
-- outcome. Assumes nothing.
use mathlib.Core.Path.{refl, sym, ap, ◌∙◌}
use native.Mathlib.Omega.{arith}
use Rattle.std.specs.Prelude.{ℕ, Option}
use Rattle.metadata_words.specs.Words.{laid_length}
use Rattle.metadata_lists.specs.Heads.{ended_of}
use Rattle.metadata_lists.specs.Name.{start_going, turn_needs, turn_conflict, turn_going, turn_further, going_end}
use Rattle.metadata_lists.proofs.name.lay_name.Goals as goal

pub loop-j-init : goal.loop-j-init
loop-j-init c = (start_going _ _ _ _ _ _ _ _ _ c.requires _ refl, refl)

pub merge_intervals-requires : goal.merge_intervals-requires
merge_intervals-requires c =
    let w = c.requires.within c.loop-j.j c.loop-j-test.true in
    let d = c.count_at-size.ensures in
    let q = turn_needs _ _ _ _ _ _ _ _ _ c.requires _ _ _ _ c.loop-j.invariant.0 c.loop-j-test.true _ _ (sym c.loop-j.invariant.1)
    c.copy_intervals.ensures _ _ refl c.count_at-size.ensures in
    let l = laid_length _ _ _ _ c.copy_intervals.ensures in
    let t = c.loop-j.invariant.1 in
    let o = c.loop-j.invariant.0.same in
    (omega arith, omega arith, omega arith, omega arith, omega arith)

pub returns-in_err-end : goal.returns-in_err-end
unfolding ended_of
returns-in_err-end c =
    ap (λ (r : Option ℕ). ended_of r c.merge_intervals.new.out) c.from_residual.ensures ∙
    turn_conflict _ _ _ _ _ _ _ _ _ c.requires _ _ _ _ c.loop-j.invariant.0 c.loop-j-test.true _ _ (sym c.loop-j.invariant.1)
    c.copy_intervals.ensures _ _ refl c.count_at-size.ensures
    c.merge_intervals.new.out
    (ap (λ (q : Option ℕ). ended_of q c.merge_intervals.new.out) (sym c.in_err-end.was) ∙ c.merge_intervals.ensures)

pub overflow_sub-laid : goal.overflow_sub-laid
overflow_sub-laid c =
    (turn_going _ _ _ _ _ _ _ _ _ c.requires _ _ _ _ c.loop-j.invariant.0 c.loop-j-test.true _ _ (sym c.loop-j.invariant.1)
    c.copy_intervals.ensures _ _ refl c.count_at-size.ensures _ _ _
    (ap (λ (q : Option ℕ). ended_of q c.merge_intervals.new.out) (sym c.in_ok-end.was) ∙ c.merge_intervals.ensures)
    c.merge_intervals.auto.out refl).1

pub loop-j-preserved : goal.loop-j-preserved
loop-j-preserved c = (
  (turn_going _ _ _ _ _ _ _ _ _ c.requires _ _ _ _ c.loop-j.invariant.0 c.loop-j-test.true _ _ (sym c.loop-j.invariant.1)
      c.copy_intervals.ensures _ _ refl c.count_at-size.ensures _ _ _
      (ap (λ (q : Option ℕ). ended_of q c.merge_intervals.new.out) (sym c.in_ok-end.was) ∙
      c.merge_intervals.ensures) c.merge_intervals.auto.out refl).0,
  laid_length _ _ _ _ c.copy_intervals.ensures ∙ c.loop-j.invariant.1,
)

pub returns : goal.returns
unfolding ended_of
returns c = going_end _ _ _ _ _ _ _ _ _ c.requires _ _ _ _ c.loop-j.invariant.0 c.loop-j-test.false
