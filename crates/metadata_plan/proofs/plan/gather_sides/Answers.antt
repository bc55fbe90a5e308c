-- `gather_sides` meets its contract: what is laid behind what is laid are the words of both. Assumes nothing.
use mathlib.Core.Path.{sym, ap, ◌∙◌, subst}
use Prim.Native.Nat.{ℕ}
use Rattle.metadata_lists.specs.Names.{placed}
use Rattle.metadata_lists.specs.NamesWords.{Stands}
use Rattle.metadata_plan.specs.Plan.{left_sound, right_sound, both_stand, both_sides}
use Rattle.metadata_plan.proofs.plan.gather_sides.Goals as goal

pub lose_repeats-laid-requires : goal.lose_repeats-laid-requires
lose_repeats-laid-requires c =
    let a = c.args in
    left_sound _ _ _ _ _ _ a.both_mappings.now a.both_intervals.now c.requires

pub follow-requires : goal.follow-requires
follow-requires c =
    let a = c.args in
    right_sound _ _ _ _ _ _ a.both_mappings.now a.both_intervals.now c.requires _ _ _ _ c.lose_repeats-laid.ensures _ _
    c.lose_repeats-laid.auto.both_mappings c.lose_repeats-laid.auto.both_intervals

pub returns : goal.returns
returns c =
    let a = c.args in
    let f = c.follow in
    let n = f.ensures.0 in
    subst (λ (u : ℕ). Stands (both_sides a.left.words.now a.left.count a.left.intervals.now a.right.words.now a.right.count a.right.intervals.now)
    f.new.both_mappings u f.new.both_intervals f.result.intervals) (sym n)
    (both_stand _ _ _ _ _ _ a.both_mappings.now a.both_intervals.now c.requires _ _ _ _
    c.lose_repeats-laid.ensures _ _ _
    (ap (λ (u : ℕ). placed f.new.both_mappings u f.new.both_intervals f.result.intervals) (sym n) ∙ f.ensures.1))
