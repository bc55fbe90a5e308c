-- Each turn tells of the first stretch, or of none. Assumes nothing.
use mathlib.Core.Path.{sym, ◌∙◌}
use Rattle.map_compare_walk.specs.Stretches.{rest}
use Rattle.map_compare_walk.specs.StretchesLaws.{ready, more_left, more_right, sound_test, ahead_end, told_first, told_none}
use Rattle.map_compare_walk.proofs.stretches.Walk.step.Goals as goal
use Rattle.map_compare_walk.proofs.stretches.Walk.step.Goals.{then-self, else-self+then-self-2}

pub next_step-step-requires : goal.next_step-step-requires
next_step-step-requires c =
    (ready c.loop-self.self, elim c.if-self.branch [ then-self w ↦ more_left w.if-self.true | else-self+then-self-2 w ↦ more_right w.if-self-2.true ])

pub invariant_of-self : goal.invariant_of-self
invariant_of-self c =
    let w = c.next_step-step.ensures.ready in
    record { left_sound = sound_test _ _ _ w.at_left; right_sound = sound_test _ _ _ w.at_right }

pub returns-in-Some-clause-steps : goal.returns-in-Some-clause-steps
unfolding rest
returns-in-Some-clause-steps c = sym c.loop-self.invariant.0 ∙ told_first c.next_step-step.ensures c.in-Some.is

pub loop-self-preserved : goal.loop-self-preserved
unfolding rest
loop-self-preserved c = (told_none c.next_step-step.ensures c.in_default.is ∙ c.loop-self.invariant.0, c.loop-self.invariant.1)

pub returns-clause-steps : goal.returns-clause-steps
unfolding rest
returns-clause-steps c =
    let t = c.loop-self.self in
    let e = ahead_end t.tables.left.now t.tables.left_used t.tables.right.now t.tables.right_used t.left t.right c.if-self.false c.if-self-2.false in
    (sym c.loop-self.invariant.0 ∙ e, e)
