-- The start of two tables in order. Assumes nothing.
use mathlib.Core.Path.{◌≡◌, ap, ◌∙◌}
use Rattle.map_compare_walk.specs.declared.walk.Position.{Position}
use Rattle.map_compare_walk.specs.Walk.{sound, ahead}
use Rattle.map_compare_walk.specs.Stretches.{rest}
use Rattle.map_compare_walk.specs.StretchesLaws.{start, in_order, sound_start, sound_test, ahead_start}
use Rattle.map_compare_walk.proofs.stretches.Walk.new.Goals as goal

at_start : (p : Position) → (p.place ≡ 0) × (p.from ≡ 0) → p ≡ start
at_start p w = λ i. record { place = w.0 i; from = w.1 i }

pub invariant_of-result : goal.invariant_of-result
invariant_of-result c =
    let w = in_order c.args.tables in
    record {
      left_sound = ap (sound _ _) (at_start _ c.default-start.ensures) ∙ sound_test _ _ start (sound_start _ _ w.left_order);
      right_sound = ap (sound _ _) (at_start _ c.default-start.ensures) ∙ sound_test _ _ start (sound_start _ _ w.right_order);
    }

pub returns : goal.returns
unfolding rest
returns c =
    let t = c.args.tables in
    (λ i. ahead t.left.now t.left_used t.right.now t.right_used (at_start c.default-start.result c.default-start.ensures i) (at_start c.default-start.result c.default-start.ensures i))
    ∙ ahead_start t.left.now t.left_used t.right.now t.right_used
