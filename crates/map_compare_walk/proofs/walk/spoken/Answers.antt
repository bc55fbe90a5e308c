-- The parts of the stretch, each by its test. Assumes nothing.
use mathlib.Core.Path.{◌≡◌, sym, ap, ◌∙◌}
use Rattle.std.specs.Prelude.{Bool, ◌||◌}
use Rattle.std.specs.Bool.{then_some}
use Rattle.map_compare_walk.specs.Walk.{instrument_of, spoken}
use Rattle.map_compare_walk.specs.TurnLaws.{instrument_left, instrument_right}
use Rattle.map_compare_walk.proofs.walk.spoken.Goals as goal
use Rattle.map_compare_walk.proofs.walk.spoken.Goals.{then-t, else-t, then-t-2, else-t-2}

pub returns : goal.returns
unfolding spoken
returns c =
    let t = c.args.t in
    let i : c.if-t.instrument ≡ instrument_of t.left c.args.x.instrument c.args.y.instrument = elim c.if-t.branch [
      | then-t w ↦ w.instrument-is ∙ instrument_left t.left _ _ w.if-t.true
      | else-t w ↦ w.instrument-is ∙ instrument_right t.left _ _ w.if-t.false
    ] in
    let s : c.if-t-2.says ≡ (t.left || t.right) = elim c.if-t-2.branch [
      | then-t-2 w ↦ w.says-is ∙ w.if-t-2.true ∙ sym (ap (λ (b : Bool). b || t.right) w.if-t-2.true)
      | else-t-2 w ↦ w.says-is ∙ sym (ap (λ (b : Bool). b || t.right) w.if-t-2.false)
    ] in
    c.then_some-3.ensures ∙ (λ j. then_some (s j) (record {
      instrument = i j;
      start = t.start;
      end = t.end;
      left = c.then_some.ensures j;
      right = c.then_some-2.ensures j;
    }))
