-- `words::copy_intervals` meets its contract. The invariant: what is left to lay from here is what was to lay at the start. Assumes nothing.
use mathlib.Core.Path.{◌≡◌, refl, sym, ◌∙◌}
use native.Mathlib.Omega.{arith}
use lib.ListN.{length}
use Rattle.metadata_words.specs.Words.{put_length, lay_turn, lay_end}
use Rattle.metadata_words.proofs.words.copy_intervals.Goals as goal

pub loop-i-init : goal.loop-i-init
loop-i-init c = (omega arith, refl, omega arith, refl)

pub loop-i-preserved : goal.loop-i-preserved
loop-i-preserved c =
    let n : length c.put_interval.new.intervals ≡ length c.loop-i.out = put_length _ _ _ _ c.put_interval.ensures in (
      omega arith,
      n ∙ c.loop-i.invariant.1,
      omega arith,
      lay_turn _ _ _ _ _ _ _ (omega arith) c.interval_at-x.ensures
          c.put_interval.ensures ∙ c.loop-i.invariant.3,
    )

pub returns : goal.returns
returns c = sym (lay_end _ _ _ _ _ (omega arith)) ∙ c.loop-i.invariant.3
