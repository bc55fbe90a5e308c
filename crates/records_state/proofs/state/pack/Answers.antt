-- The sum of the three parts. Assumes nothing.
use mathlib.Core.Path.{refl}
use Rattle.records_rules.specs.View.{packed}
use Rattle.records_state.proofs.state.pack.Goals as goal

pub returns : goal.returns
unfolding packed
returns c = refl
