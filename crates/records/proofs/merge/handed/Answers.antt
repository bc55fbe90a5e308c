-- The parts of the head. Assumes nothing.
use mathlib.Core.Path.{refl}
use Rattle.records_rules.specs.View.{rec_in}
use Rattle.records.proofs.merge.handed.Goals as goal

pub returns : goal.returns
unfolding rec_in
returns c = refl
