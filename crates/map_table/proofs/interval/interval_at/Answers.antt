-- The place begins at its number times the width. Assumes nothing.
use mathlib.Core.Path.{refl}
use Rattle.map_table.proofs.interval.interval_at.Goals as goal

pub returns : goal.returns
returns c = c.interval_from.ensures.row _ refl
