-- The four fields are those of the row. Assumes nothing.
use Rattle.map_rules.specs.Memory.{row_at}
use Rattle.map_table.proofs.interval.interval_from.Goals as goal

pub returns : goal.returns
unfolding row_at
returns c = record { row = λ k e. cc e }
