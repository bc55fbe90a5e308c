-- A text that says no number is refused. Assumes nothing.
use Rattle.std.proofs.Common.{rules}
use Rattle.build_rules.specs.ReadingLaws.{number_read}
use Rattle.build_rules.proofs.reading.number_in.Goals as goal

pub returns : goal.returns
returns c = number_read _ _ _ c.number.ensures c.map_err.ensures.cases (λ e why k. search rules)
