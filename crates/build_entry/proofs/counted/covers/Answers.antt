-- From the first date on, the second decides. Assumes nothing.
use Rattle.build_entry.specs.Counted.{covered_from}
use Rattle.build_entry.proofs.counted.covers.Goals as goal

pub returns-then-first-day : goal.returns-then-first-day
returns-then-first-day c = covered_from _ _ _ _ c.in_ok-first.ensures _ c.in_ok-after.ensures c.if-first-day.true
