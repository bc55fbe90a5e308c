-- `arrivals::index_of` meets its contract: what a mark says, or the search. Assumes nothing.
use mathlib.Core.Path.{refl}
use Rattle.metadata_gather.specs.Arrivals.{mark_none, mark_some}
use Rattle.metadata_gather.proofs.arrivals.index_of.Goals as goal

pub returns-then-mark-eq0 : goal.returns-then-mark-eq0
returns-then-mark-eq0 c =
    mark_none _ _ _ _ _ _ c.requires refl c.if-marks-w.false refl c.if-mark-eq0.true refl

pub returns : goal.returns
returns c =
    mark_some _ _ _ _ _ c.requires refl c.if-marks-w.false refl c.if-mark-eq0.false
