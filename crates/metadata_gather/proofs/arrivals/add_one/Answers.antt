-- `arrivals::add_one` meets its contract: the number is there, or joins with its mark. Assumes nothing.
use mathlib.Core.Path.{refl}
use Rattle.metadata_gather.specs.Arrivals.{added_old, added_new}
use Rattle.metadata_gather.proofs.arrivals.add_one.Goals as goal

pub returns-then-place-count : goal.returns-then-place-count
returns-then-place-count c =
    added_old _ _ _ _ _ c.requires.0 c.requires.2 c.index_of-place.ensures c.if-place-count.true

pub returns : goal.returns
returns c =
    added_new _ _ _ _ _ c.requires.0 c.requires.2 c.index_of-place.ensures
    c.if-place-count.false _ _ refl c.mark.ensures
