-- The two fields that are read are those of the entry. Assumes nothing.
use Rattle.map_point.specs.Entries.{entry_at}
use Rattle.map_point.proofs.entries.entry_at.Goals as goal

pub returns : goal.returns
unfolding entry_at
returns c = cc
