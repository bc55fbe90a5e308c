-- The two fields that are put are those of the entry. Assumes nothing.
use Rattle.map_point.specs.Entries.{put_entry}
use Rattle.map_point.proofs.entries.put_entry.Goals as goal

pub returns : goal.returns
unfolding put_entry
returns c = cc
