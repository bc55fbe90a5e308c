-- `sets::alone` meets its contract: the arrivals of one side. Assumes nothing.
use Rattle.metadata_gather.specs.Arrivals.{marked_none}
use Rattle.metadata_gather.specs.Sets.{all_alone}
use native.Mathlib.Omega.{arith}
use Rattle.metadata_gather.proofs.sets.alone.Goals as goal

pub add_all-requires : goal.add_all-requires
add_all-requires c = (omega arith, c.requires.1, marked_none 4096)

pub returns : goal.returns
returns c = all_alone _ c.args.out.now _ _ _ c.add_all.ensures
