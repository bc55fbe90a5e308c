-- The parts are those of the definition. Assumes nothing.
use Rattle.map_compare_walk.specs.Walk.{taken_of}
use Rattle.map_compare_walk.proofs.walk.taken.Goals as goal

pub returns : goal.returns
unfolding taken_of
returns c = cc
