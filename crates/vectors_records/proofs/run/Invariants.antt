-- What gets less.
use Prim.Native.Nat.{◌-◌}
use lib.ListN.{length}
use Rattle.vectors_records.proofs.run.Given as goal

abbrev pub decreases-loop-at : goal.decreases-loop-at
decreases-loop-at l = length l.text - l.at
