-- What gets less.
use Rattle.vectors_records.proofs.merges.tell.Given as goal

abbrev pub decreases-loop-calls : goal.decreases-loop-calls
decreases-loop-calls g l = l.calls
