-- The loop makes the order from place k on, the last parent first. Assumes nothing.
use native.Mathlib.Omega.{arith}
use Rattle.records_rules.specs.Sift.{heaped_step}
use Rattle.records_state.proofs.heap.heapify.Goals as goal

pub loop-k-preserved : goal.loop-k-preserved
loop-k-preserved c = heaped_step (omega arith) c.loop-k.invariant c.sift_down.ensures c.sift_down.auto.heap
