-- So many places. Assumes nothing.
use mathlib.Core.Path.{sym}
use Prim.Native.Nat.{ℕ}
use lib.ListN.{length-replicate}
use Rattle.explain_main.proofs.input_space.Goals as goal

pub returns : goal.returns
returns c = sym (length-replicate {0} {A = ℕ} 2359319 0)
