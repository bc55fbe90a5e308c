-- So many zeros are so many. Assumes nothing.
use mathlib.Core.Path.{sym}
use Prim.Native.Nat.{ℕ}
use lib.ListN.{length-replicate}
use Rattle.vectors_side.proofs.expected.interval_words.Goals as goal

pub returns : goal.returns
returns c = sym (length-replicate {0} {A = ℕ} 196611 0)
