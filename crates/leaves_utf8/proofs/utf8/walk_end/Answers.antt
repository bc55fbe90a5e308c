-- What is asked of all the bytes is what is asked of those from `at` on. Assumes nothing.
use mathlib.Core.Path.{sym, ◌∙◌}
use native.Mathlib.Omega.{arith}
use lib.ListN.{length}
use Rattle.leaves_utf8.specs.Utf8Laws.{none_left_is}
use Rattle.leaves_utf8.proofs.utf8.walk_end.Goals as goal

pub returns : goal.returns
returns c =
    let s = c.args.text.now in
    sym (c.loop-at.invariant.1 ∙ none_left_is s c.loop-at.at (length s) (omega arith))
