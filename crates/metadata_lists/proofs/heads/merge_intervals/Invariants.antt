-- What each turn keeps, and what gets less.
use mathlib.Core.Path.{◌≡◌}
use Prim.Native.Nat.{◌≤◌, ◌+◌, ◌-◌, ◌*◌}
use lib.ListN.{length}
use Rattle.metadata_rules.specs.Walk.{walk}
use Rattle.metadata_words.specs.Words.{rest}
use Rattle.metadata_lists.specs.Heads.{finish}
use Rattle.metadata_lists.proofs.heads.merge_intervals.Given as goal

abbrev pub invariant-loop-i : goal.invariant-loop-i
invariant-loop-i l =
    (l.i ≤ l.left_to) × (l.j ≤ l.right_to) × (length l.out ≡ length l.initial.out) × (3 * (l.k + (l.left_to - l.i) + (l.right_to - l.j)) ≤ length l.out)
    × (finish l.out l.k (walk (rest l.left l.i l.left_to) (rest l.right l.j l.right_to)) ≡ finish l.initial.out l.at (walk (rest l.left l.left_from l.left_to) (rest l.right l.right_from l.right_to)))

abbrev pub decreases-loop-i : goal.decreases-loop-i
decreases-loop-i l = (l.left_to - l.i) + (l.right_to - l.j)
