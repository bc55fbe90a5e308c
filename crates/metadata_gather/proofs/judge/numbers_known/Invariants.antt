-- What each turn keeps.
use mathlib.Core.Path.{◌≡◌}
use Prim.Native.Nat.{◌-◌, ◌*◌}
use Rattle.metadata_rules.specs.Metadata.{every}
use Rattle.metadata_gather.specs.Judge.{below, spaced}
use Rattle.metadata_gather.proofs.judge.numbers_known.Given as goal

abbrev pub invariant-loop-i : goal.invariant-loop-i
invariant-loop-i l = every (below l.names) (spaced l.words l.stride (l.i * l.stride) (l.count - l.i)) ≡ every (below l.names) (spaced l.words l.stride 0 l.count)
