-- What each turn keeps.
use mathlib.Core.Path.{◌≡◌}
use Prim.Native.Nat.{ℕ, ◌<◌}
use lib.ListN.{length, get_or}
use Rattle.metadata_rules.specs.Words.{before}
use Rattle.metadata_lists.proofs.link.offsets.Given as goal

abbrev pub invariant-loop-t : goal.invariant-loop-t
invariant-loop-t l =
    (length l.starts ≡ length l.initial.starts) × (l.o ≡ before l.mappings l.t) × ((s : ℕ) → s < l.t → get_or l.starts s 0 ≡ before l.mappings s)
