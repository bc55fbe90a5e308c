-- What each turn keeps.
use mathlib.Core.Path.{◌≡◌}
use lib.ListN.{length}
use Rattle.metadata_lists.specs.Link.{Chained}
use Rattle.metadata_lists.proofs.link.link.Given as goal

abbrev pub invariant-loop-i : goal.invariant-loop-i
invariant-loop-i l =
    (length l.nexts ≡ length l.initial.nexts) × (length l.firsts ≡ length l.initial.firsts) × Chained l.mappings l.nexts l.firsts l.count l.i
