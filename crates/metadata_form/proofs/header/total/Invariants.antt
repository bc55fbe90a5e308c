-- What each turn keeps.
use mathlib.Core.Path.{◌≡◌}
use Prim.Native.Nat.{◌≤◌, ◌*◌}
use Rattle.metadata_rules.specs.Words.{before}
use Rattle.metadata_form.proofs.header.total.Given as goal

abbrev pub invariant-loop-i : goal.invariant-loop-i
invariant-loop-i l = (l.sum ≡ before l.mappings l.i) × (l.sum ≤ l.i * 4294967295)
