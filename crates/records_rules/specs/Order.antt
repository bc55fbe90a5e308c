-- Where each stream's times rise from its hint on, the records come out in the order of (time, stream, place).
-- Assumes nothing.
-- What rests on a step of the machine stands in proofs/Order.
use Rattle.std.proofs.Math.Path.{◌≡◌}
use Rattle.std.specs.Prelude.{List, [], ◌∷◌}
use Prim.Native.Nat.{ℕ, ◌+◌, ◌≤◌, ◌<◌}
use Rattle.records_rules.specs.Machine.{Stream, Said, record_at_lem, damage_at, own}
use Rattle.records_rules.specs.Machine.{Status, waiting, standing, gone}
use Rattle.records_rules.specs.Machine.{Answer, says, end}
use Rattle.records_rules.specs.Least.{Upto}

-- ---- the hypothesis: times that rise, from the time t on

abbrev pub Rising : ℕ → List Said → Type 0
Rising t [] = Unit {0}
Rising t (record_at_lem a r ∷ ys) = (t ≤ r.time) × Rising r.time ys
Rising t (damage_at a r ∷ ys) = Rising t ys

-- ---- the conclusion: a record at (t, p, a) comes before whatever follows it

pub record Precedes (t p a u q c : ℕ) : Type 0 where
  pub upto : Upto t p u q
  pub places : q ≡ p → a < c

abbrev pub After : ℕ → ℕ → ℕ → Answer → Type 0
After t p a (says q (record_at_lem c r)) = Precedes t p a r.time q c
After t p a (says q (damage_at c r)) = Unit {0}
After t p a end = Unit {0}

abbrev pub AllAfter : ℕ → ℕ → ℕ → List Answer → Type 0
AllAfter t p a [] = Unit {0}
AllAfter t p a (x ∷ xs) = After t p a x × AllAfter t p a xs

abbrev pub Leads : Answer → List Answer → Type 0
Leads (says q (record_at_lem c r)) xs = AllAfter r.time q c xs
Leads (says q (damage_at c r)) xs = Unit {0}
Leads end xs = Unit {0}

abbrev pub Sorted : List Answer → Type 0
Sorted [] = Unit {0}
Sorted (x ∷ xs) = Leads x xs × Sorted xs

-- ---- what holds of a state all along

abbrev pub Rises : Stream → Status → Type 0
Rises s (waiting h a) = Rising h (own s a)
Rises s (standing a r) = (0 < r.size) × Rising r.time (own s (a + r.size))
Rises s gone = Unit {0}
