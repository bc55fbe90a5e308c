-- The invariant of the loop of the call for the next answer, and what a return has to show. The loop keeps what is known: it speaks of
-- what was kept at entry, and of each stream that is left the bytes from some place on are kept. Assumes nothing.
use Rattle.std.specs.Prelude.{◌≡◌, ℕ, ◌≤◌}
use Rattle.std.proofs.Common.{sym, ◌∙◌}
use Rattle.std.proofs.Math.Path.{ap}
use Rattle.feed_rules.specs.Windows.{Kept, known_in}
use Rattle.feed_rules.proofs.WindowsLaws.{known_from}
use Rattle.feed_rules.specs.Going.{Later}

-- ---- what is kept in the loop

pub known_later : {x y : Kept} → Later x y → (a : ℕ) → y.base ≤ a → known_in x a ≡ known_in y a
known_later {x} {y} l a h = sym (known_from x y.base a l.on h) ∙ ap (λ (z : Kept). known_in z a) (sym l.is)
