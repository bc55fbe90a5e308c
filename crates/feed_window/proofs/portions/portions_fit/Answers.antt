-- The tests of the definition, one after the other. Assumes nothing.
use mathlib.Core.Path.{◌≡◌}
use mathlib.Core.Bool.{false}
use mathlib.Core.Logic.{◌⊎◌, inl, inr}
use Prim.Native.Nat.{ℕ}
use borrow.Author.Rules.{rules}
use borrow.Author.Tests.{eq-eqb, ne_eqb}
use Rattle.feed_rules.specs.Adding.{portion_fits}
use Rattle.feed_window.proofs.portions.portions_fit.Goals as goal

fits_not : (marks places heads spans window : ℕ)
    → ((places ≡ 256) × (heads ≡ 256) × (window ≡ 262144 → ⊥)) ⊎ (((places ≡ 256) × (heads ≡ 256 → ⊥)) ⊎ (places ≡ 256 → ⊥))
    → false ≡ portion_fits marks places heads spans window
unfolding portion_fits
fits_not m p h s w (inl t) = simp (eq-eqb p 256 t.0, eq-eqb h 256 t.1, ne_eqb w 262144 t.2)
fits_not m p h s w (inr (inl t)) = simp (eq-eqb p 256 t.0, ne_eqb h 256 t.1)
fits_not m p h s w (inr (inr t)) = simp (ne_eqb p 256 t)

pub returns-then-window-eq-WINDOW_BYTES-clause-value : goal.returns-then-window-eq-WINDOW_BYTES-clause-value
unfolding portion_fits
returns-then-window-eq-WINDOW_BYTES-clause-value c =
    let t = c.if-window-eq-WINDOW_BYTES.true in
    simp (eq-eqb _ _ t.0, eq-eqb _ _ t.1, eq-eqb _ _ t.2) c.words_fit.ensures.value

pub returns-else-window-eq-WINDOW_BYTES-clause-value : goal.returns-else-window-eq-WINDOW_BYTES-clause-value
returns-else-window-eq-WINDOW_BYTES-clause-value c = rw (← fits_not _ _ _ _ _ c.if-window-eq-WINDOW_BYTES.either) (search rules)
