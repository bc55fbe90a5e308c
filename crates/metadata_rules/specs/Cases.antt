-- Tests on numbers by cases, and lists with no entry twice. Assumes nothing.
use Rattle.std.specs.Prelude.{◌≡◌, refl, ◌≢◌, ℕ, ◌≤◌, ◌<◌, cond, List, [], ◌∷◌, leb, eqb}
use Rattle.theory.specs.Runs.{Mem}
use Rattle.theory.specs.RunsTools.{cond_case}
use Rattle.std.proofs.Math.Facts.{leb_yes, leb_no, eqb_yes, eqb_no}

-- no entry twice
abbrev pub Once : List ℕ → Type 0
Once [] = Unit {0}
Once (x ∷ xs) = (Mem x xs → ⊥) × Once xs

module _ {X : Type 0} where
  pub eqb_case : (P : X → Type 0) (a b : ℕ) (x y : X) → (a ≡ b → P x) → (a ≢ b → P y) → P (cond (eqb a b) x y)
  eqb_case P a b x y f g = cond_case P (eqb a b) x y (λ t. f (eqb_yes t)) (λ t. g (eqb_no t))

  pub leb_case : (P : X → Type 0) (a b : ℕ) (x y : X) → (a ≤ b → P x) → (b < a → P y) → P (cond (leb a b) x y)
  leb_case P a b x y f g = cond_case P (leb a b) x y (λ t. f (leb_yes t)) (λ t. g (leb_no t))

  pub cond_eq : (a b : ℕ) (x y : X) → a ≡ b → cond (eqb a b) x y ≡ x
  cond_eq a b x y e = eqb_case (λ (z : X). z ≡ x) a b x y (λ h. refl) (λ h. absurd (h e))

  pub cond_ne : (a b : ℕ) (x y : X) → a ≢ b → cond (eqb a b) x y ≡ y
  cond_ne a b x y d = eqb_case (λ (z : X). z ≡ y) a b x y (λ h. absurd (d h)) (λ h. refl)
