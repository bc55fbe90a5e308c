-- Mappings in words, `off` having each one's first interval in v; the lists of one name among them; `nx` leads from a mapping to
-- the next of its name. Assumes nothing.
use Rattle.std.specs.Prelude.{◌≡◌, ◌≢◌, List, [], ◌∷◌, length, get_or}
use Rattle.std.proofs.Math.Path.{refl, ap}
use Rattle.std.proofs.Common.{◌∙◌}
use Prim.Native.Nat.{ℕ, zero, suc, ◌+◌, ◌-◌, ◌≤◌, ◌<◌}
use native.Mathlib.Omega.{arith}
use Rattle.metadata_rules.specs.declared.Interval.{Interval}
use Rattle.metadata_rules.specs.Metadata.{Mapping, mapping, lists_of}
use Rattle.metadata_rules.specs.Cases.{cond_eq, cond_ne}
use Rattle.metadata_rules.specs.Words.{name_at, count_at, stretch}

unfoldable pub list_at : List ℕ → List ℕ → List ℕ → ℕ → List Interval
unfolding count_at
list_at m v off t = stretch v (get_or off t 0) (count_at m t)

-- n mappings from the place t on
unfoldable pub placed_from : List ℕ → List ℕ → List ℕ → ℕ → ℕ → List Mapping
unfolding name_at list_at
placed_from m v off t zero = []
placed_from m v off t (suc n) = mapping (name_at m t) (list_at m v off t) ∷ placed_from m v off (t + 1) n

unfoldable pub placed_to : List ℕ → List ℕ → List ℕ → ℕ → ℕ → List Mapping
unfolding placed_from
placed_to m v off t e = placed_from m v off t (e - t)

-- the lists of the name n from the place t up to the place e
unfoldable pub lists_from : List ℕ → List ℕ → List ℕ → ℕ → ℕ → ℕ → List (List Interval)
unfolding placed_to
lists_from m v off n t e = lists_of n (placed_to m v off t e)

-- p is the first place of the name n from t on, or e
pub record First (m : List ℕ) (n t e p : ℕ) : Type 0 where
  pub low : t ≤ p
  pub high : p ≤ e
  pub here : p < e → name_at m p ≡ n
  pub none : (s : ℕ) → t ≤ s → s < p → name_at m s ≢ n

abbrev pub Linked : List ℕ → List ℕ → ℕ → Type 0
Linked m nx e = (t : ℕ) → t < e → First m (name_at m t) (t + 1) e (get_or nx t 0)

unfoldable pub sum_len : List (List Interval) → ℕ
sum_len [] = 0
sum_len (l ∷ ls) = length l + sum_len ls

module _ (m v off : List ℕ) (n e : ℕ) where
  to_cons : (t : ℕ) → t < e → placed_to m v off t e ≡ mapping (name_at m t) (list_at m v off t) ∷ placed_to m v off (t + 1) e
  unfolding placed_to placed_from
  to_cons t h = let z : e - t ≡ suc (e - (t + 1)) = omega arith in rw z refl

  pub lists_here : (t : ℕ) → t < e → name_at m t ≡ n → lists_from m v off n t e ≡ list_at m v off t ∷ lists_from m v off n (t + 1) e
  unfolding lists_from lists_of
  lists_here t h d = ap (lists_of n) (to_cons t h) ∙ cond_eq (name_at m t) n _ _ d

  lists_skip : (t : ℕ) → t < e → name_at m t ≢ n → lists_from m v off n t e ≡ lists_from m v off n (t + 1) e
  unfolding lists_from lists_of
  lists_skip t h d = ap (lists_of n) (to_cons t h) ∙ cond_ne (name_at m t) n _ _ d

  pub lists_end : (t : ℕ) → e ≤ t → lists_from m v off n t e ≡ []
  unfolding lists_from lists_of placed_to placed_from
  lists_end t h = let z : e - t ≡ 0 = omega arith in rw z refl

  skip_to : (f t p : ℕ) → f + t ≡ p → p ≤ e → ((s : ℕ) → t ≤ s → s < p → name_at m s ≢ n) → lists_from m v off n t e ≡ lists_from m v off n p e
  skip_to zero t p d h k = ap (λ (s : ℕ). lists_from m v off n s e) (omega arith)
  skip_to (suc f) t p d h k =
      lists_skip t (omega arith) (k t (omega arith) (omega arith)) ∙ skip_to f (t + 1) p (omega arith) h (λ s i j. k s (omega arith) j)

  pub lists_first : (t p : ℕ) → First m n t e p → lists_from m v off n t e ≡ lists_from m v off n p e
  lists_first t p f = skip_to (p - t) t p (omega (arith, f.low)) f.high f.none
