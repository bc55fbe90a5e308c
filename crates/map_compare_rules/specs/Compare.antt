-- Two tables side by side (RULES, Requests, No. 1): the stretches in which they disagree, over any type of value that a test tells apart.
use Rattle.std.specs.Prelude.{◌≡◌, ℕ, min, max, Bool, ◌&&◌, ◌||◌, leb, ltb, eqb}
use Rattle.std.proofs.Math.Bool.{cond}
use Rattle.std.proofs.Math.Option.{Option, none, some}
use mathlib.Core.List.{List, [], ◌∷◌, map}
use Rattle.map_rules.specs.Table.{Row, answer_for, Ordered}

-- what two tables say of a moment at which they disagree: a value or nothing on each side
pub record Difference (A : Type 0) : Type 0 where
  pub left : Option A
  pub right : Option A

-- stretches: rows that say what both tables say
abbrev pub Stretches : Type 0 → Type 0
Stretches A = List (Row (Difference A))

module _ {A : Type 0} where
  abbrev pub stretch : ℕ → ℕ → ℕ → Option A → Option A → Row (Difference A)
  stretch i a b l r = record { instrument = i; start = a; end = b; value = record { left = l; right = r } }

  abbrev pub left_only : Row A → Row (Difference A)
  left_only x = stretch x.instrument x.start x.end (some x.value) none

  abbrev pub right_only : Row A → Row (Difference A)
  right_only y = stretch y.instrument y.start y.end none (some y.value)

  -- x is over before y starts
  unfoldable pub over : Row A → Row A → Bool
  over x y = ltb x.instrument y.instrument || (eqb x.instrument y.instrument && leb x.end y.start)

  -- the row from a moment on
  abbrev pub since : ℕ → Row A → Row A
  since m x = record { instrument = x.instrument; start = m; end = x.end; value = x.value }

  -- what one of two overlapping rows says alone before the other starts, in front of others
  unfoldable pub lead : Row A → Row A → Stretches A → Stretches A
  lead x y ds =
      cond (ltb x.start y.start) (stretch x.instrument x.start y.start (some x.value) none ∷ ds)
      (cond (ltb y.start x.start) (stretch x.instrument y.start x.start none (some y.value) ∷ ds) ds)

module _ {A : Type 0} (same : A → A → Bool) where
  -- what is to be reported of a moment, from what both tables say of it
  unfoldable pub differ : Option A → Option A → Option (Difference A)
  differ none none = none
  differ none (some v) = some (record { left = none; right = some v })
  differ (some u) none = some (record { left = some u; right = none })
  differ (some u) (some v) = cond (same u v) none (some (record { left = some u; right = some v }))

  -- what both say where they overlap, if it differs, in front of others
  unfoldable pub common : Row A → Row A → Stretches A → Stretches A
  common x y ds =
      cond (same x.value y.value) ds
      (stretch x.instrument (max x.start y.start) (min x.end y.end) (some x.value) (some y.value) ∷ ds)

  -- the row x beside the right rows; go takes what is left of them once x is over
  unfoldable pub against : Row A → (List (Row A) → Stretches A) → List (Row A) → Stretches A
  unfolding over lead common
  against x go [] = left_only x ∷ go []
  against x go (y ∷ ys) =
      cond (over x y) (left_only x ∷ go (y ∷ ys))
      (cond (over y x) (right_only y ∷ against x go ys)
      (lead x y (common x y
      (cond (ltb x.end y.end) (go (since x.end y ∷ ys))
      (cond (ltb y.end x.end) (against (since y.end x) go ys) (go ys))))))

  -- the stretches in which two tables disagree
  unfoldable pub compared : List (Row A) → List (Row A) → Stretches A
  unfolding against
  compared [] ys = map (λ y. right_only y) ys
  compared (x ∷ xs) ys = against x (compared xs) ys

  -- a list of stretches is right for two tables
  pub record Right (ls rs : List (Row A)) (ds : Stretches A) : Type 0 where
    pub in_order : Ordered ds
    pub answers : (i m : ℕ) → answer_for ds i m ≡ differ (answer_for ls i m) (answer_for rs i m)
