-- Intervals [start, end) with a value of any type, and what a list of them answers at a moment. A list is well-formed when
-- its intervals are the longest runs of its answers (RunsLongest). The map over time (RULES, The map over time) is one such
-- list an instrument.
use Rattle.std.specs.Prelude.{◌≡◌, ◌≢◌, ◌⊎◌, ℕ, suc, ◌≤◌, ◌<◌, min, max, Bool, ◌&&◌, T, eqb}
use Rattle.std.proofs.Math.Bool.{true, not, cond}
use Rattle.std.proofs.Math.Option.{Option, none, some}
use mathlib.Core.List.{List, [], ◌∷◌}
use Rattle.std.proofs.Math.Dec.{leb, ltb}

-- x is one of the list
abbrev pub Mem : {X : Type 0} → X → List X → Type 0
Mem x [] = ⊥
Mem x (y ∷ ys) = (x ≡ y) ⊎ Mem x ys

-- each of the list has the property P
abbrev pub All : {X : Type 0} → (X → Type 0) → List X → Type 0
All P [] = Unit {0}
All P (x ∷ xs) = P x × All P xs

-- the value from start to the moment before end
pub record Interval (A : Type 0) : Type 0 where
  pub start : ℕ
  pub end : ℕ
  pub value : A

-- a test that tells values apart
pub record Same {A : Type 0} (same : A → A → Bool) : Type 0 where
  pub alike : (u v : A) → T (same u v) → u ≡ v
  pub itself : (v : A) → T (same v v)

module _ {A : Type 0} where
  -- an interval by its parts
  abbrev pub interval : ℕ → ℕ → A → Interval A
  interval a b v = record { start = a; end = b; value = v }

  -- start <= moment < end
  unfoldable pub covers : Interval A → ℕ → Bool
  covers x m = leb x.start m && ltb m x.end

  -- the answer at a moment: the value of the first interval that covers it, else nothing
  unfoldable pub answer_at : List (Interval A) → ℕ → Option A
  unfolding covers
  answer_at [] m = none
  answer_at (x ∷ xs) m = cond (covers x m) (some x.value) (answer_at xs m)

  -- an interval that ends at e with the value v may stand before these: it ends where the next starts or before, and if
  -- they touch their values differ
  abbrev pub Ahead : ℕ → A → List (Interval A) → Type 0
  Ahead e v [] = Unit {0}
  Ahead e v (y ∷ ys) = (e ≤ y.start) × (e ≡ y.start → v ≢ y.value)

  -- well-formed: non-empty, sorted by start, disjoint, and two that touch have different values
  abbrev pub WellFormed : List (Interval A) → Type 0
  WellFormed [] = Unit {0}
  WellFormed (x ∷ xs) = (x.start < x.end) × Ahead x.end x.value xs × WellFormed xs

  -- x is a longest unbroken run of f: f gives its value throughout, and neither right before nor right after
  pub record IsRun (f : ℕ → Option A) (x : Interval A) : Type 0 where
    pub some_time : x.start < x.end
    pub constant : (m : ℕ) → x.start ≤ m → m < x.end → f m ≡ some x.value
    pub not_sooner : (m : ℕ) → suc m ≡ x.start → f m ≢ some x.value
    pub not_longer : f x.end ≢ some x.value

  -- x, if it starts before the moment a, up to a; then ys
  unfoldable pub clipped : ℕ → Interval A → List (Interval A) → List (Interval A)
  clipped a x ys = cond (ltb x.start a) (interval x.start (min x.end a) x.value ∷ ys) ys

  -- what the list says before the moment a
  unfoldable pub up_to : ℕ → List (Interval A) → List (Interval A)
  unfolding clipped
  up_to a [] = []
  up_to a (x ∷ xs) = clipped a x (up_to a xs)

  -- what the list says from the moment b on
  unfoldable pub from : ℕ → List (Interval A) → List (Interval A)
  from b [] = []
  from b (x ∷ xs) =
      let ys = from b xs in
      cond (ltb b x.end) (interval (max x.start b) x.end x.value ∷ xs) ys

module _ {A : Type 0} (same : A → A → Bool) where
  -- two intervals touch and have the same value
  unfoldable pub meets : Interval A → Interval A → Bool
  meets x y = eqb x.end y.start && same x.value y.value

  -- an interval in front of a list, joined to the first where they touch with the same value
  unfoldable pub glue : Interval A → List (Interval A) → List (Interval A)
  unfolding meets
  glue x [] = x ∷ []
  glue x (y ∷ ys) = cond (meets x y) (interval x.start y.end x.value ∷ ys) (x ∷ y ∷ ys)

  -- one list in front of another, joined in the same way
  unfoldable pub join : List (Interval A) → List (Interval A) → List (Interval A)
  unfolding glue
  join [] ys = ys
  join (x ∷ xs) ys = glue x (join xs ys)

  -- a stretch overwritten with a value: what the list says before it, the new interval, and what it says from its end on
  unfoldable pub overwrite : Interval A → List (Interval A) → List (Interval A)
  unfolding join up_to from
  overwrite n xs = join (up_to n.start xs) (glue n (from n.end xs))

  -- the test for Ahead
  unfoldable pub apart : Interval A → List (Interval A) → Bool
  unfolding meets
  apart x [] = true
  apart x (y ∷ ys) = leb x.end y.start && not (meets x y)

  -- the test for WellFormed
  unfoldable pub well_formed : List (Interval A) → Bool
  unfolding apart
  well_formed [] = true
  well_formed (x ∷ xs) = ltb x.start x.end && apart x xs && well_formed xs
