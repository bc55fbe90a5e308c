-- What the laws on runs lean on: tests by cases, where a moment lies, and the answer before, within and past the first interval.
-- Assumes nothing.
use Rattle.std.specs.Prelude.{◌≡◌, ◌≢◌, ℕ, ◌≤◌, ◌<◌, Bool, true, false, not, ◌&&◌, ◌||◌, T, leb, ltb}
use Rattle.std.proofs.Math.Path.{refl, ap}
use Rattle.std.proofs.Common.{◌∙◌, arith, T_not, le→leb, lt→ltb}
use Rattle.std.proofs.Math.Decide.{dec_le}
use Rattle.std.proofs.Math.Bool.{cond}
use Rattle.std.proofs.Math.Option.{Option, none, some}
use mathlib.Core.List.{List, [], ◌∷◌}
use Rattle.std.proofs.Math.Arith.{lt→nleb, le→nltb}
use Rattle.std.proofs.Math.Facts.{ltb_yes, ltb_no}
use Rattle.theory.specs.Runs.{Interval, covers, answer_at, Ahead, WellFormed}

module _ {X : Type 0} where
  pub cond_case : (P : X → Type 0) (b : Bool) (x y : X) → (T b → P x) → (T (not b) → P y) → P (cond b x y)
  cond_case P true x y f g = f tt
  cond_case P false x y f g = g tt

  pub ltb_case : (P : X → Type 0) (a b : ℕ) (x y : X) → (a < b → P x) → (b ≤ a → P y) → P (cond (ltb a b) x y)
  ltb_case P a b x y f g = cond_case P (ltb a b) x y (λ t. f (ltb_yes t)) (λ t. g (ltb_no t))

  pub cond_yes : (b : Bool) (x y : X) → T b → cond b x y ≡ x
  cond_yes true x y t = refl
  cond_yes false x y t = absurd t

  pub cond_no : (b : Bool) (x y : X) → T (not b) → cond b x y ≡ y
  cond_no true x y t = absurd t
  cond_no false x y t = refl

  pub cond_lt : (a b : ℕ) (x y : X) → a < b → cond (ltb a b) x y ≡ x
  cond_lt a b x y h = cond_yes (ltb a b) x y (lt→ltb a b h)

  pub cond_ge : (a b : ℕ) (x y : X) → b ≤ a → cond (ltb a b) x y ≡ y
  cond_ge a b x y h = cond_no (ltb a b) x y (le→nltb a b h)

pub T_and : (a b : Bool) → T a → T b → T (a && b)
T_and true b s t = t
T_and false b s t = s

pub T_right : (a b : Bool) → T b → T (a || b)
T_right true b t = tt
T_right false b t = t

pub T_fst : (a b : Bool) → T (a && b) → T a
T_fst true b t = tt
T_fst false b t = t

pub T_snd : (a b : Bool) → T (a && b) → T b
T_snd true b t = t
T_snd false b t = absurd t

-- the test of a list's head, and of the rest: it is non-empty, and stands well before what follows
module _ (start end : ℕ) (c d : Bool) {P Q : Type 0} where
  pub head_yes : (T c → P) → (T d → Q) → T ((ltb start end && c) && d) → (start < end) × P × Q
  head_yes f g t =
      let b : Bool = ltb start end in
      let s : T (b && c) = T_fst (b && c) d t in
      (ltb_yes (T_fst b c s), f (T_snd b c s), g (T_snd (b && c) d t))

  pub head_if : (P → T c) → (Q → T d) → (start < end) × P × Q → T ((ltb start end && c) && d)
  head_if f g w = T_and (ltb start end && c) d (T_and (ltb start end) c (lt→ltb _ _ w.0) (f w.1)) (g w.2)

pub T_nor_l : (a b : Bool) → T (not a) → T (not (a && b))
T_nor_l true b t = absurd t
T_nor_l false b t = tt

pub T_nor_r : (a b : Bool) → T (not b) → T (not (a && b))
T_nor_r true b t = t
T_nor_r false b t = tt

pub T_nand : (a b : Bool) → T (not (a && b)) → T a → T b → ⊥
T_nand a b n s t = T_not (a && b) n (T_and a b s t)

-- ---- where a moment lies

-- before a, from a to before b, or past both
pub data Place (a b m : ℕ) : Type 0 where
  early : m < a → Place a b m
  within : a ≤ m → m < b → Place a b m
  late : a ≤ m → b ≤ m → Place a b m

pub place : (a b m : ℕ) → Place a b m
place a b m = go (dec_le a m) (dec_le b m)
  where
    go : Dec (a ≤ m) → Dec (b ≤ m) → Place a b m
    go (yes h) (yes k) = late h k
    go (yes h) (no k) = within h (omega arith)
    go (no h) (yes k) = early (omega arith)
    go (no h) (no k) = early (omega arith)

-- the three ways two numbers stand
pub data Order (a b : ℕ) : Type 0 where
  less : a < b → Order a b
  equal : a ≡ b → Order a b
  more : b < a → Order a b

pub order : (a b : ℕ) → Order a b
order a b = go (dec_le a b) (dec_le b a)
  where
    go : Dec (a ≤ b) → Dec (b ≤ a) → Order a b
    go (yes h) (yes k) = equal (omega arith)
    go (yes h) (no k) = less (omega arith)
    go (no h) (yes k) = more (omega arith)
    go (no h) (no k) = absurd (omega arith)

-- ---- the answer

module _ {A : Type 0} where
  pub none_some : (o : Option A) (v : A) → o ≡ none → o ≢ some v
  none_some o v p q = let z : ◌≡◌ {A = ℕ} 0 1 = cc in omega arith

  pub some_same : (o : Option A) (u v : A) → o ≡ some u → o ≡ some v → u ≡ v
  some_same o u v p q = cc

  pub answer_in : (x : Interval A) (xs : List (Interval A)) (m : ℕ) → x.start ≤ m → m < x.end → answer_at (x ∷ xs) m ≡ some x.value
  unfolding answer_at covers
  answer_in x xs m h k = cond_yes (covers x m) _ _ (T_and (leb x.start m) _ (le→leb _ _ h) (lt→ltb _ _ k))

  pub answer_early : (x : Interval A) (xs : List (Interval A)) (m : ℕ) → m < x.start → answer_at (x ∷ xs) m ≡ answer_at xs m
  unfolding answer_at covers
  answer_early x xs m h = cond_no (covers x m) _ _ (T_nor_l (leb x.start m) _ (lt→nleb _ _ h))

  pub answer_late : (x : Interval A) (xs : List (Interval A)) (m : ℕ) → x.end ≤ m → answer_at (x ∷ xs) m ≡ answer_at xs m
  unfolding answer_at covers
  answer_late x xs m h = cond_no (covers x m) _ _ (T_nor_r (leb x.start m) _ (le→nltb _ _ h))

  -- the same interval in front of two lists that agree at a moment
  pub answer_cons : (x : Interval A) (xs ys : List (Interval A)) (m : ℕ) → answer_at xs m ≡ answer_at ys m → answer_at (x ∷ xs) m ≡ answer_at (x ∷ ys) m
  unfolding answer_at covers
  answer_cons x xs ys m e = ap (λ (o : Option A). cond (covers x m) (some x.value) o) e

  -- the first start is at b or later
  abbrev pub Low : ℕ → List (Interval A) → Type 0
  Low b [] = Unit {0}
  Low b (x ∷ xs) = b ≤ x.start

  pub low_ahead : (e : ℕ) (v : A) (xs : List (Interval A)) → Ahead e v xs → Low e xs
  low_ahead e v [] h = tt
  low_ahead e v (x ∷ xs) h = h.0

  pub low_le : (a b : ℕ) (xs : List (Interval A)) → a ≤ b → Low b xs → Low a xs
  low_le a b [] h k = tt
  low_le a b (x ∷ xs) h k = omega arith

  pub low_tail : (b : ℕ) (x : Interval A) (xs : List (Interval A)) → WellFormed (x ∷ xs) → Low b (x ∷ xs) → Low b xs
  low_tail b x xs w l = low_le b x.end xs (omega arith) (low_ahead x.end x.value xs w.1)

  -- nothing is answered before the first start
  pub answer_low : (b : ℕ) (xs : List (Interval A)) → WellFormed xs → Low b xs → (m : ℕ) → m < b → answer_at xs m ≡ none
  unfolding answer_at
  answer_low b [] w l m h = refl
  answer_low b (x ∷ xs) w l m h =
      answer_early x xs m (omega arith) ∙ answer_low b xs w.2 (low_tail b x xs w l) m h

  pub answer_tail : (x : Interval A) (xs : List (Interval A)) → WellFormed (x ∷ xs) → (m : ℕ) → m < x.end → answer_at xs m ≡ none
  answer_tail x xs w m h = answer_low x.end xs w.2 (low_ahead x.end x.value xs w.1) m h
