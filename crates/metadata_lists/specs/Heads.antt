-- What the two heads of a walk give, and what a walk leaves in `out`: the interval that goes out, then the rest of the walk.
-- Assumes nothing.
use Rattle.std.specs.Prelude.{◌≡◌, ℕ, ◌+◌, ◌-◌, ◌≤◌, ◌<◌, Bool, cond, length, eqb, Option, Some, None}
use Rattle.std.proofs.Math.Path.{refl, sym, ap}
use Rattle.std.proofs.Common.{◌∙◌, subst}
use native.Mathlib.Omega.{arith}
use Rattle.std.proofs.Math.Bool.{true, false}
use mathlib.Core.List.{List, [], ◌∷◌}
use Rattle.metadata_rules.specs.declared.Interval.{Interval}
use Rattle.metadata_rules.specs.declared.IntervalOrdering.{IntervalOrdering}
use Rattle.metadata_rules.specs.declared.IntervalOrdering.TheVariants.{Equal, Less, Greater, Overlap}
use Rattle.metadata_rules.specs.Walk.{Walked, conflict, laid, ordering, joined, out, agreed, heads, against, walk}
use Rattle.metadata_rules.specs.Words.{interval_at}
use Rattle.metadata_rules.specs.Cases.{eqb_case}
use Rattle.metadata_words.specs.Words.{put_at, rest, lay_intervals, rest_cons, rest_nil, rest_length}
use Rattle.metadata_lists.specs.declared.heads.Step.{Step}

-- what a walk leaves: a conflict, or the list and the place behind the last
pub data Ended : Type 0 where
  conflicted : Ended
  held : List ℕ → ℕ → Ended

unfoldable pub finish : List ℕ → ℕ → Walked → Ended
unfolding lay_intervals
finish v k conflict = conflicted
finish v k (laid xs) = held (lay_intervals v k xs) (k + length xs)

unfoldable pub ended_of : Option ℕ → List ℕ → Ended
ended_of None v = conflicted
ended_of (Some n) v = held v n

-- x goes out, and so many of each list are consumed
abbrev pub step : Interval → ℕ → ℕ → Option Step
step x p q = Some (record { interval = x; left = p; right = q })

unfoldable pub agreed_step : Interval → Interval → Interval → Option Step
agreed_step a b x = cond (eqb a.symbol b.symbol) (step x 1 1) None

unfoldable pub step_on : Interval → Interval → IntervalOrdering → Option Step
unfolding agreed_step
step_on a b Equal = agreed_step a b a
step_on a b Less = step a 1 0
step_on a b Greater = step b 0 1
step_on a b Overlap = agreed_step a b (joined a b)

unfoldable pub step_of : Interval → Interval → Option Step
unfolding step_on
step_of a b = step_on a b (ordering a b)

-- ---- laws

pub finish_out : (v : List ℕ) (k : ℕ) (x : Interval) (w : Walked) → finish v k (out x w) ≡ finish (put_at v k x) (k + 1) w
unfolding finish out lay_intervals
finish_out v k x conflict = refl
finish_out v k x (laid xs) = ap (held (lay_intervals (put_at v k x) (k + 1) xs)) (omega arith)

-- a step of the walk, as code takes it
unfoldable pub on_step : List ℕ → ℕ → ℕ → List ℕ → ℕ → ℕ → List ℕ → ℕ → Option Step → Ended
on_step a i ie b j je v k None = conflicted
on_step a i ie b j je v k (Some s) = finish (put_at v k s.interval) (k + 1) (walk (rest a (i + s.left) ie) (rest b (j + s.right) je))

module _ (a : List ℕ) (i ie : ℕ) (b : List ℕ) (j je : ℕ) (v : List ℕ) (k : ℕ) (h : i < ie) (g : j < je) where
  agreed_law : (x : Interval) → finish v k (agreed (interval_at a i) (interval_at b j) x (walk (rest a (i + 1) ie) (rest b (j + 1) je)))
      ≡ on_step a i ie b j je v k (agreed_step (interval_at a i) (interval_at b j) x)
  unfolding agreed agreed_step on_step finish
  agreed_law x = go (eqb (interval_at a i).symbol (interval_at b j).symbol)
    where
      go : (t : Bool) → finish v k (cond t (out x (walk (rest a (i + 1) ie) (rest b (j + 1) je))) conflict) ≡ on_step a i ie b j je v k (cond t (step x 1 1) None)
      go true = finish_out v k x (walk (rest a (i + 1) ie) (rest b (j + 1) je))
      go false = refl

  -- the heads ordering so
  heads_law : (o : IntervalOrdering)
      → finish v k (heads (interval_at a i) (interval_at b j) o (walk (rest a (i + 1) ie) (rest b (j + 1) je)) (walk (rest a (i + 1) ie) (rest b j je)) (walk (rest a i ie) (rest b (j + 1) je)))
      ≡ on_step a i ie b j je v k (step_on (interval_at a i) (interval_at b j) o)
  unfolding heads step_on on_step
  heads_law Equal = agreed_law (interval_at a i)
  heads_law Less =
      let z : j ≡ j + 0 = omega arith in
      finish_out v k (interval_at a i) (walk (rest a (i + 1) ie) (rest b j je))
      ∙ ap (λ (t : ℕ). finish (put_at v k (interval_at a i)) (k + 1) (walk (rest a (i + 1) ie) (rest b t je))) z
  heads_law Greater =
      let z : i ≡ i + 0 = omega arith in
      finish_out v k (interval_at b j) (walk (rest a i ie) (rest b (j + 1) je))
      ∙ ap (λ (t : ℕ). finish (put_at v k (interval_at b j)) (k + 1) (walk (rest a t ie) (rest b (j + 1) je))) z
  heads_law Overlap = agreed_law (joined (interval_at a i) (interval_at b j))

  walk_heads : walk (rest a i ie) (rest b j je)
      ≡ heads (interval_at a i) (interval_at b j) (ordering (interval_at a i) (interval_at b j))
      (walk (rest a (i + 1) ie) (rest b (j + 1) je)) (walk (rest a (i + 1) ie) (rest b j je)) (walk (rest a i ie) (rest b (j + 1) je))
  unfolding walk against
  walk_heads = rw (rest_cons a i ie h, rest_cons b j je g) refl

  pub step_law : finish v k (walk (rest a i ie) (rest b j je)) ≡ on_step a i ie b j je v k (step_of (interval_at a i) (interval_at b j))
  unfolding step_of
  step_law = ap (finish v k) walk_heads ∙ heads_law (ordering (interval_at a i) (interval_at b j))

pub walk_left : (xs : List Interval) → walk xs [] ≡ laid xs
unfolding walk against
walk_left [] = refl
walk_left (x ∷ xs) = refl

-- what a step says of the counts
pub record Counts (p q : ℕ) : Type 0 where
  pub low : p ≤ 1
  pub few : q ≤ 1
  pub some : 1 ≤ p + q

abbrev pub CountsOf : Option Step → Type 0
CountsOf None = Unit {0}
CountsOf (Some s) = Counts s.left s.right

agreed_counts : (a b x : Interval) → CountsOf (agreed_step a b x)
unfolding agreed_step
agreed_counts a b x = eqb_case CountsOf a.symbol b.symbol _ _ (λ e. record { low = omega arith; few = omega arith; some = omega arith }) (λ e. tt)

counts_on : (a b : Interval) (o : IntervalOrdering) → CountsOf (step_on a b o)
unfolding step_on
counts_on a b Equal = agreed_counts a b a
counts_on a b Less = record { low = omega arith; few = omega arith; some = omega arith }
counts_on a b Greater = record { low = omega arith; few = omega arith; some = omega arith }
counts_on a b Overlap = agreed_counts a b (joined a b)

pub step_counts : (a b : Interval) (s : Step) → Some s ≡ step_of a b → Counts s.left s.right
unfolding step_of
step_counts a b s e = subst CountsOf (sym e) (counts_on a b (ordering a b))

-- one turn of the walk's loop
module _ (a : List ℕ) (i ie : ℕ) (b : List ℕ) (j je : ℕ) (v : List ℕ) (k : ℕ) (h : i < ie) (g : j < je) (x y : Interval) (p : x ≡ interval_at a i) (q : y ≡ interval_at b j) where
  pub turn_conflict : None ≡ step_of x y → conflicted ≡ finish v k (walk (rest a i ie) (rest b j je))
  unfolding on_step
  turn_conflict e =
      sym (step_law a i ie b j je v k h g
      ∙ ap (on_step a i ie b j je v k) (ap (λ (u : Interval). step_of u (interval_at b j)) (sym p) ∙ ap (step_of x) (sym q) ∙ sym e))

  pub turn_out : (s : Step) (w : List ℕ) → Some s ≡ step_of x y → w ≡ put_at v k s.interval
      → finish w (k + 1) (walk (rest a (i + s.left) ie) (rest b (j + s.right) je)) ≡ finish v k (walk (rest a i ie) (rest b j je))
  unfolding on_step
  turn_out s w e d =
      ap (λ (u : List ℕ). finish u (k + 1) (walk (rest a (i + s.left) ie) (rest b (j + s.right) je))) d
      ∙ sym (step_law a i ie b j je v k h g
      ∙ ap (on_step a i ie b j je v k) (ap (λ (u : Interval). step_of u (interval_at b j)) (sym p) ∙ ap (step_of x) (sym q) ∙ sym e))

-- one list is used up
pub end_left : (a : List ℕ) (i ie : ℕ) (b : List ℕ) (j je : ℕ) (v w : List ℕ) (k : ℕ) → je ≤ j → w ≡ lay_intervals v k (rest a i ie)
    → held w (k + (ie - i)) ≡ finish v k (walk (rest a i ie) (rest b j je))
unfolding finish
end_left a i ie b j je v w k h e =
    rw (rest_nil b j je h, walk_left (rest a i ie), rest_length a i ie) (ap (λ (u : List ℕ). held u (k + (ie - i))) e)

pub end_right : (a : List ℕ) (i ie : ℕ) (b : List ℕ) (j je : ℕ) (v w : List ℕ) (k : ℕ) → ie ≤ i → w ≡ lay_intervals v k (rest b j je)
    → held w (k + (je - j)) ≡ finish v k (walk (rest a i ie) (rest b j je))
unfolding finish walk
end_right a i ie b j je v w k h e =
    rw (rest_nil a i ie h, rest_length b j je) (ap (λ (u : List ℕ). held u (k + (je - j))) e)
