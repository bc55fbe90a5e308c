-- A lookup with a hint (RULES, The map over time): the hinted interval, the following one, then the last with start <= moment.
-- On an ordered table it gives the answer whatever the hint (lookup-right), and the new hint is the last interval that has
-- started; with none it stays (lookup-hint). Assumes nothing.
use Rattle.std.specs.Prelude.{◌≡◌, ltb}
use Rattle.std.proofs.Math.Path.{refl, sym, ap}
use Rattle.std.proofs.Common.{◌∙◌, arith}
use Prim.Native.Nat.{ℕ, zero, suc, ◌≤◌, ◌<◌}
use Rattle.std.proofs.Math.Bool.{cond}
use Rattle.std.proofs.Math.Option.{Option, none, some}
use mathlib.Core.List.{List, [], ◌∷◌}
use Rattle.std.proofs.Math.ListN.{get_elem?}
use Rattle.theory.specs.Runs.{Interval, covers, answer_at, WellFormed}
use Rattle.theory.specs.RunsTools.{cond_lt, cond_ge, none_some, Place, early, within, late, place, answer_in, answer_early, answer_late, Low, low_ahead, answer_tail}
use Rattle.map_rules.specs.Table.{Row, group, answer_for, Ordered}
use Rattle.map_rules.specs.Groups.{formed_iff}

-- what a lookup finds: an answer, and the new hint
pub record Finding (A : Type 0) : Type 0 where
  pub said : Option A
  pub hint : ℕ

module _ {A : Type 0} where
  -- what an interval, if it is there, says of the moment
  unfoldable pub says : Option (Interval A) → ℕ → Option A
  unfolding covers
  says none m = none
  says (some x) m = cond (covers x m) (some x.value) none

  -- what interval number k says of the moment
  unfoldable pub seen : List (Interval A) → ℕ → ℕ → Option A
  unfolding says
  seen rs k m = says (get_elem? rs k) m

  -- how many come first that start at the moment or before
  unfoldable pub started : List (Interval A) → ℕ → ℕ
  started [] m = 0
  started (x ∷ xs) m = let c = started xs m in cond (ltb m x.start) 0 (suc c)

  -- the last of so many, with none the hint stays
  unfoldable pub arrive : List (Interval A) → ℕ → ℕ → ℕ → Finding A
  unfolding seen
  arrive rs m h zero = record { said = none; hint = h }
  arrive rs m h (suc k) = record { said = seen rs k m; hint = k }

  -- an answer at k, or else what follows
  unfoldable pub or_else : Option A → ℕ → Finding A → Finding A
  or_else (some v) k f = record { said = some v; hint = k }
  or_else none k f = f

  -- a lookup among the intervals of one instrument
  unfoldable pub lookup : List (Interval A) → ℕ → ℕ → Finding A
  unfolding or_else seen arrive started
  lookup rs h m = or_else (seen rs h m) h (or_else (seen rs (suc h) m) (suc h) (arrive rs m h (started rs m)))

  -- a lookup in a table: instrument, moment, hint
  unfoldable pub lookup_rows : List (Row A) → ℕ → ℕ → ℕ → Finding A
  unfolding lookup group
  lookup_rows xs i m h = lookup (group i xs) h m

  -- ---- the laws

  pub says_in : (x : Interval A) (m : ℕ) → x.start ≤ m → m < x.end → says (some x) m ≡ some x.value
  unfolding says answer_at
  says_in x m h k = answer_in x [] m h k

  pub says_early : (x : Interval A) (m : ℕ) → m < x.start → says (some x) m ≡ none
  unfolding says answer_at
  says_early x m h = answer_early x [] m h

  pub says_late : (x : Interval A) (m : ℕ) → x.end ≤ m → says (some x) m ≡ none
  unfolding says answer_at
  says_late x m h = answer_late x [] m h

  -- an interval that covers the moment is the last that has started, and gives the answer
  record Hit (rs : List (Interval A)) (k m : ℕ) (v : A) : Type 0 where
    right : answer_at rs m ≡ some v
    last : started rs m ≡ suc k

  started_low : (b : ℕ) (rs : List (Interval A)) (m : ℕ) → Low b rs → m < b → started rs m ≡ 0
  unfolding started
  started_low b [] m l h = refl
  started_low b (x ∷ xs) m l h = cond_lt m x.start 0 _ (omega arith)

  seen_hit : (rs : List (Interval A)) → WellFormed rs → (k m : ℕ) (v : A) → seen rs k m ≡ some v → Hit rs k m v
  unfolding seen started says
  seen_hit [] w k m v e = absurd (none_some none v refl e)
  seen_hit (x ∷ xs) w zero m v e = go (place x.start x.end m)
    where
      go : Place x.start x.end m → Hit (x ∷ xs) 0 m v
      go (early i) = absurd (none_some (says (some x) m) v (says_early x m i) e)
      go (within i j) = record {
        right = answer_in x xs m i j ∙ sym (says_in x m i j) ∙ e;
        last = cond_ge m x.start 0 _ i ∙ ap suc (started_low x.end xs m (low_ahead x.end x.value xs w.1) j);
      }
      go (late i j) = absurd (none_some (says (some x) m) v (says_late x m j) e)
  seen_hit (x ∷ xs) w (suc k) m v e = go (place x.start x.end m) (seen_hit xs w.2 k m v e)
    where
      go : Place x.start x.end m → Hit xs k m v → Hit (x ∷ xs) (suc k) m v
      go (early i) t = absurd (none_some (answer_at xs m) v (answer_tail x xs w m (omega (arith, w.0))) t.right)
      go (within i j) t = absurd (none_some (answer_at xs m) v (answer_tail x xs w m j) t.right)
      go (late i j) t = record { right = answer_late x xs m j ∙ t.right; last = cond_ge m x.start 0 _ i ∙ ap suc t.last }

  -- the last that has started gives the answer, whether it still lasts or not
  none_right : (rs : List (Interval A)) → WellFormed rs → (m : ℕ) → started rs m ≡ 0 → answer_at rs m ≡ none
  unfolding started answer_at
  none_right [] w m e = refl
  none_right (x ∷ xs) w m e = go (place x.start x.end m)
    where
      more : x.start ≤ m → ⊥
      more i = let d : cond (ltb m x.start) 0 (suc (started xs m)) ≡ suc (started xs m) = cond_ge m x.start 0 (suc (started xs m)) i in omega (arith, sym d ∙ e)

      go : Place x.start x.end m → answer_at (x ∷ xs) m ≡ none
      go (early i) = answer_early x xs m i ∙ answer_tail x xs w m (omega (arith, w.0))
      go (within i j) = absurd (more i)
      go (late i j) = absurd (more i)

  -- past the first interval, by how many of the others have started
  last_late : (x : Interval A) (xs : List (Interval A)) → WellFormed (x ∷ xs) → (m c : ℕ) → started xs m ≡ c → x.start ≤ m → x.end ≤ m
      → ((b : ℕ) → started xs m ≡ suc b → seen xs b m ≡ answer_at xs m) → seen (x ∷ xs) c m ≡ answer_at (x ∷ xs) m
  unfolding seen
  last_late x xs w m zero e i j f = says_late x m j ∙ sym (answer_late x xs m j ∙ none_right xs w.2 m e)
  last_late x xs w m (suc c) e i j f = f c e ∙ sym (answer_late x xs m j)

  last_right : (rs : List (Interval A)) → WellFormed rs → (m c : ℕ) → started rs m ≡ suc c → seen rs c m ≡ answer_at rs m
  unfolding started seen
  last_right [] w m c e = absurd (omega arith)
  last_right (x ∷ xs) w m c e = go (place x.start x.end m) (last_right xs w.2 m)
    where
      one : x.start ≤ m → started xs m ≡ c
      one i = let d : cond (ltb m x.start) 0 (suc (started xs m)) ≡ suc (started xs m) = cond_ge m x.start 0 (suc (started xs m)) i in omega (arith, sym d ∙ e)

      go : Place x.start x.end m → ((b : ℕ) → started xs m ≡ suc b → seen xs b m ≡ answer_at xs m) → seen (x ∷ xs) c m ≡ answer_at (x ∷ xs) m
      go (early i) f =
          let d : cond (ltb m x.start) 0 (suc (started xs m)) ≡ 0 = cond_lt m x.start 0 (suc (started xs m)) i in absurd (omega (arith, sym d ∙ e))
      go (within i j) f =
          let z : c ≡ 0 = sym (one i) ∙ started_low x.end xs m (low_ahead x.end x.value xs w.1) j in
          rw z (says_in x m i j ∙ sym (answer_in x xs m i j))
      go (late i j) f = last_late x xs w m c (one i) i j f

  arrive_right : (rs : List (Interval A)) → WellFormed rs → (m c : ℕ) → started rs m ≡ c → (h : ℕ) → (arrive rs m h c).said ≡ answer_at rs m
  unfolding arrive
  arrive_right rs w m zero e h = sym (none_right rs w m e)
  arrive_right rs w m (suc c) e h = last_right rs w m c e

  or_else_right : (a o : Option A) (k : ℕ) (f : Finding A) → ((v : A) → o ≡ some v → a ≡ some v) → f.said ≡ a → (or_else o k f).said ≡ a
  unfolding or_else
  or_else_right a none k f g e = e
  or_else_right a (some v) k f g e = sym (g v refl)

  -- the answer, for any hint
  pub lookup_right : (rs : List (Interval A)) → WellFormed rs → (h m : ℕ) → (lookup rs h m).said ≡ answer_at rs m
  unfolding lookup
  lookup_right rs w h m =
      or_else_right (answer_at rs m) (seen rs h m) h _ (λ v e. (seen_hit rs w h m v e).right)
      (or_else_right (answer_at rs m) (seen rs (suc h) m) (suc h) _ (λ v e. (seen_hit rs w (suc h) m v e).right)
      (arrive_right rs w m (started rs m) refl h))

  or_else_hint : (j : ℕ) (o : Option A) (k : ℕ) (f : Finding A) → ((v : A) → o ≡ some v → k ≡ j) → f.hint ≡ j → (or_else o k f).hint ≡ j
  unfolding or_else
  or_else_hint j none k f g e = e
  or_else_hint j (some v) k f g e = g v refl

  -- the new hint: the last interval that has started; with none it stays
  pub lookup_hint_lem : (rs : List (Interval A)) → WellFormed rs → (h m : ℕ) → (lookup rs h m).hint ≡ (arrive rs m h (started rs m)).hint
  unfolding lookup arrive
  lookup_hint_lem rs w h m =
      or_else_hint _ (seen rs h m) h _ (λ v e. rw (seen_hit rs w h m v e).last)
      (or_else_hint _ (seen rs (suc h) m) (suc h) _ (λ v e. rw (seen_hit rs w (suc h) m v e).last) refl)

  -- the same for a table
  pub lookup_rows_right : (xs : List (Row A)) → Ordered xs → (i m h : ℕ) → (lookup_rows xs i m h).said ≡ answer_for xs i m
  unfolding lookup_rows answer_for
  lookup_rows_right xs w i m h = lookup_right (group i xs) (((formed_iff xs).0 w).groups i) h m

  -- the new hint in a table, likewise
  pub lookup_rows_hint : (xs : List (Row A)) → Ordered xs → (i m h : ℕ) → (lookup_rows xs i m h).hint ≡ (arrive (group i xs) m h (started (group i xs) m)).hint
  unfolding lookup_rows
  lookup_rows_hint xs w i m h = lookup_hint_lem (group i xs) (((formed_iff xs).0 w).groups i) h m

  -- so a lookup in a table is a look at the last interval that has started
  pub lookup_rows_last : (xs : List (Row A)) → Ordered xs → (i m h : ℕ)
      → lookup_rows xs i m h ≡ arrive (group i xs) m h (started (group i xs) m)
  unfolding lookup_rows answer_for
  lookup_rows_last xs w i m h j =
      record {
        said = (lookup_rows_right xs w i m h ∙ sym (arrive_right (group i xs) (((formed_iff xs).0 w).groups i) m (started (group i xs) m) refl h)) j;
        hint = lookup_rows_hint xs w i m h j;
      }
