-- The rules of the table: its rows are exactly the longest runs of its answers, only one list has exactly them, the answers
-- determine the table, and what an insert does to the answers and to the other rows. Assumes nothing.
use Rattle.std.specs.Prelude.{◌≡◌, ◌≢◌, ◌↔◌, ℕ, ◌<◌, Bool}
use Rattle.std.proofs.Math.Path.{refl, sym}
use Rattle.std.proofs.Common.{subst, ap, ◌∙◌, le_refl, arith}
use Rattle.std.proofs.Math.Decide.{ℕ_discrete}
use Rattle.std.proofs.Math.Option.{Option, none, some}
use mathlib.Core.List.{List, [], ◌∷◌}
use Rattle.std.proofs.Math.Dec.{T}
use Rattle.theory.specs.Runs.{Interval, answer_at, Mem, IsRun, Same}
use Rattle.theory.specs.RunsTools.{T_fst, T_snd, none_some, some_same, Place, early, within, late, place, answer_in, answer_early, answer_late, answer_cons}
use Rattle.theory.proofs.RunsOverwrite.{overwrite_answer}
use Rattle.theory.proofs.RunsLongest.{Rising, longest, unique, only_list, kept_before, kept_after}
use Rattle.map_rules.specs.Table.{Row, interval_of, row_of, picked, group, answer_for, Ordered, all_known, insert_rows}
use Rattle.map_rules.specs.Tests.{known_iff}
use Rattle.map_rules.specs.Groups.{Sorted, picked_own, picked_other, Formed, formed_iff, groups_unique, mem_group, group_mem, insert_own, insert_other, insert_formed}

module _ {A : Type 0} where
  -- the rows are exactly the longest unbroken runs of what they answer
  pub rows_longest : (xs : List (Row A)) → Ordered xs → (x : Row A) → Mem x xs ↔ IsRun (answer_for xs x.instrument) (interval_of x)
  unfolding answer_for
  rows_longest xs w x =
      let l : Mem (interval_of x) (group x.instrument xs) ↔ IsRun (answer_at (group x.instrument xs)) (interval_of x) =
      longest (group x.instrument xs) (((formed_iff xs).0 w).groups x.instrument) (interval_of x) in
      (λ h. l.0 (mem_group x xs h), λ r. group_mem x xs (l.1 r))

  -- two ordered tables with the same answers are equal
  pub rows_unique : (xs ys : List (Row A)) → Ordered xs → Ordered ys
      → ((i m : ℕ) → answer_for xs i m ≡ answer_for ys i m) → xs ≡ ys
  unfolding answer_for
  rows_unique xs ys w v f =
      let a : Formed xs = (formed_iff xs).0 w in
      let b : Formed ys = (formed_iff ys).0 v in
      groups_unique xs ys a.sorted b.sorted (λ i. unique (group i xs) (group i ys) (a.groups i) (b.groups i) (f i))

  -- only one list, by instrument and start, has exactly the longest runs of an answer; so the length is their number
  pub only_rows : (f : ℕ → ℕ → Option A) (xs ys : List (Row A)) → Ordered xs → ((i m : ℕ) → answer_for xs i m ≡ f i m)
      → Sorted ys → ((i : ℕ) → Rising (group i ys)) → ((y : Row A) → Mem y ys ↔ IsRun (f y.instrument) (interval_of y)) → ys ≡ xs
  unfolding answer_for
  only_rows f xs ys w e s r g =
      let a : Formed xs = (formed_iff xs).0 w in
      groups_unique ys xs s a.sorted (λ i. only_list (f i) (group i xs) (group i ys) (a.groups i) (e i) (r i)
      (λ y. (λ h. (g (row_of i y)).0 (group_mem (row_of i y) ys h), λ h. mem_group (row_of i y) ys ((g (row_of i y)).1 h))))

  -- one more row in front
  pub front : (n : Row A) (xs ys : List (Row A)) (i m : ℕ) → answer_for xs i m ≡ answer_for ys i m → answer_for (n ∷ xs) i m ≡ answer_for (n ∷ ys) i m
  unfolding answer_for group
  front n xs ys i m e = go (ℕ_discrete n.instrument i)
    where
      go : Dec (n.instrument ≡ i) → answer_at (picked i n (group i xs)) m ≡ answer_at (picked i n (group i ys)) m
      go (yes d) = rw (picked_own i n (group i xs) d, picked_own i n (group i ys) d) (answer_cons (interval_of n) (group i xs) (group i ys) m e)
      go (no d) = rw (picked_other i n (group i xs) d, picked_other i n (group i ys) d) e

  -- one that covers nothing
  pub empty_front : (n : Row A) (xs : List (Row A)) (i m : ℕ) → n.start ≡ n.end → answer_for xs i m ≡ answer_for (n ∷ xs) i m
  unfolding answer_for group
  empty_front n xs i m e = go (ℕ_discrete n.instrument i)
    where
      by : Place n.start n.end m → answer_at (group i xs) m ≡ answer_at (interval_of n ∷ group i xs) m
      by (early h) = sym (answer_early (interval_of n) (group i xs) m h)
      by (within h k) = absurd (omega arith)
      by (late h k) = sym (answer_late (interval_of n) (group i xs) m k)

      go : Dec (n.instrument ≡ i) → answer_at (group i xs) m ≡ answer_at (picked i n (group i xs)) m
      go (yes d) = rw (picked_own i n (group i xs) d) (by (place n.start n.end m))
      go (no d) = rw (picked_other i n (group i xs) d) refl

module _ {A : Type 0} (same : A → A → Bool) (laws : Same same) where
  module _ (n : Row A) (xs : List (Row A)) (h : n.start < n.end) (w : Ordered xs) where
    -- an insert leaves an ordered table
    pub rows_ok : Ordered (insert_rows same n xs)
    rows_ok = (formed_iff (insert_rows same n xs)).1 (insert_formed same n xs laws h ((formed_iff xs).0 w))

    -- it answers as if the new row stood in front of all, where the first that covers the moment decides
    pub rows_answer_lem : (i m : ℕ) → answer_for (insert_rows same n xs) i m ≡ answer_for (n ∷ xs) i m
    unfolding answer_for group
    rows_answer_lem i m = go (ℕ_discrete n.instrument i)
      where
        go : Dec (n.instrument ≡ i) → answer_at (group i (insert_rows same n xs)) m ≡ answer_at (picked i n (group i xs)) m
        go (yes d) =
            rw (picked_own i n (group i xs) d)
            (subst (λ (k : ℕ). answer_at (group k (insert_rows same n xs)) m ≡ answer_at (interval_of n ∷ group k xs) m) d
            (rw (insert_own same n xs)
            (overwrite_answer same laws (interval_of n) (group n.instrument xs) h (((formed_iff xs).0 w).groups n.instrument) m)))
        go (no d) = rw (picked_other i n (group i xs) d, insert_other same n xs i d) refl

    -- what it leaves alone: other instruments, and what ends before its start or starts after its end
    through : (x : Row A) → Mem (interval_of x) (group x.instrument xs) ↔ Mem (interval_of x) (group x.instrument (insert_rows same n xs))
        → Mem x xs ↔ Mem x (insert_rows same n xs)
    through x e = (λ k. group_mem x (insert_rows same n xs) (e.0 (mem_group x xs k)), λ k. group_mem x xs (e.1 (mem_group x (insert_rows same n xs) k)))

    pub rows_other : (x : Row A) → n.instrument ≢ x.instrument → Mem x xs ↔ Mem x (insert_rows same n xs)
    rows_other x d = through x (rw (insert_other same n xs x.instrument d) (λ k. k, λ k. k))

    pub rows_before : (x : Row A) → n.instrument ≡ x.instrument → x.end < n.start → Mem x xs ↔ Mem x (insert_rows same n xs)
    rows_before x e k =
        through x (rw (← e, insert_own same n xs) (kept_before same laws (interval_of n) (group n.instrument xs) h (((formed_iff xs).0 w).groups n.instrument) (interval_of x) k))

    pub rows_after : (x : Row A) → n.instrument ≡ x.instrument → n.end < x.start → Mem x xs ↔ Mem x (insert_rows same n xs)
    rows_after x e k =
        through x (rw (← e, insert_own same n xs) (kept_after same laws (interval_of n) (group n.instrument xs) h (((formed_iff xs).0 w).groups n.instrument) (interval_of x) k))

-- ---- the values

module _ {A : Type 0} (known : A → Bool) where
  -- what a table of known values answers is known
  pub answer_known : (xs : List (Row A)) → T (all_known known xs) → (i m : ℕ) (v : A) → answer_for xs i m ≡ some v → T (known v)
  unfolding answer_for group answer_at all_known
  answer_known [] k i m v e = absurd (none_some none v refl e)
  answer_known (x ∷ xs) k i m v e = go (ℕ_discrete x.instrument i) (answer_known xs (T_snd (known x.value) (all_known known xs) k) i m v)
    where
      by : answer_at (interval_of x ∷ group i xs) m ≡ some v → (answer_for xs i m ≡ some v → T (known v)) → Place x.start x.end m → T (known v)
      by c f (early a) = f (sym (answer_early (interval_of x) (group i xs) m a) ∙ c)
      by c f (within a b) =
          rw (some_same (answer_at (interval_of x ∷ group i xs) m) x.value v (answer_in (interval_of x) (group i xs) m a b) c)
          at (T_fst (known x.value) (all_known known xs) k)
      by c f (late a b) = f (sym (answer_late (interval_of x) (group i xs) m b) ∙ c)

      go : Dec (x.instrument ≡ i) → (answer_for xs i m ≡ some v → T (known v)) → T (known v)
      go (yes d) f = by (sym (ap (λ (rs : List (Interval A)). answer_at rs m) (picked_own i x (group i xs) d)) ∙ e) f (place x.start x.end m)
      go (no d) f = f (sym (ap (λ (rs : List (Interval A)). answer_at rs m) (picked_other i x (group i xs) d)) ∙ e)

  -- a table that answers as another one of known values has known values
  pub known_answers : (xs ys : List (Row A)) → Ordered ys → ((i m : ℕ) → answer_for ys i m ≡ answer_for xs i m) → T (all_known known xs) → T (all_known known ys)
  known_answers xs ys w e k =
      (known_iff known ys).1 (λ y h.
      let r : IsRun (answer_for ys y.instrument) (interval_of y) = (rows_longest ys w y).0 h in
      answer_known xs k y.instrument y.start y.value
      (sym (e y.instrument y.start) ∙ r.constant y.start (le_refl y.start) r.some_time))
