-- A table is made of its instruments' groups: what an insert does to each, and that they determine the table.
-- Assumes nothing.
use Rattle.std.proofs.Math.Path.{◌≡◌, refl, sym, ap}
use Rattle.std.proofs.Common.{◌∙◌}
use Rattle.std.specs.Prelude.{◌≢◌, ◌↔◌, Bool, eqb}
use Rattle.std.proofs.Math.Logic.{inl, inr}
use Prim.Native.Nat.{ℕ, ◌≤◌, ◌<◌}
use Rattle.std.proofs.Math.Nat.{le_refl}
use Rattle.std.proofs.Math.Decide.{ℕ_discrete}
use native.Mathlib.Omega.{arith}
use mathlib.Core.List.{List, [], ◌∷◌, ◌++◌, append-nil}
use Rattle.std.proofs.Math.Dec.{eqb_refl, not_T}
use Rattle.std.proofs.Math.Facts.{eqb_yes, eqb_no}
use Rattle.theory.specs.Runs.{Interval, Mem, Ahead, WellFormed, overwrite, Same}
use Rattle.theory.specs.RunsTools.{cond_case, ltb_case, cond_yes, cond_no, Order, less, equal, more, order}
use Rattle.theory.proofs.RunsOverwrite.{overwrite_ok}
use Rattle.map_rules.specs.Table.{Row, interval_of, row_of, picked, group, below, above, tagged, AheadRow, Ordered, insert_rows}

module _ {A : Type 0} where
  -- ---- one row

  pub picked_own : (i : ℕ) (x : Row A) (rs : List (Interval A)) → x.instrument ≡ i → picked i x rs ≡ interval_of x ∷ rs
  unfolding picked
  picked_own i x rs e = cond_yes (eqb x.instrument i) _ _ (rw e (eqb_refl i))

  pub picked_other : (i : ℕ) (x : Row A) (rs : List (Interval A)) → x.instrument ≢ i → picked i x rs ≡ rs
  unfolding picked
  picked_other i x rs d = cond_no (eqb x.instrument i) _ _ (not_T (eqb x.instrument i) (λ t. d (eqb_yes t)))

  pub picked_case : (P : List (Interval A) → Type 0) (i : ℕ) (x : Row A) (rs : List (Interval A))
      → (x.instrument ≡ i → P (interval_of x ∷ rs)) → (x.instrument ≢ i → P rs) → P (picked i x rs)
  unfolding picked
  picked_case P i x rs f g = cond_case P (eqb x.instrument i) _ _ (λ t. f (eqb_yes t)) (λ t. g (eqb_no t))

  -- ---- parts

  pub group_append : (i : ℕ) (xs ys : List (Row A)) → group i (xs ++ ys) ≡ group i xs ++ group i ys
  unfolding group
  group_append i [] ys = refl
  group_append i (x ∷ xs) ys = go (ℕ_discrete x.instrument i) (group_append i xs ys)
    where
      go : Dec (x.instrument ≡ i) → group i (xs ++ ys) ≡ group i xs ++ group i ys → picked i x (group i (xs ++ ys)) ≡ picked i x (group i xs) ++ group i ys
      go (yes e) h = rw (picked_own i x (group i (xs ++ ys)) e, picked_own i x (group i xs) e) (ap (λ (rs : List (Interval A)). interval_of x ∷ rs) h)
      go (no d) h = rw (picked_other i x (group i (xs ++ ys)) d, picked_other i x (group i xs) d) h

  pub group_tagged : (i : ℕ) (rs : List (Interval A)) → group i (tagged i rs) ≡ rs
  unfolding group tagged
  group_tagged i [] = refl
  group_tagged i (r ∷ rs) = picked_own i (row_of i r) (group i (tagged i rs)) refl ∙ ap (λ (t : List (Interval A)). r ∷ t) (group_tagged i rs)

  pub group_tagged_other : (i j : ℕ) (rs : List (Interval A)) → i ≢ j → group j (tagged i rs) ≡ []
  unfolding group tagged
  group_tagged_other i j [] d = refl
  group_tagged_other i j (r ∷ rs) d = picked_other j (row_of i r) (group j (tagged i rs)) d ∙ group_tagged_other i j rs d

  pub group_below : (i j : ℕ) (xs : List (Row A)) → j < i → group j (below i xs) ≡ group j xs
  unfolding group below
  group_below i j [] h = refl
  group_below i j (x ∷ xs) h =
      ltb_case (λ (ys : List (Row A)). group j ys ≡ group j (x ∷ xs)) x.instrument i _ _
      (λ k. ap (λ (rs : List (Interval A)). picked j x rs) (group_below i j xs h))
      (λ k. group_below i j xs h ∙ sym (picked_other j x (group j xs) (omega arith)))

  pub group_not_below : (i j : ℕ) (xs : List (Row A)) → i ≤ j → group j (below i xs) ≡ []
  unfolding group below
  group_not_below i j [] h = refl
  group_not_below i j (x ∷ xs) h =
      ltb_case (λ (ys : List (Row A)). group j ys ≡ []) x.instrument i _ _
      (λ k. picked_other j x (group j (below i xs)) (omega arith) ∙ group_not_below i j xs h) (λ k. group_not_below i j xs h)

  pub group_above : (i j : ℕ) (xs : List (Row A)) → i < j → group j (above i xs) ≡ group j xs
  unfolding group above
  group_above i j [] h = refl
  group_above i j (x ∷ xs) h =
      ltb_case (λ (ys : List (Row A)). group j ys ≡ group j (x ∷ xs)) i x.instrument _ _
      (λ k. ap (λ (rs : List (Interval A)). picked j x rs) (group_above i j xs h))
      (λ k. group_above i j xs h ∙ sym (picked_other j x (group j xs) (omega arith)))

  pub group_not_above : (i j : ℕ) (xs : List (Row A)) → j ≤ i → group j (above i xs) ≡ []
  unfolding group above
  group_not_above i j [] h = refl
  group_not_above i j (x ∷ xs) h =
      ltb_case (λ (ys : List (Row A)). group j ys ≡ []) i x.instrument _ _
      (λ k. picked_other j x (group j (above i xs)) (omega arith) ∙ group_not_above i j xs h) (λ k. group_not_above i j xs h)

  -- ---- sorted by instrument

  abbrev pub Least : ℕ → List (Row A) → Type 0
  Least i [] = Unit {0}
  Least i (x ∷ xs) = i ≤ x.instrument

  abbrev pub Sorted : List (Row A) → Type 0
  Sorted [] = Unit {0}
  Sorted (x ∷ xs) = Least x.instrument xs × Sorted xs

  pub least_le : (i j : ℕ) (xs : List (Row A)) → i ≤ j → Least j xs → Least i xs
  least_le i j [] h k = tt
  least_le i j (x ∷ xs) h k = omega arith

  pub group_none : (i j : ℕ) (xs : List (Row A)) → Sorted xs → Least j xs → i < j → group i xs ≡ []
  unfolding group
  group_none i j [] s l h = refl
  group_none i j (x ∷ xs) s l h =
      picked_other i x (group i xs) (omega arith) ∙ group_none i j xs s.1 (least_le j x.instrument xs l s.0) h

  -- the groups determine a sorted table
  pub groups_unique : (xs ys : List (Row A)) → Sorted xs → Sorted ys → ((i : ℕ) → group i xs ≡ group i ys) → xs ≡ ys
  unfolding group
  groups_unique [] [] s t f = refl
  groups_unique [] (y ∷ ys) s t f =
      let d : [] ≡ interval_of y ∷ group y.instrument ys = f y.instrument ∙ picked_own y.instrument y (group y.instrument ys) refl in
      let z : ◌≡◌ {A = ℕ} 0 1 = cc in absurd (omega arith)
  groups_unique (x ∷ xs) [] s t f =
      let d : [] ≡ interval_of x ∷ group x.instrument xs = sym (f x.instrument) ∙ picked_own x.instrument x (group x.instrument xs) refl in
      let z : ◌≡◌ {A = ℕ} 0 1 = cc in absurd (omega arith)
  groups_unique (x ∷ xs) (y ∷ ys) s t f = go (order x.instrument y.instrument) (groups_unique xs ys s.1 t.1)
    where
      nobody : (r : Interval A) (rs : List (Interval A)) → [] ≡ r ∷ rs → ⊥
      nobody r rs d = let z : ◌≡◌ {A = ℕ} 0 1 = cc in omega arith

      go : Order x.instrument y.instrument → (((i : ℕ) → group i xs ≡ group i ys) → xs ≡ ys) → x ∷ xs ≡ y ∷ ys
      go (less h) g =
          absurd (nobody (interval_of x) (group x.instrument xs)
          (sym (group_none x.instrument y.instrument (y ∷ ys) t (le_refl y.instrument) h)
          ∙ sym (f x.instrument) ∙ picked_own x.instrument x (group x.instrument xs) refl))
      go (more h) g =
          absurd (nobody (interval_of y) (group y.instrument ys)
          (sym (group_none y.instrument x.instrument (x ∷ xs) s (le_refl x.instrument) h)
          ∙ f y.instrument ∙ picked_own y.instrument y (group y.instrument ys) refl))
      go (equal h) g =
          let i : ℕ = x.instrument in
          let e : interval_of x ∷ group i xs ≡ interval_of y ∷ group i ys =
          sym (picked_own i x (group i xs) refl) ∙ f i ∙ picked_own i y (group i ys) (sym h) in
          let d : interval_of x ≡ interval_of y = cc in
          let c : group i xs ≡ group i ys = cc in
          let k : xs ≡ ys = g (λ j. rest j c (ℕ_discrete i j)) in
          λ q. record { instrument = h q; start = (d q).start; end = (d q).end; value = (d q).value } ∷ k q
        where
          rest : (j : ℕ) → group x.instrument xs ≡ group x.instrument ys → Dec (x.instrument ≡ j) → group j xs ≡ group j ys
          rest j c (yes e) = rw e at c
          rest j c (no e) = sym (picked_other j x (group j xs) e) ∙ f j ∙ picked_other j y (group j ys) (λ k. e (h ∙ k))

  -- ---- sorted, part by part

  abbrev Most : ℕ → List (Row A) → Type 0
  Most i [] = Unit {0}
  Most i (x ∷ xs) = (x.instrument ≤ i) × Most i xs

  sorted_append : (i : ℕ) (xs ys : List (Row A)) → Sorted xs → Most i xs → Least i ys → Sorted ys → Sorted (xs ++ ys)
  sorted_append i [] ys s m l t = t
  sorted_append i (x ∷ xs) ys s m l t = (first xs s.0, sorted_append i xs ys s.1 m.1 l t)
    where
      first : (us : List (Row A)) → Least x.instrument us → Least x.instrument (us ++ ys)
      first [] k = least_le x.instrument i ys m.0 l
      first (u ∷ us) k = k

  least_append : (i : ℕ) (xs ys : List (Row A)) → Least i xs → Least i ys → Least i (xs ++ ys)
  least_append i [] ys l k = k
  least_append i (x ∷ xs) ys l k = l

  below_least : (i j : ℕ) (xs : List (Row A)) → Sorted xs → Least j xs → Least j (below i xs)
  unfolding below
  below_least i j [] s l = tt
  below_least i j (x ∷ xs) s l =
      ltb_case (λ (ys : List (Row A)). Least j ys) x.instrument i _ _ (λ k. l)
      (λ k. below_least i j xs s.1 (least_le j x.instrument xs l s.0))

  below_sorted : (i : ℕ) (xs : List (Row A)) → Sorted xs → Sorted (below i xs)
  unfolding below
  below_sorted i [] s = tt
  below_sorted i (x ∷ xs) s =
      ltb_case (λ (ys : List (Row A)). Sorted ys) x.instrument i _ _
      (λ k. (below_least i x.instrument xs s.1 s.0, below_sorted i xs s.1)) (λ k. below_sorted i xs s.1)

  below_most : (i : ℕ) (xs : List (Row A)) → Most i (below i xs)
  unfolding below
  below_most i [] = tt
  below_most i (x ∷ xs) =
      ltb_case (λ (ys : List (Row A)). Most i ys) x.instrument i _ _ (λ k. (omega arith, below_most i xs)) (λ k. below_most i xs)

  above_least : (i j : ℕ) (xs : List (Row A)) → Sorted xs → Least j xs → Least j (above i xs)
  unfolding above
  above_least i j [] s l = tt
  above_least i j (x ∷ xs) s l =
      ltb_case (λ (ys : List (Row A)). Least j ys) i x.instrument _ _ (λ k. l)
      (λ k. above_least i j xs s.1 (least_le j x.instrument xs l s.0))

  above_own : (i : ℕ) (xs : List (Row A)) → Least i (above i xs)
  unfolding above
  above_own i [] = tt
  above_own i (x ∷ xs) = ltb_case (λ (ys : List (Row A)). Least i ys) i x.instrument _ _ (λ k. omega arith) (λ k. above_own i xs)

  above_sorted : (i : ℕ) (xs : List (Row A)) → Sorted xs → Sorted (above i xs)
  unfolding above
  above_sorted i [] s = tt
  above_sorted i (x ∷ xs) s =
      ltb_case (λ (ys : List (Row A)). Sorted ys) i x.instrument _ _
      (λ k. (above_least i x.instrument xs s.1 s.0, above_sorted i xs s.1)) (λ k. above_sorted i xs s.1)

  tagged_least : (i : ℕ) (rs : List (Interval A)) → Least i (tagged i rs)
  unfolding tagged
  tagged_least i [] = tt
  tagged_least i (r ∷ rs) = le_refl i

  tagged_sorted : (i : ℕ) (rs : List (Interval A)) → Sorted (tagged i rs)
  unfolding tagged
  tagged_sorted i [] = tt
  tagged_sorted i (r ∷ rs) = (tagged_least i rs, tagged_sorted i rs)

  tagged_most : (i : ℕ) (rs : List (Interval A)) → Most i (tagged i rs)
  unfolding tagged
  tagged_most i [] = tt
  tagged_most i (r ∷ rs) = (le_refl i, tagged_most i rs)

  -- ---- rows and neighbours, or groups

  pub record Formed (xs : List (Row A)) : Type 0 where
    pub sorted : Sorted xs
    pub groups : (i : ℕ) → WellFormed (group i xs)

  rows_sorted : (xs : List (Row A)) → Ordered xs → Sorted xs
  rows_sorted [] w = tt
  rows_sorted (x ∷ xs) w = (first xs w.1, rows_sorted xs w.2)
    where
      first : (ys : List (Row A)) → AheadRow x ys → Least x.instrument ys
      first [] a = tt
      first (y ∷ ys) a = a.0

  group_ahead : (x : Row A) (xs : List (Row A)) → Ordered xs → AheadRow x xs → Ahead x.end x.value (group x.instrument xs)
  unfolding group
  group_ahead x [] w a = tt
  group_ahead x (y ∷ ys) w a =
      picked_case (λ (rs : List (Interval A)). Ahead x.end x.value rs) x.instrument y (group x.instrument ys)
      (λ e. a.1 (sym e))
      (λ d. let s : Sorted (y ∷ ys) = rows_sorted (y ∷ ys) w in
      let h : x.instrument < y.instrument = omega (arith, a.0) in
      rw (group_none x.instrument y.instrument ys s.1 s.0 h) tt)

  rows_groups : (xs : List (Row A)) → Ordered xs → (i : ℕ) → WellFormed (group i xs)
  unfolding group
  rows_groups [] w i = tt
  rows_groups (x ∷ xs) w i =
      picked_case (λ (rs : List (Interval A)). WellFormed rs) i x (group i xs)
      (λ e. (w.0, rw e at (group_ahead x xs w.2 w.1), rows_groups xs w.2 i))
      (λ d. rows_groups xs w.2 i)

  tail_formed : (x : Row A) (xs : List (Row A)) → Formed (x ∷ xs) → Formed xs
  unfolding group
  tail_formed x xs f = record { sorted = f.sorted.1; groups = λ i. go i (ℕ_discrete x.instrument i) }
    where
      go : (i : ℕ) → Dec (x.instrument ≡ i) → WellFormed (group i xs)
      go i (yes e) = let w : WellFormed (interval_of x ∷ group i xs) = rw (picked_own i x (group i xs) e) at (f.groups i) in w.2
      go i (no d) = rw (picked_other i x (group i xs) d) at (f.groups i)

  formed_rows : (xs : List (Row A)) → Formed xs → Ordered xs
  unfolding group
  formed_rows [] f = tt
  formed_rows (x ∷ xs) f =
      let w : WellFormed (interval_of x ∷ group x.instrument xs) = rw (picked_own x.instrument x (group x.instrument xs) refl) at (f.groups x.instrument) in
      (w.0, first xs f.sorted.0 w.1, formed_rows xs (tail_formed x xs f))
    where
      first : (ys : List (Row A)) → Least x.instrument ys → Ahead x.end x.value (group x.instrument ys) → AheadRow x ys
      first [] l a = tt
      first (y ∷ ys) l a = (l, λ e. rw (picked_own x.instrument y (group x.instrument ys) (sym e)) at a)

  pub formed_iff : (xs : List (Row A)) → Ordered xs ↔ Formed xs
  formed_iff xs = (λ w. record { sorted = rows_sorted xs w; groups = rows_groups xs w }, formed_rows xs)

  -- ---- membership

  pub mem_group : (x : Row A) (xs : List (Row A)) → Mem x xs → Mem (interval_of x) (group x.instrument xs)
  unfolding group
  mem_group x [] h = h
  mem_group x (y ∷ ys) (inl e) =
      rw (picked_own x.instrument y (group x.instrument ys) (ap (λ (r : Row A). r.instrument) (sym e))) (inl (ap (λ (r : Row A). interval_of r) e))
  mem_group x (y ∷ ys) (inr h) =
      picked_case (λ (rs : List (Interval A)). Mem (interval_of x) rs) x.instrument y (group x.instrument ys) (λ e. inr (mem_group x ys h)) (λ d. mem_group x ys h)

  pub group_mem : (x : Row A) (xs : List (Row A)) → Mem (interval_of x) (group x.instrument xs) → Mem x xs
  unfolding group
  group_mem x [] h = h
  group_mem x (y ∷ ys) h = go (ℕ_discrete y.instrument x.instrument) h (group_mem x ys)
    where
      own : y.instrument ≡ x.instrument → (Mem (interval_of x) (group x.instrument ys) → Mem x ys) → Mem (interval_of x) (interval_of y ∷ group x.instrument ys) → Mem x (y ∷ ys)
      own e g (inl d) = let f : x.instrument ≡ y.instrument = sym e in inl (λ q. record { instrument = f q; start = (d q).start; end = (d q).end; value = (d q).value })
      own e g (inr k) = inr (g k)

      go : Dec (y.instrument ≡ x.instrument) → Mem (interval_of x) (picked x.instrument y (group x.instrument ys))
          → (Mem (interval_of x) (group x.instrument ys) → Mem x ys) → Mem x (y ∷ ys)
      go (yes e) k g = own e g (rw (picked_own x.instrument y (group x.instrument ys) e) at k)
      go (no d) k g = inr (g (rw (picked_other x.instrument y (group x.instrument ys) d) at k))

module _ {A : Type 0} (same : A → A → Bool) (n : Row A) (xs : List (Row A)) where
  three : (j : ℕ) (a b c : List (Row A)) → group j (a ++ (b ++ c)) ≡ group j a ++ (group j b ++ group j c)
  three j a b c = group_append j a (b ++ c) ∙ ap (λ (rs : List (Interval A)). group j a ++ rs) (group_append j b c)

  pub insert_own : group n.instrument (insert_rows same n xs) ≡ overwrite same (interval_of n) (group n.instrument xs)
  unfolding insert_rows
  insert_own =
      let i : ℕ = n.instrument in
      let rs : List (Interval A) = overwrite same (interval_of n) (group i xs) in
      three i (below i xs) (tagged i rs) (above i xs)
      ∙ (λ q. group_not_below i i xs (le_refl i) q ++ (group_tagged i rs q ++ group_not_above i i xs (le_refl i) q))
      ∙ append-nil rs

  pub insert_other : (j : ℕ) → n.instrument ≢ j → group j (insert_rows same n xs) ≡ group j xs
  unfolding insert_rows
  insert_other j d = three j (below i xs) (tagged i rs) (above i xs) ∙ go (order i j)
    where
      i : ℕ
      i = n.instrument

      rs : List (Interval A)
      rs = overwrite same (interval_of n) (group i xs)

      go : Order i j → group j (below i xs) ++ (group j (tagged i rs) ++ group j (above i xs)) ≡ group j xs
      go (less h) = λ q. group_not_below i j xs (omega arith) q ++ (group_tagged_other i j rs d q ++ group_above i j xs h q)
      go (equal h) = absurd (d h)
      go (more h) =
          (λ q. group_below i j xs h q ++ (group_tagged_other i j rs d q ++ group_not_above i j xs (omega arith) q)) ∙ append-nil (group j xs)

  pub insert_sorted : Sorted xs → Sorted (insert_rows same n xs)
  unfolding insert_rows
  insert_sorted s =
      let i : ℕ = n.instrument in
      let rs : List (Interval A) = overwrite same (interval_of n) (group i xs) in
      sorted_append i (below i xs) (tagged i rs ++ above i xs) (below_sorted i xs s) (below_most i xs)
      (least_append i (tagged i rs) (above i xs) (tagged_least i rs) (above_own i xs))
      (sorted_append i (tagged i rs) (above i xs) (tagged_sorted i rs) (tagged_most i rs) (above_own i xs) (above_sorted i xs s))

  pub insert_formed : Same same → n.start < n.end → Formed xs → Formed (insert_rows same n xs)
  insert_formed laws h f = record { sorted = insert_sorted f.sorted; groups = λ j. go j (ℕ_discrete n.instrument j) }
    where
      go : (j : ℕ) → Dec (n.instrument ≡ j) → WellFormed (group j (insert_rows same n xs))
      go j (yes e) = rw (← e, insert_own) (overwrite_ok same laws (interval_of n) (group n.instrument xs) h (f.groups n.instrument))
      go j (no d) = rw (insert_other j d) (f.groups j)
