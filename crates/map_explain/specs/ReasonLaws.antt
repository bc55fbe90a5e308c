-- The reason that is given holds, for any list of intervals (reason-holds); among well-formed intervals no other does (reason-only). Its
-- value and its number are what a lookup finds at any hint (reason-looked), and the intervals that it names are rows of the table
-- (reason-stored). Assumes nothing.
use Rattle.std.specs.Prelude.{◌≡◌}
use Rattle.std.proofs.Math.Path.{refl, sym, ap}
use Rattle.std.proofs.Common.{◌∙◌, inl, inr, add-zero}
use Prim.Native.Nat.{ℕ, zero, suc, ◌≤◌, ◌<◌, ◌+◌}
use Rattle.std.proofs.Math.Nat.{zero-add}
use native.Mathlib.Omega.{arith}
use Rattle.std.proofs.Math.Decide.{dec_le}
use Rattle.std.proofs.Math.Option.{none, some}
use mathlib.Core.List.{List, [], ◌∷◌}
use Rattle.std.proofs.Math.ListN.{get_elem?}
use Rattle.theory.specs.Runs.{Mem, Interval, answer_at, WellFormed}
use Rattle.theory.specs.RunsTools.{ltb_case, cond_lt, cond_ge, answer_in, answer_late, answer_low, none_some, some_same}
use Rattle.map_rules.specs.Table.{Row, row_of, group, answer_for, Ordered}
use Rattle.map_rules.specs.Groups.{formed_iff, group_mem}
use Rattle.map_rules.specs.Lookup.{started, arrive, lookup_rows, lookup_rows_right, lookup_rows_hint}
use Rattle.map_explain.specs.Reason.{Reason, in_one, unknown, before, after, between, reason_from, reason, explained_rows, Holds, named_by, said_by, hint_by, finding_by}

module _ {A : Type 0} where
  -- ---- the reason given holds

  from_holds : (g : List (Interval A)) (k : ℕ) (x : Interval A) (xs : List (Interval A)) (m : ℕ) → get_elem? g k ≡ some x
      → ((j : ℕ) → get_elem? g (suc k + j) ≡ get_elem? xs j) → x.start ≤ m → Holds g m (reason_from k x xs m)
  unfolding reason_from
  from_holds g k x [] m e f h =
      ltb_case (Holds g m) m x.end _ _ (λ l. (e, h, l)) (λ l. (e, ap (get_elem? g) (omega arith) ∙ f 0, l))
  from_holds g k x (y ∷ ys) m e f h =
      let n : get_elem? g (suc k) ≡ some y = ap (get_elem? g) (omega arith) ∙ f 0 in
      let r : y.start ≤ m → Holds g m (reason_from (suc k) y ys m) =
      λ l. from_holds g (suc k) y ys m n (λ j. ap (get_elem? g) (omega arith) ∙ f (suc j)) l in
      ltb_case (Holds g m) m x.end _ _ (λ l. (e, h, l)) (λ l. ltb_case (Holds g m) m y.start _ _ (λ s. (e, n, l, s)) r)

  pub reason_holds : (g : List (Interval A)) (m : ℕ) → Holds g m (reason g m)
  unfolding reason
  reason_holds [] m = refl
  reason_holds (x ∷ xs) m =
      let f : (j : ℕ) → get_elem? (x ∷ xs) (suc 0 + j) ≡ get_elem? xs j =
      λ j. let z : suc 0 + j ≡ suc j = omega arith in ap (get_elem? (x ∷ xs)) z in
      ltb_case (Holds (x ∷ xs) m) m x.start _ _ (λ l. (refl, l)) (λ l. from_holds (x ∷ xs) 0 x xs m refl f l)

  -- ---- its value is the answer

  from_said : (k : ℕ) (x : Interval A) (xs : List (Interval A)) (m : ℕ) → WellFormed (x ∷ xs) → x.start ≤ m
      → said_by (reason_from k x xs m) ≡ answer_at (x ∷ xs) m
  unfolding reason_from said_by answer_at
  from_said k x [] m w h =
      ltb_case (λ (r : Reason A). said_by r ≡ answer_at (x ∷ []) m) m x.end _ _
      (λ l. sym (answer_in x [] m h l)) (λ l. sym (answer_late x [] m l))
  from_said k x (y ∷ ys) m w h =
      let r : y.start ≤ m → said_by (reason_from (suc k) y ys m) ≡ answer_at (y ∷ ys) m = λ l. from_said (suc k) y ys m w.2 l in
      ltb_case (λ (r : Reason A). said_by r ≡ answer_at (x ∷ y ∷ ys) m) m x.end _ _ (λ l. sym (answer_in x (y ∷ ys) m h l))
      (λ l. ltb_case (λ (r : Reason A). said_by r ≡ answer_at (x ∷ y ∷ ys) m) m y.start _ _
      (λ s. sym (answer_late x (y ∷ ys) m l ∙ answer_low y.start (y ∷ ys) w.2 (omega arith) m s))
      (λ s. r s ∙ sym (answer_late x (y ∷ ys) m l)))

  pub reason_said : (g : List (Interval A)) (m : ℕ) → WellFormed g → said_by (reason g m) ≡ answer_at g m
  unfolding reason said_by answer_at
  reason_said [] m w = refl
  reason_said (x ∷ xs) m w =
      ltb_case (λ (r : Reason A). said_by r ≡ answer_at (x ∷ xs) m) m x.start _ _
      (λ l. sym (answer_low x.start (x ∷ xs) w (omega arith) m l)) (λ l. from_said 0 x xs m w l)

  -- ---- only one reason holds

  -- a reason among later intervals, numbered from k on
  unfoldable lift : ℕ → Reason A → Reason A
  lift k (in_one j x) = in_one (k + j) x
  lift k unknown = unknown
  lift k (before x) = before x
  lift k (after j x) = after (k + j) x
  lift k (between j x y) = between (k + j) x y

  starts_later : (y : Interval A) (ys : List (Interval A)) → WellFormed (y ∷ ys) → (j : ℕ) (z : Interval A)
      → get_elem? (y ∷ ys) j ≡ some z → (y.start ≤ z.start) × (z.start < z.end)
  starts_later y ys w zero z e = let q : y ≡ z = some_same (some y) y z refl e in (rw q (omega arith), rw q at w.0)
  starts_later y [] w (suc j) z e = absurd (none_some none z refl e)
  starts_later y (y' ∷ ys) w (suc j) z e =
      let r = starts_later y' ys w.2 j z e in (omega (arith, r.0, w.0, w.1.0), r.1)

  only_from : (k : ℕ) (x : Interval A) (xs : List (Interval A)) (m : ℕ) (r : Reason A) → WellFormed (x ∷ xs) → x.start ≤ m
      → Holds (x ∷ xs) m r → reason_from k x xs m ≡ lift k r
  unfolding reason_from lift
  only_from k x xs m unknown w h o =
      absurd (none_some (get_elem? (x ∷ xs) 0) x (ap (λ (l : List (Interval A)). get_elem? l 0) o) refl)
  only_from k x xs m (before z) w h o =
      let q : x ≡ z = some_same (some x) x z refl o.0 in
      let l : m < x.start = rw q o.1 in
      absurd (omega arith)
  only_from k x [] m (in_one zero z) w h o =
      let q : x ≡ z = some_same (some x) x z refl o.0 in
      let l : m < x.end = rw q o.2 in
      let n : k ≡ k + 0 = omega arith in
      cond_lt m x.end _ _ l ∙ (λ i. in_one (n i) (q i))
  only_from k x [] m (in_one (suc j) z) w h o = absurd (none_some none z refl o.0)
  only_from k x [] m (after zero z) w h o =
      let q : x ≡ z = some_same (some x) x z refl o.0 in
      let l : x.end ≤ m = rw q o.2 in
      let n : k ≡ k + 0 = omega arith in
      cond_ge m x.end _ _ l ∙ (λ i. after (n i) (q i))
  only_from k x [] m (after (suc j) z) w h o = absurd (none_some none z refl o.0)
  only_from k x [] m (between zero z y) w h o = absurd (none_some none y refl o.1)
  only_from k x [] m (between (suc j) z y) w h o = absurd (none_some none z refl o.0)
  only_from k x (y ∷ ys) m (in_one zero z) w h o =
      let q : x ≡ z = some_same (some x) x z refl o.0 in
      let l : m < x.end = rw q o.2 in
      let n : k ≡ k + 0 = omega arith in
      cond_lt m x.end _ _ l ∙ (λ i. in_one (n i) (q i))
  only_from k x (y ∷ ys) m (in_one (suc j) z) w h o =
      let s = starts_later y ys w.2 j z o.0 in
      let n : suc k + j ≡ k + suc j = omega arith in
      let l : y.start ≤ m = omega (arith, s.0, o.1) in
      cond_ge m x.end _ _ (omega (arith, w.1.0)) ∙ cond_ge m y.start _ _ l
      ∙ only_from (suc k) y ys m (in_one j z) w.2 l o ∙ (λ i. in_one (n i) z)
  only_from k x (y ∷ ys) m (after zero z) w h o = absurd (none_some (some y) y o.1 refl)
  only_from k x (y ∷ ys) m (after (suc j) z) w h o =
      let s = starts_later y ys w.2 j z o.0 in
      let n : suc k + j ≡ k + suc j = omega arith in
      let l : y.start ≤ m = omega (arith, s.0, s.1, o.2) in
      cond_ge m x.end _ _ (omega (arith, w.1.0)) ∙ cond_ge m y.start _ _ l
      ∙ only_from (suc k) y ys m (after j z) w.2 l o ∙ (λ i. after (n i) z)
  only_from k x (y ∷ ys) m (between zero z u) w h o =
      let q : x ≡ z = some_same (some x) x z refl o.0 in
      let q' : y ≡ u = some_same (some y) y u refl o.1 in
      let l : x.end ≤ m = rw q o.2 in
      let l' : m < y.start = rw q' o.3 in
      let n : k ≡ k + 0 = omega arith in
      cond_ge m x.end _ _ l ∙ cond_lt m y.start _ _ l' ∙ (λ i. between (n i) (q i) (q' i))
  only_from k x (y ∷ ys) m (between (suc j) z u) w h o =
      let s = starts_later y ys w.2 j z o.0 in
      let n : suc k + j ≡ k + suc j = omega arith in
      let l : y.start ≤ m = omega (arith, s.0, s.1, o.2) in
      cond_ge m x.end _ _ (omega (arith, w.1.0)) ∙ cond_ge m y.start _ _ l
      ∙ only_from (suc k) y ys m (between j z u) w.2 l o ∙ (λ i. between (n i) z u)

  lift_none : (r : Reason A) → lift 0 r ≡ r
  unfolding lift
  lift_none (in_one j x) = λ i. in_one (zero-add j i) x
  lift_none unknown = refl
  lift_none (before x) = refl
  lift_none (after j x) = λ i. after (zero-add j i) x
  lift_none (between j x y) = λ i. between (zero-add j i) x y

  only_before : (x : Interval A) (xs : List (Interval A)) (m : ℕ) (r : Reason A) → WellFormed (x ∷ xs) → Holds (x ∷ xs) m r → m < x.start
      → before x ≡ r
  only_before x xs m (in_one k z) w o l = let s = starts_later x xs w k z o.0 in absurd (omega (arith, s.0, o.1))
  only_before x xs m unknown w o l =
      absurd (none_some (get_elem? (x ∷ xs) 0) x (ap (λ (q : List (Interval A)). get_elem? q 0) o) refl)
  only_before x xs m (before z) w o l = ap before (some_same (some x) x z refl o.0)
  only_before x xs m (after k z) w o l = let s = starts_later x xs w k z o.0 in absurd (omega (arith, s.0, s.1, o.2))
  only_before x xs m (between k z u) w o l = let s = starts_later x xs w k z o.0 in absurd (omega (arith, s.0, s.1, o.2))

  -- a reason that holds is the one given
  pub reason_only : (g : List (Interval A)) (m : ℕ) (r : Reason A) → WellFormed g → Holds g m r → reason g m ≡ r
  unfolding reason
  reason_only [] m (in_one k x) w o = absurd (none_some none x refl o.0)
  reason_only [] m unknown w o = refl
  reason_only [] m (before x) w o = absurd (none_some none x refl o.0)
  reason_only [] m (after k x) w o = absurd (none_some none x refl o.0)
  reason_only [] m (between k x y) w o = absurd (none_some none x refl o.0)
  reason_only (x ∷ xs) m r w o =
      ltb_case (λ (q : Reason A). q ≡ r) m x.start _ _ (λ l. only_before x xs m r w o l)
      (λ l. only_from 0 x xs m r w l o ∙ lift_none r)

  -- ---- a lookup finds it

  from_hint : (k : ℕ) (x : Interval A) (xs : List (Interval A)) (m h : ℕ) → WellFormed (x ∷ xs) → x.start ≤ m
      → hint_by (reason_from k x xs m) h ≡ k + started xs m
  unfolding reason_from hint_by started
  from_hint k x [] m h w l =
      ltb_case (λ (r : Reason A). hint_by r h ≡ k + 0) m x.end _ _ (λ s. sym (add-zero k)) (λ s. sym (add-zero k))
  from_hint k x (y ∷ ys) m h w l =
      let none_yet : m < y.start → k ≡ k + started (y ∷ ys) m =
      λ s. let z : started (y ∷ ys) m ≡ 0 = cond_lt m y.start 0 (suc (started ys m)) s in omega arith in
      let more : y.start ≤ m → hint_by (reason_from (suc k) y ys m) h ≡ k + started (y ∷ ys) m =
      λ s. let z : started (y ∷ ys) m ≡ suc (started ys m) = cond_ge m y.start 0 (suc (started ys m)) s in
      from_hint (suc k) y ys m h w.2 s ∙ omega arith in
      ltb_case (λ (r : Reason A). hint_by r h ≡ k + started (y ∷ ys) m) m x.end _ _ (λ s. none_yet (omega (arith, w.1.0)))
      (λ s. ltb_case (λ (r : Reason A). hint_by r h ≡ k + started (y ∷ ys) m) m y.start _ _ none_yet more)

  reason_hint : (g : List (Interval A)) (m h : ℕ) → WellFormed g → (arrive g m h (started g m)).hint ≡ hint_by (reason g m) h
  unfolding reason hint_by started arrive
  reason_hint [] m h w = refl
  reason_hint (x ∷ xs) m h w = go (dec_le x.start m)
    where
      go : Dec (x.start ≤ m) → (arrive (x ∷ xs) m h (started (x ∷ xs) m)).hint ≡ hint_by (reason (x ∷ xs) m) h
      go (yes l) =
          ap (λ (c : ℕ). (arrive (x ∷ xs) m h c).hint) (cond_ge m x.start 0 (suc (started xs m)) l)
          ∙ sym (ap (λ (r : Reason A). hint_by r h) (cond_ge m x.start (before x) (reason_from 0 x xs m) l) ∙ from_hint 0 x xs m h w l
          ∙ zero-add (started xs m))
      go (no l) =
          ap (λ (c : ℕ). (arrive (x ∷ xs) m h c).hint) (cond_lt m x.start 0 (suc (started xs m)) (omega arith))
          ∙ sym (ap (λ (r : Reason A). hint_by r h) (cond_lt m x.start (before x) (reason_from 0 x xs m) (omega arith)))

  -- a lookup at any hint finds the reason's value, and its new hint is the reason's number
  pub reason_looked : (xs : List (Row A)) → Ordered xs → (i m h : ℕ) → lookup_rows xs i m h ≡ finding_by (explained_rows xs i m) h
  unfolding explained_rows answer_for
  reason_looked xs w i m h j =
      record {
        said = (lookup_rows_right xs w i m h ∙ sym (reason_said (group i xs) m (((formed_iff xs).0 w).groups i))) j;
        hint = (lookup_rows_hint xs w i m h ∙ reason_hint (group i xs) m h (((formed_iff xs).0 w).groups i)) j;
      }

  -- ---- its intervals are stored

  got_mem : (g : List (Interval A)) (k : ℕ) (x : Interval A) → get_elem? g k ≡ some x → Mem x g
  got_mem [] k x e = absurd (none_some none x refl e)
  got_mem (y ∷ ys) zero x e = inl (sym (some_same (some y) y x refl e))
  got_mem (y ∷ ys) (suc k) x e = inr (got_mem ys k x e)

  names_own : (g : List (Interval A)) (m : ℕ) (r : Reason A) → Holds g m r → (x : Interval A) → Mem x (named_by r) → Mem x g
  unfolding named_by
  names_own g m (in_one k y) o x (inl e) = got_mem g k x (o.0 ∙ ap some (sym e))
  names_own g m (in_one k y) o x (inr n) = absurd n
  names_own g m unknown o x n = absurd n
  names_own g m (before y) o x (inl e) = got_mem g 0 x (o.0 ∙ ap some (sym e))
  names_own g m (before y) o x (inr n) = absurd n
  names_own g m (after k y) o x (inl e) = got_mem g k x (o.0 ∙ ap some (sym e))
  names_own g m (after k y) o x (inr n) = absurd n
  names_own g m (between k y z) o x (inl e) = got_mem g k x (o.0 ∙ ap some (sym e))
  names_own g m (between k y z) o x (inr (inl e)) = got_mem g (suc k) x (o.1 ∙ ap some (sym e))
  names_own g m (between k y z) o x (inr (inr n)) = absurd n

  -- an interval that the reason names is a row of the table
  pub reason_stored : (xs : List (Row A)) (i m : ℕ) (x : Interval A) → Mem x (named_by (explained_rows xs i m)) → Mem (row_of i x) xs
  unfolding explained_rows
  reason_stored xs i m x n = group_mem (row_of i x) xs (names_own (group i xs) m (reason (group i xs) m) (reason_holds (group i xs) m) x n)
