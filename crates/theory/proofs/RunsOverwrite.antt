-- Overwriting a stretch: the new interval decides where it covers the moment, elsewhere the list says what it said
-- (overwrite-answer), and the outcome is well-formed (overwrite-ok). The test for well-formedness is right (formed-iff).
-- Assumes nothing.
use Rattle.std.specs.Prelude.{◌≡◌, ◌≢◌, ◌↔◌, ℕ, ◌≤◌, ◌<◌, min, max, ◌&&◌, T, ltb}
use Rattle.std.proofs.Math.Path.{refl, sym}
use Rattle.std.proofs.Common.{ap, ◌∙◌, lt→ltb, le→leb}
use native.Mathlib.Omega.{arith}
use Rattle.std.proofs.Math.Bool.{Bool, not}
use Rattle.std.proofs.Math.Option.{none, some}
use mathlib.Core.List.{List, [], ◌∷◌, ◌++◌}
use Rattle.std.proofs.Math.Dec.{leb, eqb, eqb_refl, not_T}
use Rattle.std.proofs.Math.Facts.{eqb_yes, ltb_yes, leb_yes}
use Rattle.theory.specs.Runs.{Interval, interval, answer_at, Ahead, WellFormed, clipped, up_to, from, meets, glue, join, overwrite, apart, well_formed, Same}
use Rattle.theory.specs.RunsTools.{cond_case, ltb_case, cond_ge, T_and, T_fst, T_snd, T_nand, head_yes, head_if}
use Rattle.theory.specs.RunsTools.{Place, early, within, late, place, answer_in, answer_early, answer_late, answer_cons, Low, low_ahead, low_le, low_tail, answer_low, none_some}

module _ {A : Type 0} where
  -- ---- before a moment

  up_to_before : (a : ℕ) (xs : List (Interval A)) (m : ℕ) → m < a → answer_at (up_to a xs) m ≡ answer_at xs m
  unfolding up_to clipped
  up_to_before a [] m h = refl
  up_to_before a (x ∷ xs) m h =
      ltb_case (λ (ys : List (Interval A)). answer_at ys m ≡ answer_at (x ∷ xs) m) x.start a _ _
      (λ k. go k (place x.start x.end m) (up_to_before a xs m h)) (λ k. up_to_before a xs m h ∙ sym (answer_early x xs m (omega arith)))
    where
      c : Interval A
      c = interval x.start (min x.end a) x.value

      go : x.start < a → Place x.start x.end m → answer_at (up_to a xs) m ≡ answer_at xs m → answer_at (c ∷ up_to a xs) m ≡ answer_at (x ∷ xs) m
      go k (early i) e = answer_early c (up_to a xs) m i ∙ e ∙ sym (answer_early x xs m i)
      go k (within i j) e = answer_in c (up_to a xs) m i (omega arith) ∙ sym (answer_in x xs m i j)
      go k (late i j) e = answer_late c (up_to a xs) m (omega arith) ∙ e ∙ sym (answer_late x xs m j)

  up_to_after : (a : ℕ) (xs : List (Interval A)) (m : ℕ) → a ≤ m → answer_at (up_to a xs) m ≡ none
  unfolding up_to clipped answer_at
  up_to_after a [] m h = refl
  up_to_after a (x ∷ xs) m h =
      ltb_case (λ (ys : List (Interval A)). answer_at ys m ≡ none) x.start a _ _
      (λ k. answer_late (interval x.start (min x.end a) x.value) (up_to a xs) m (omega arith) ∙ up_to_after a xs m h)
      (λ k. up_to_after a xs m h)

  -- ---- from a moment on

  from_after : (b : ℕ) (xs : List (Interval A)) (m : ℕ) → b ≤ m → answer_at (from b xs) m ≡ answer_at xs m
  unfolding from
  from_after b [] m h = refl
  from_after b (x ∷ xs) m h =
      ltb_case (λ (ys : List (Interval A)). answer_at ys m ≡ answer_at (x ∷ xs) m) b x.end _ _
      (λ k. go k (place x.start x.end m)) (λ k. from_after b xs m h ∙ sym (answer_late x xs m (omega arith)))
    where
      c : Interval A
      c = interval (max x.start b) x.end x.value

      go : b < x.end → Place x.start x.end m → answer_at (c ∷ xs) m ≡ answer_at (x ∷ xs) m
      go k (early i) = answer_early c xs m (omega arith) ∙ sym (answer_early x xs m i)
      go k (within i j) = answer_in c xs m (omega arith) j ∙ sym (answer_in x xs m i j)
      go k (late i j) = answer_late c xs m j ∙ sym (answer_late x xs m j)

  from_low : (b : ℕ) (xs : List (Interval A)) → Low b (from b xs)
  unfolding from
  from_low b [] = tt
  from_low b (x ∷ xs) = ltb_case (λ (ys : List (Interval A)). Low b ys) b x.end _ _ (λ k. omega arith) (λ k. from_low b xs)

  from_ok : (b : ℕ) (xs : List (Interval A)) → WellFormed xs → WellFormed (from b xs)
  unfolding from
  from_ok b [] w = tt
  from_ok b (x ∷ xs) w =
      ltb_case (λ (ys : List (Interval A)). WellFormed ys) b x.end _ _ (λ k. (omega arith, w.1, w.2)) (λ k. from_ok b xs w.2)

  -- ---- the part before a moment is well-formed, and ends there or before

  -- each ends at a or before
  abbrev High : ℕ → List (Interval A) → Type 0
  High a [] = Unit {0}
  High a (x ∷ xs) = (x.end ≤ a) × High a xs

  pub up_to_none : (a b : ℕ) (xs : List (Interval A)) → WellFormed xs → Low b xs → a ≤ b → up_to a xs ≡ []
  unfolding up_to clipped
  up_to_none a b [] w l h = refl
  up_to_none a b (x ∷ xs) w l h =
      cond_ge x.start a _ _ (omega arith) ∙ up_to_none a b xs w.2 (low_tail b x xs w l) h

  pub up_to_ahead : (a e : ℕ) (v : A) (xs : List (Interval A)) → WellFormed xs → Ahead e v xs → Ahead e v (up_to a xs)
  unfolding up_to clipped
  up_to_ahead a e v [] w h = tt
  up_to_ahead a e v (x ∷ xs) w h =
      ltb_case (λ (ys : List (Interval A)). Ahead e v ys) x.start a _ _ (λ k. h)
      (λ k. rw (up_to_none a x.end xs w.2 (low_ahead x.end x.value xs w.1) (omega arith)) tt)

  -- what may stand after an interval may stand after a shorter one that still reaches beyond the starts
  ahead_clip : (a e : ℕ) (v : A) (xs : List (Interval A)) → Ahead e v (up_to a xs) → Ahead (min e a) v (up_to a xs)
  unfolding up_to clipped
  ahead_clip a e v [] h = tt
  ahead_clip a e v (x ∷ xs) h = go (up_to a xs) (ahead_clip a e v xs) h
    where
      go : (ys : List (Interval A)) → (Ahead e v ys → Ahead (min e a) v ys) → Ahead e v (clipped a x ys) → Ahead (min e a) v (clipped a x ys)
      go ys f = ltb_case (λ (zs : List (Interval A)). Ahead e v zs → Ahead (min e a) v zs) x.start a _ _ (λ k h. (omega arith, λ d. h.1 (omega arith))) (λ k. f)

  up_to_ok : (a : ℕ) (xs : List (Interval A)) → WellFormed xs → WellFormed (up_to a xs)
  unfolding up_to clipped
  up_to_ok a [] w = tt
  up_to_ok a (x ∷ xs) w =
      ltb_case (λ (ys : List (Interval A)). WellFormed ys) x.start a _ _
      (λ k. (omega arith, ahead_clip a x.end x.value xs (up_to_ahead a x.end x.value xs w.2 w.1), up_to_ok a xs w.2))
      (λ k. up_to_ok a xs w.2)

  up_to_high : (a : ℕ) (xs : List (Interval A)) → High a (up_to a xs)
  unfolding up_to clipped
  up_to_high a [] = tt
  up_to_high a (x ∷ xs) =
      ltb_case (λ (ys : List (Interval A)). High a ys) x.start a _ _ (λ k. (omega arith, up_to_high a xs)) (λ k. up_to_high a xs)

module _ {A : Type 0} where
  append_none : (xs ys : List (Interval A)) (m : ℕ) → answer_at xs m ≡ none → answer_at (xs ++ ys) m ≡ answer_at ys m
  append_none [] ys m e = refl
  append_none (x ∷ xs) ys m e = go (place x.start x.end m) (append_none xs ys m)
    where
      go : Place x.start x.end m → (answer_at xs m ≡ none → answer_at (xs ++ ys) m ≡ answer_at ys m) → answer_at (x ∷ xs ++ ys) m ≡ answer_at ys m
      go (early i) f = answer_early x (xs ++ ys) m i ∙ f (sym (answer_early x xs m i) ∙ e)
      go (late i j) f = answer_late x (xs ++ ys) m j ∙ f (sym (answer_late x xs m j) ∙ e)
      go (within i j) f = absurd (none_some (answer_at (x ∷ xs) m) x.value e (answer_in x xs m i j))

  append_some : (xs ys : List (Interval A)) (m : ℕ) → answer_at ys m ≡ none → answer_at (xs ++ ys) m ≡ answer_at xs m
  unfolding answer_at
  append_some [] ys m e = e
  append_some (x ∷ xs) ys m e = answer_cons x (xs ++ ys) xs m (append_some xs ys m e)

-- ---- gluing

module _ {A : Type 0} (same : A → A → Bool) (laws : Same same) where
  pub meets_yes : (x y : Interval A) → T (meets same x y) → (x.end ≡ y.start) × (x.value ≡ y.value)
  unfolding meets
  meets_yes x y t =
      let b : Bool = eqb x.end y.start in
      let c : Bool = same x.value y.value in
      (eqb_yes (T_fst b c t), laws.alike _ _ (T_snd b c t))

  pub meets_no : (x y : Interval A) → T (not (meets same x y)) → x.end ≡ y.start → x.value ≢ y.value
  unfolding meets
  meets_no x y t e d =
      T_nand (eqb x.end y.start) (same x.value y.value) t (rw e (eqb_refl y.start)) (rw d (laws.itself y.value))

  pub glue_case : (P : List (Interval A) → Type 0) (x : Interval A) (ys : List (Interval A)) → P (x ∷ ys)
      → ((y : Interval A) (zs : List (Interval A)) → ys ≡ y ∷ zs → x.end ≡ y.start → x.value ≡ y.value → P (interval x.start y.end x.value ∷ zs))
      → P (glue same x ys)
  unfolding glue
  glue_case P x [] p f = p
  glue_case P x (y ∷ ys) p f =
      cond_case P (meets same x y) _ _ (λ t. f y ys refl (meets_yes x y t).0 (meets_yes x y t).1) (λ t. p)

  glue_answer : (x : Interval A) (ys : List (Interval A)) → x.start < x.end → WellFormed ys → (m : ℕ) → answer_at (glue same x ys) m ≡ answer_at (x ∷ ys) m
  glue_answer x ys h w m = glue_case (λ (zs : List (Interval A)). answer_at zs m ≡ answer_at (x ∷ ys) m) x ys refl joined
    where
      joined : (y : Interval A) (zs : List (Interval A)) → ys ≡ y ∷ zs → x.end ≡ y.start → x.value ≡ y.value
          → answer_at (interval x.start y.end x.value ∷ zs) m ≡ answer_at (x ∷ ys) m
      joined y zs e p q = go (place x.start y.end m) (place x.start x.end m)
        where
          v : WellFormed (y ∷ zs)
          v = rw e at w

          c : Interval A
          c = interval x.start y.end x.value

          rest : answer_at (x ∷ ys) m ≡ answer_at (x ∷ y ∷ zs) m
          rest = ap (λ (l : List (Interval A)). answer_at (x ∷ l) m) e

          go : Place x.start y.end m → Place x.start x.end m → answer_at (c ∷ zs) m ≡ answer_at (x ∷ ys) m
          go (early i) k = answer_early c zs m i ∙ sym (answer_early y zs m (omega arith)) ∙ sym (answer_early x (y ∷ zs) m i) ∙ sym rest
          go (late i j) k = answer_late c zs m j ∙ sym (answer_late y zs m j) ∙ sym (answer_late x (y ∷ zs) m (omega (arith, v.0))) ∙ sym rest
          go (within i j) (early k) = absurd (omega arith)
          go (within i j) (within k l) = answer_in c zs m i j ∙ sym (answer_in x (y ∷ zs) m k l) ∙ sym rest
          go (within i j) (late k l) =
              answer_in c zs m i j ∙ ap some q ∙ sym (answer_in y zs m (omega arith) j) ∙ sym (answer_late x (y ∷ zs) m l) ∙ sym rest

  pub glue_ahead : (e : ℕ) (v : A) (x : Interval A) (ys : List (Interval A)) → Ahead e v (x ∷ []) → Ahead e v (glue same x ys)
  glue_ahead e v x ys h = glue_case (λ (zs : List (Interval A)). Ahead e v zs) x ys h (λ y zs d p q. h)

  glue_ok : (x : Interval A) (ys : List (Interval A)) → x.start < x.end → Low x.end ys → WellFormed ys → WellFormed (glue same x ys)
  unfolding glue
  glue_ok x [] h l w = (h, tt, tt)
  glue_ok x (y ∷ ys) h l w =
      cond_case (λ (zs : List (Interval A)). WellFormed zs) (meets same x y) _ _ (λ t. joined (meets_yes x y t)) (λ t. (h, (l, meets_no x y t), w))
    where
      joined : (x.end ≡ y.start) × (x.value ≡ y.value) → WellFormed (interval x.start y.end x.value ∷ ys)
      joined e = (omega arith, rw e.1 w.1, w.2)

  pub glue_low : (b : ℕ) (x : Interval A) (ys : List (Interval A)) → b ≤ x.start → Low b (glue same x ys)
  glue_low b x ys h = glue_case (λ (zs : List (Interval A)). Low b zs) x ys h (λ y zs d p q. h)

  join_low : (b : ℕ) (xs ys : List (Interval A)) → Low b xs → Low b ys → Low b (join same xs ys)
  unfolding join
  join_low b [] ys l k = k
  join_low b (x ∷ xs) ys l k = glue_low b x (join same xs ys) l

  join_ok : (a : ℕ) (xs ys : List (Interval A)) → WellFormed xs → High a xs → Low a ys → WellFormed ys → WellFormed (join same xs ys)
  unfolding join
  join_ok a [] ys w h l v = v
  join_ok a (x ∷ xs) ys w h l v =
      glue_ok x (join same xs ys) w.0
      (join_low x.end xs ys (low_ahead x.end x.value xs w.1) (low_le x.end a ys h.0 l))
      (join_ok a xs ys w.2 h.1 l v)

  join_answer : (a : ℕ) (xs ys : List (Interval A)) → WellFormed xs → High a xs → Low a ys → WellFormed ys
      → (m : ℕ) → answer_at (join same xs ys) m ≡ answer_at (xs ++ ys) m
  unfolding join
  join_answer a [] ys w h l v m = refl
  join_answer a (x ∷ xs) ys w h l v m =
      glue_answer x (join same xs ys) w.0 (join_ok a xs ys w.2 h.1 l v) m
      ∙ answer_cons x (join same xs ys) (xs ++ ys) m (join_answer a xs ys w.2 h.1 l v m)

  -- ---- the test for well-formedness is right

  apart_yes : (x : Interval A) (xs : List (Interval A)) → T (apart same x xs) → Ahead x.end x.value xs
  unfolding apart
  apart_yes x [] t = tt
  apart_yes x (y ∷ ys) t =
      let b : Bool = leb x.end y.start in
      let c : Bool = not (meets same x y) in
      (leb_yes (T_fst b c t), meets_no x y (T_snd b c t))

  apart_if : (x : Interval A) (xs : List (Interval A)) → Ahead x.end x.value xs → T (apart same x xs)
  unfolding apart
  apart_if x [] a = tt
  apart_if x (y ∷ ys) a =
      T_and (leb x.end y.start) (not (meets same x y)) (le→leb _ _ a.0)
      (not_T (meets same x y) (λ t. a.1 (meets_yes x y t).0 (meets_yes x y t).1))

  pub apart_iff : (x : Interval A) (xs : List (Interval A)) → T (apart same x xs) ↔ Ahead x.end x.value xs
  apart_iff x xs = (apart_yes x xs, apart_if x xs)

  formed_yes : (xs : List (Interval A)) → T (well_formed same xs) → WellFormed xs
  unfolding well_formed
  formed_yes [] t = tt
  formed_yes (x ∷ xs) t = head_yes x.start x.end (apart same x xs) (well_formed same xs) (apart_yes x xs) (formed_yes xs) t

  formed_if : (xs : List (Interval A)) → WellFormed xs → T (well_formed same xs)
  unfolding well_formed
  formed_if [] w = tt
  formed_if (x ∷ xs) w = head_if x.start x.end (apart same x xs) (well_formed same xs) (apart_if x xs) (formed_if xs) w

  pub formed_iff : (xs : List (Interval A)) → T (well_formed same xs) ↔ WellFormed xs
  formed_iff xs = (formed_yes xs, formed_if xs)

  -- ---- overwriting

  pub overwrite_ok : (n : Interval A) (xs : List (Interval A)) → n.start < n.end → WellFormed xs → WellFormed (overwrite same n xs)
  unfolding overwrite
  overwrite_ok n xs h w =
      join_ok n.start (up_to n.start xs) (glue same n (from n.end xs)) (up_to_ok n.start xs w) (up_to_high n.start xs)
      (glue_low n.start n (from n.end xs) (omega arith))
      (glue_ok n (from n.end xs) h (from_low n.end xs) (from_ok n.end xs w))

  -- the new interval decides where it covers the moment, and elsewhere the list says what it said
  module _ (n : Interval A) (xs : List (Interval A)) (h : n.start < n.end) (w : WellFormed xs) where
    parts : (m : ℕ) → answer_at (overwrite same n xs) m ≡ answer_at (up_to n.start xs ++ glue same n (from n.end xs)) m
    unfolding overwrite
    parts m =
        join_answer n.start (up_to n.start xs) (glue same n (from n.end xs)) (up_to_ok n.start xs w) (up_to_high n.start xs)
        (glue_low n.start n (from n.end xs) (omega arith))
        (glue_ok n (from n.end xs) h (from_low n.end xs) (from_ok n.end xs w)) m

    glued : (m : ℕ) → answer_at (glue same n (from n.end xs)) m ≡ answer_at (n ∷ from n.end xs) m
    glued m = glue_answer n (from n.end xs) h (from_ok n.end xs w) m

    pub overwrite_within : (m : ℕ) → n.start ≤ m → m < n.end → answer_at (overwrite same n xs) m ≡ some n.value
    overwrite_within m i j =
        parts m ∙ append_none (up_to n.start xs) _ m (up_to_after n.start xs m i) ∙ glued m ∙ answer_in n (from n.end xs) m i j

    pub overwrite_early : (m : ℕ) → m < n.start → answer_at (overwrite same n xs) m ≡ answer_at xs m
    overwrite_early m i =
        parts m
        ∙ append_some (up_to n.start xs) _ m
        (glued m ∙ answer_early n (from n.end xs) m i ∙ answer_low n.end (from n.end xs) (from_ok n.end xs w) (from_low n.end xs) m (omega arith))
        ∙ up_to_before n.start xs m i

    pub overwrite_late : (m : ℕ) → n.end ≤ m → answer_at (overwrite same n xs) m ≡ answer_at xs m
    overwrite_late m i =
        parts m ∙ append_none (up_to n.start xs) _ m (up_to_after n.start xs m (omega arith))
        ∙ glued m ∙ answer_late n (from n.end xs) m i ∙ from_after n.end xs m i

    -- the same in one equation
    pub overwrite_answer : (m : ℕ) → answer_at (overwrite same n xs) m ≡ answer_at (n ∷ xs) m
    overwrite_answer m = go (place n.start n.end m)
      where
        go : Place n.start n.end m → answer_at (overwrite same n xs) m ≡ answer_at (n ∷ xs) m
        go (early i) = overwrite_early m i ∙ sym (answer_early n xs m i)
        go (within i j) = overwrite_within m i j ∙ sym (answer_in n xs m i j)
        go (late i j) = overwrite_late m j ∙ sym (answer_late n xs m j)
