-- Overwriting is a splice: what lies strictly before stays, what lies strictly after stays, and the middle is made of the new
-- interval and the first and the last of those that it overlaps or touches. Assumes nothing.
use Rattle.std.specs.Prelude.{◌≡◌, ◌⊎◌, ℕ, suc, ◌≤◌, ◌<◌, min, max, true, false, not, ◌&&◌, T, eqb}
use Rattle.std.proofs.Math.Path.{refl, ap}
use Rattle.std.proofs.Common.{sym, ◌∙◌, inl, inr, le_refl}
use native.Mathlib.Omega.{arith}
use Rattle.std.proofs.Math.Bool.{Bool, cond}
use mathlib.Core.List.{List, [], ◌∷◌, ◌++◌}
use Rattle.std.proofs.Math.Dec.{ltb, eqb_refl, not_T}
use Rattle.theory.specs.Runs.{Interval, interval, Ahead, WellFormed, All, clipped, up_to, from, meets, glue, join, overwrite, Same}
use Rattle.theory.specs.RunsTools.{cond_yes, cond_no, T_and, T_nor_l, T_nor_r, cond_lt, cond_ge, Low, low_ahead, low_le}
use Rattle.theory.proofs.RunsOverwrite.{up_to_none, up_to_ahead, meets_yes, glue_case, glue_ahead}

-- ---- the pieces, where n overlaps or touches x first and z last

module _ {A : Type 0} (same : A → A → Bool) where
  -- where the new interval starts: with x, where x starts before it and has its value
  unfoldable pub core_start : Interval A → Interval A → ℕ
  core_start n x = cond (ltb x.start n.start && same x.value n.value) x.start n.start

  -- where it ends: with z, where z ends after it and has its value
  unfoldable pub core_end : Interval A → Interval A → ℕ
  core_end n z = cond (ltb n.end z.end && same n.value z.value) z.end n.end

  -- the new interval with what it is joined to
  unfoldable pub core : Interval A → Interval A → Interval A → Interval A
  unfolding core_start core_end
  core n x z = interval (core_start n x) (core_end n z) n.value

  -- what is left of x before n, in front of others
  unfoldable pub left_of : Interval A → Interval A → List (Interval A) → List (Interval A)
  left_of n x ys = cond (ltb x.start n.start && not (same x.value n.value)) (interval x.start n.start x.value ∷ ys) ys

  -- what is left of z after n
  unfoldable pub right_of : Interval A → Interval A → List (Interval A)
  right_of n z = cond (ltb n.end z.end && not (same n.value z.value)) (interval n.end z.end z.value ∷ []) []

module _ {A : Type 0} where
  run_ends : (x : Interval A) (a b : ℕ) → a ≡ x.start → b ≡ x.end → interval a b x.value ≡ x
  run_ends x a b p q = λ i. record { start = p i; end = q i; value = x.value }

  cond_append : (b : Bool) (xs ys zs : List (Interval A)) → cond b (xs ++ zs) (ys ++ zs) ≡ cond b xs ys ++ zs
  cond_append true xs ys zs = refl
  cond_append false xs ys zs = refl

  from_all : (b : ℕ) (xs : List (Interval A)) → WellFormed xs → Low b xs → from b xs ≡ xs
  unfolding from
  from_all b [] w l = refl
  from_all b (x ∷ xs) w l =
      cond_lt b x.end _ _ (omega arith) ∙ ap (λ (y : Interval A). y ∷ xs) (run_ends x (max x.start b) x.end (omega arith) refl)

  from_append : (b : ℕ) (xs ys : List (Interval A)) → WellFormed ys → Low b ys → from b (xs ++ ys) ≡ from b xs ++ ys
  unfolding from
  from_append b [] ys w l = from_all b ys w l
  from_append b (x ∷ xs) ys w l =
      ap (λ (zs : List (Interval A)). cond (ltb b x.end) (interval (max x.start b) x.end x.value ∷ (xs ++ ys)) zs) (from_append b xs ys w l)
      ∙ cond_append (ltb b x.end) (interval (max x.start b) x.end x.value ∷ xs) (from b xs) ys

  up_to_append : (a : ℕ) (xs ys : List (Interval A)) → WellFormed ys → Low a ys → up_to a (xs ++ ys) ≡ up_to a xs
  unfolding up_to clipped
  up_to_append a [] ys w l = up_to_none a a ys w l (le_refl a)
  up_to_append a (x ∷ xs) ys w l = ap (λ (zs : List (Interval A)). clipped a x zs) (up_to_append a xs ys w l)

  pub up_to_first : (a : ℕ) (x : Interval A) (xs : List (Interval A)) → WellFormed (x ∷ xs) → a ≤ x.end → up_to a (x ∷ xs) ≡ up_to a (x ∷ [])
  unfolding up_to clipped
  up_to_first a x xs w h = ap (λ (zs : List (Interval A)). clipped a x zs) (up_to_none a x.end xs w.2 (low_ahead x.end x.value xs w.1) h)

  up_to_keep : (a : ℕ) (x : Interval A) (xs : List (Interval A)) → x.start < x.end → x.end < a → up_to a (x ∷ xs) ≡ x ∷ up_to a xs
  unfolding up_to clipped
  up_to_keep a x xs h k =
      cond_lt x.start a _ _ (omega arith) ∙ ap (λ (y : Interval A). y ∷ up_to a xs) (run_ends x x.start (min x.end a) refl (omega arith))

  pub from_skip : (b : ℕ) (x : Interval A) (xs : List (Interval A)) → x.end ≤ b → from b (x ∷ xs) ≡ from b xs
  unfolding from
  from_skip b x xs h = cond_ge b x.end _ _ h

  -- not empty
  abbrev Filled : List (Interval A) → Type 0
  Filled [] = ⊥
  Filled (x ∷ xs) = Unit {0}

module _ {A : Type 0} (same : A → A → Bool) (laws : Same same) where
  glue_apart : (x : Interval A) (ys : List (Interval A)) → Ahead x.end x.value ys → glue same x ys ≡ x ∷ ys
  unfolding glue
  glue_apart x [] a = refl
  glue_apart x (y ∷ ys) a =
      cond_no (meets same x y) _ _ (not_T (meets same x y) (λ t. a.1 (meets_yes same laws x y t).0 (meets_yes same laws x y t).1))

  join_ahead : (e : ℕ) (v : A) (xs ys : List (Interval A)) → Ahead e v xs → Ahead e v ys → Ahead e v (join same xs ys)
  unfolding join
  join_ahead e v [] ys h k = k
  join_ahead e v (x ∷ xs) ys h k = glue_ahead same laws e v x (join same xs ys) h

  insert_ahead : (e : ℕ) (v : A) (n : Interval A) (xs : List (Interval A)) → WellFormed xs → Ahead e v xs → e < n.start → Ahead e v (overwrite same n xs)
  unfolding overwrite
  insert_ahead e v n xs w h k =
      join_ahead e v (up_to n.start xs) (glue same n (from n.end xs)) (up_to_ahead n.start e v xs w h)
      (glue_ahead same laws e v n (from n.end xs) (omega arith, λ d. absurd (omega arith)))

  -- one that ends before the new one stays where it is
  pub insert_skip : (n x : Interval A) (xs : List (Interval A)) → n.start < n.end → WellFormed (x ∷ xs) → x.end < n.start → overwrite same n (x ∷ xs) ≡ x ∷ overwrite same n xs
  unfolding overwrite join
  insert_skip n x xs h w k =
      (λ i. join same (up_to_keep n.start x xs w.0 k i) (glue same n (from_skip n.end x xs (omega arith) i)))
      ∙ glue_apart x (overwrite same n xs) (insert_ahead x.end x.value n xs w.2 w.1 k)

  glue_append : (x : Interval A) (ys zs : List (Interval A)) → Ahead x.end x.value zs → glue same x (ys ++ zs) ≡ glue same x ys ++ zs
  unfolding glue
  glue_append x [] zs a = glue_apart x zs a
  glue_append x (y ∷ ys) zs a = cond_append (meets same x y) (interval x.start y.end x.value ∷ ys) (x ∷ y ∷ ys) zs

  glue_past : (x : Interval A) (ys zs : List (Interval A)) → Filled ys → glue same x (ys ++ zs) ≡ glue same x ys ++ zs
  unfolding glue
  glue_past x [] zs f = absurd f
  glue_past x (y ∷ ys) zs f = cond_append (meets same x y) (interval x.start y.end x.value ∷ ys) (x ∷ y ∷ ys) zs

  glue_filled : (x : Interval A) (ys : List (Interval A)) → Filled (glue same x ys)
  glue_filled x ys = glue_case same laws (λ (zs : List (Interval A)). Filled zs) x ys tt (λ y zs d p q. tt)

  join_filled : (xs ys : List (Interval A)) → Filled ys → Filled (join same xs ys)
  unfolding join
  join_filled [] ys f = f
  join_filled (x ∷ xs) ys f = glue_filled x (join same xs ys)

  join_append : (xs ys zs : List (Interval A)) → Filled ys → join same xs (ys ++ zs) ≡ join same xs ys ++ zs
  unfolding join
  join_append [] ys zs f = refl
  join_append (x ∷ xs) ys zs f =
      ap (λ (us : List (Interval A)). glue same x us) (join_append xs ys zs f) ∙ glue_past x (join same xs ys) zs (join_filled xs ys f)

  low_far : (e : ℕ) (v : A) (xs : List (Interval A)) → Low (suc e) xs → Ahead e v xs
  low_far e v [] l = tt
  low_far e v (x ∷ xs) l = (omega arith, λ d. absurd (omega arith))

  -- those that start after the new interval stay as they are
  pub insert_append : (n : Interval A) (xs ys : List (Interval A)) → n.start < n.end → WellFormed ys → Low (suc n.end) ys
      → overwrite same n (xs ++ ys) ≡ overwrite same n xs ++ ys
  unfolding overwrite
  insert_append n xs ys h w l =
      (λ i. join same (up_to_append n.start xs ys w (low_le n.start (suc n.end) ys (omega arith) l) i)
      (glue same n (from_append n.end xs ys w (low_le n.end (suc n.end) ys (omega arith) l) i)))
      ∙ ap (λ (us : List (Interval A)). join same (up_to n.start xs) us) (glue_append n (from n.end xs) ys (low_far n.end n.value ys l))
      ∙ join_append (up_to n.start xs) (glue same n (from n.end xs)) ys (glue_filled n (from n.end xs))

  -- the middle: from the new interval, and the first and the last of those that it overlaps or touches
  unfoldable pub middle : Interval A → Interval A → Interval A → List (Interval A)
  middle n x z = join same (up_to n.start (x ∷ [])) (glue same n (from n.end (z ∷ [])))

  -- the middle, piece by piece
  not_not : (b : Bool) → T b → T (not (not b))
  not_not true t = tt
  not_not false t = t

  either : (b : Bool) → T b ⊎ T (not b)
  either true = inl tt
  either false = inr tt

  right_pieces : (n z : Interval A) → z.start ≤ n.end → glue same n (from n.end (z ∷ [])) ≡ interval n.start (core_end same n z) n.value ∷ right_of same n z
  unfolding from glue meets core_end right_of
  right_pieces n z j = go (either (ltb n.end z.end)) (either (same n.value z.value))
    where
      p : Bool
      p = ltb n.end z.end

      q : Bool
      q = same n.value z.value

      r : Interval A
      r = interval n.end z.end z.value

      one : T p → glue same n (from n.end (z ∷ [])) ≡ glue same n (r ∷ [])
      one t =
          let e : max z.start n.end ≡ n.end = omega arith in
          ap (λ (us : List (Interval A)). glue same n us) (cond_yes p (interval (max z.start n.end) z.end z.value ∷ []) [] t)
          ∙ (λ i. glue same n (interval (e i) z.end z.value ∷ []))

      ends : (e : ℕ) (us : List (Interval A)) → core_end same n z ≡ e → right_of same n z ≡ us
          → interval n.start e n.value ∷ us ≡ interval n.start (core_end same n z) n.value ∷ right_of same n z
      ends e us c d = sym (λ i. interval n.start (c i) n.value ∷ d i)

      go : T p ⊎ T (not p) → T q ⊎ T (not q) → glue same n (from n.end (z ∷ [])) ≡ interval n.start (core_end same n z) n.value ∷ right_of same n z
      go (inl t) (inl s) =
          one t ∙ cond_yes (meets same n r) _ _ (T_and (eqb n.end n.end) q (eqb_refl n.end) s)
          ∙ ends z.end [] (cond_yes (p && q) z.end n.end (T_and p q t s)) (cond_no (p && not q) (r ∷ []) [] (T_nor_r p (not q) (not_not q s)))
      go (inl t) (inr s) =
          one t ∙ cond_no (meets same n r) _ _ (T_nor_r (eqb n.end n.end) q s)
          ∙ ends n.end (r ∷ []) (cond_no (p && q) z.end n.end (T_nor_r p q s)) (cond_yes (p && not q) (r ∷ []) [] (T_and p (not q) t s))
      go (inr t) s =
          ap (λ (us : List (Interval A)). glue same n us) (cond_no p (interval (max z.start n.end) z.end z.value ∷ []) [] t)
          ∙ ends n.end [] (cond_no (p && q) z.end n.end (T_nor_l p q t)) (cond_no (p && not q) (r ∷ []) [] (T_nor_l p (not q) t))

  left_pieces : (n x : Interval A) (e : ℕ) (us : List (Interval A)) → n.start ≤ x.end
      → join same (up_to n.start (x ∷ [])) (interval n.start e n.value ∷ us) ≡ left_of same n x (interval (core_start same n x) e n.value ∷ us)
  unfolding up_to clipped join glue meets core_start left_of
  left_pieces n x e us j = go (either (ltb x.start n.start)) (either (same x.value n.value))
    where
      p : Bool
      p = ltb x.start n.start

      q : Bool
      q = same x.value n.value

      c : Interval A
      c = interval n.start e n.value

      l : Interval A
      l = interval x.start n.start x.value

      one : T p → join same (up_to n.start (x ∷ [])) (c ∷ us) ≡ glue same l (c ∷ us)
      one t =
          let d : min x.end n.start ≡ n.start = omega arith in
          ap (λ (vs : List (Interval A)). join same vs (c ∷ us)) (cond_yes p (interval x.start (min x.end n.start) x.value ∷ []) [] t)
          ∙ (λ i. glue same (interval x.start (d i) x.value) (c ∷ us))

      starts : (a : ℕ) → core_start same n x ≡ a → left_of same n x (interval (core_start same n x) e n.value ∷ us) ≡ left_of same n x (interval a e n.value ∷ us)
      starts a d = λ i. left_of same n x (interval (d i) e n.value ∷ us)

      go : T p ⊎ T (not p) → T q ⊎ T (not q)
          → join same (up_to n.start (x ∷ [])) (c ∷ us) ≡ left_of same n x (interval (core_start same n x) e n.value ∷ us)
      go (inl t) (inl s) =
          let d : x.value ≡ n.value = laws.alike x.value n.value s in
          one t ∙ cond_yes (meets same l c) _ _ (T_and (eqb n.start n.start) q (eqb_refl n.start) s)
          ∙ (λ i. interval x.start e (d i) ∷ us)
          ∙ sym (starts x.start (cond_yes (p && q) x.start n.start (T_and p q t s)) ∙ cond_no (p && not q) _ _ (T_nor_r p (not q) (not_not q s)))
      go (inl t) (inr s) =
          one t ∙ cond_no (meets same l c) _ _ (T_nor_r (eqb n.start n.start) q s)
          ∙ sym (starts n.start (cond_no (p && q) x.start n.start (T_nor_r p q s)) ∙ cond_yes (p && not q) _ _ (T_and p (not q) t s))
      go (inr t) s =
          ap (λ (vs : List (Interval A)). join same vs (c ∷ us)) (cond_no p (interval x.start (min x.end n.start) x.value ∷ []) [] t)
          ∙ sym (starts n.start (cond_no (p && q) x.start n.start (T_nor_l p q t)) ∙ cond_no (p && not q) _ _ (T_nor_l p (not q) t))

  pub middle_pieces : (n x z : Interval A) → n.start ≤ x.end → z.start ≤ n.end → middle n x z ≡ left_of same n x (core same n x z ∷ right_of same n z)
  unfolding middle core
  middle_pieces n x z i j =
      ap (λ (us : List (Interval A)). join same (up_to n.start (x ∷ [])) us) (right_pieces n z j)
      ∙ left_pieces n x (core_end same n z) (right_of same n z) i

  -- all of a list
  pub insert_skips : (n : Interval A) (xs ys : List (Interval A)) → n.start < n.end → WellFormed (xs ++ ys) → All (λ x. x.end < n.start) xs
      → overwrite same n (xs ++ ys) ≡ xs ++ overwrite same n ys
  insert_skips n [] ys h w a = refl
  insert_skips n (x ∷ xs) ys h w a =
      insert_skip n x (xs ++ ys) h w a.0 ∙ ap (λ (zs : List (Interval A)). x ∷ zs) (insert_skips n xs ys h w.2 a.1)

  -- the splice
  pub splice : (n : Interval A) (xs ys zs : List (Interval A)) → n.start < n.end → WellFormed (xs ++ (ys ++ zs)) → WellFormed zs
      → All (λ x. x.end < n.start) xs → All (λ z. n.end < z.start) zs
      → overwrite same n (xs ++ (ys ++ zs)) ≡ xs ++ (overwrite same n ys ++ zs)
  splice n xs ys zs h w v a b =
      insert_skips n xs (ys ++ zs) h w a ∙ ap (λ (us : List (Interval A)). xs ++ us) (insert_append n ys zs h v (low zs b))
    where
      low : (us : List (Interval A)) → All (λ z. n.end < z.start) us → Low (suc n.end) us
      low [] c = tt
      low (u ∷ us) c = c.0
