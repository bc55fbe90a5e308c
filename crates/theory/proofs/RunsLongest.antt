-- The intervals of a well-formed list are exactly the longest runs of its answers (longest), only one list of rising starts
-- has exactly them (only-list), two well-formed lists with the same answers are equal (unique), and overwriting leaves alone
-- what ends before the new start or starts after the new end (kept-before, kept-after). Assumes nothing.
use Rattle.std.specs.Prelude.{◌≡◌, ◌≢◌, ◌↔◌, Bool}
use Rattle.std.proofs.Math.Path.{refl}
use Rattle.std.proofs.Common.{sym, ap, ◌∙◌, inl, inr, le_refl, arith}
use Prim.Native.Nat.{ℕ, suc, ◌-◌, ◌≤◌, ◌<◌}
use Rattle.std.proofs.Math.Decide.{dec_le}
use Rattle.std.proofs.Math.Option.{Option, none, some}
use mathlib.Core.List.{List, [], ◌∷◌}
use Rattle.theory.specs.Runs.{Interval, answer_at, Ahead, WellFormed, overwrite, Same, Mem, All, IsRun}
use Rattle.theory.specs.RunsTools.{Place, early, within, late, place, Order, less, equal, more, order, none_some, some_same}
use Rattle.theory.specs.RunsTools.{answer_in, answer_early, answer_late, Low, low_ahead, low_tail, answer_tail}
use Rattle.theory.proofs.RunsOverwrite.{overwrite_ok, overwrite_early, overwrite_late}

module _ {A : Type 0} where
  pub run_path : (x y : Interval A) → x.start ≡ y.start → x.end ≡ y.end → x.value ≡ y.value → x ≡ y
  run_path x y p q r = λ i. record { start = p i; end = q i; value = r i }

  -- a member starts at the bound or later
  pub mem_low : (b : ℕ) (xs : List (Interval A)) → WellFormed xs → Low b xs → (y : Interval A) → Mem y xs → b ≤ y.start
  mem_low b [] w l y h = absurd h
  mem_low b (x ∷ xs) w l y (inl e) = let d : y.start ≡ x.start = ap (λ (r : Interval A). r.start) e in omega arith
  mem_low b (x ∷ xs) w l y (inr h) = mem_low b xs w.2 (low_tail b x xs w l) y h

  pub mem_tail : (x : Interval A) (xs : List (Interval A)) → WellFormed (x ∷ xs) → (y : Interval A) → Mem y xs → x.end ≤ y.start
  mem_tail x xs w y h = mem_low x.end xs w.2 (low_ahead x.end x.value xs w.1) y h

  -- one that starts right at the end of the first has another value
  mem_touch : (e : ℕ) (v : A) (xs : List (Interval A)) → WellFormed xs → Ahead e v xs → (y : Interval A) → Mem y xs → e ≡ y.start → v ≢ y.value
  mem_touch e v [] w a y h p = absurd h
  mem_touch e v (x ∷ xs) w a y (inl d) p =
      let i : y.start ≡ x.start = ap (λ (r : Interval A). r.start) d in
      λ q. a.1 (omega arith) (q ∙ ap (λ (r : Interval A). r.value) d)
  mem_touch e v (x ∷ xs) w a y (inr h) p = let i : x.end ≤ y.start = mem_tail x xs w y h in absurd (omega arith)

  -- after the first interval there is another value, or none
  ahead_other : (e : ℕ) (v : A) (xs : List (Interval A)) → WellFormed xs → Ahead e v xs → answer_at xs e ≢ some v
  unfolding answer_at
  ahead_other e v [] w a p = none_some none v refl p
  ahead_other e v (x ∷ xs) w a p = go (order e x.start)
    where
      go : Order e x.start → ⊥
      go (less i) = none_some (answer_at (x ∷ xs) e) v (answer_early x xs e i ∙ answer_tail x xs w e (omega (arith, w.0))) p
      go (equal i) = a.1 i (some_same (answer_at (x ∷ xs) e) v x.value p (answer_in x xs e (omega arith) (omega (arith, w.0))))
      go (more i) = absurd (omega (arith, a.0))

  head_run : (x : Interval A) (xs : List (Interval A)) → WellFormed (x ∷ xs) → IsRun (answer_at (x ∷ xs)) x
  head_run x xs w = record {
    some_time = w.0;
    constant = λ m h k. answer_in x xs m h k;
    not_sooner = λ m e. none_some (answer_at (x ∷ xs) m) x.value (answer_early x xs m (omega arith) ∙ answer_tail x xs w m (omega arith));
    not_longer = λ e. ahead_other x.end x.value xs w.2 w.1 (sym (answer_late x xs x.end (le_refl x.end)) ∙ e);
  }

  -- a run of the tail's answers that starts past the first interval is a run of the whole
  tail_run : (x : Interval A) (xs : List (Interval A)) → WellFormed (x ∷ xs) → (y : Interval A) → Mem y xs → IsRun (answer_at xs) y → IsRun (answer_at (x ∷ xs)) y
  tail_run x xs w y h r = record {
    some_time = r.some_time;
    constant = λ m i j. answer_late x xs m (omega (arith, l)) ∙ r.constant m i j;
    not_sooner = λ m e d. sooner m e (place x.start x.end m) d;
    not_longer = λ e. r.not_longer (sym (answer_late x xs y.end (omega (arith, l, r.some_time))) ∙ e);
  }
    where
      l : x.end ≤ y.start
      l = mem_tail x xs w y h

      sooner : (m : ℕ) → suc m ≡ y.start → Place x.start x.end m → answer_at (x ∷ xs) m ≡ some y.value → ⊥
      sooner m e (early i) d = absurd (omega (arith, l, w.0))
      sooner m e (within i j) d =
          mem_touch x.end x.value xs w.2 w.1 y h (omega (arith, l)) (some_same (answer_at (x ∷ xs) m) x.value y.value (answer_in x xs m i j) d)
      sooner m e (late i j) d = r.not_sooner m e (sym (answer_late x xs m j) ∙ d)

  pub mem_run : (xs : List (Interval A)) → WellFormed xs → (y : Interval A) → Mem y xs → IsRun (answer_at xs) y
  mem_run [] w y h = absurd h
  mem_run (x ∷ xs) w y (inl e) = rw e (head_run x xs w)
  mem_run (x ∷ xs) w y (inr h) = tail_run x xs w y h (mem_run xs w.2 y h)

  run_mem : (xs : List (Interval A)) → WellFormed xs → (y : Interval A) → IsRun (answer_at xs) y → Mem y xs
  unfolding answer_at
  run_mem [] w y r = none_some none y.value refl (r.constant y.start (le_refl y.start) r.some_time)
  run_mem (x ∷ xs) w y r = go (place x.start x.end y.start) (run_mem xs w.2 y)
    where
      f : ℕ → Option A
      f m = answer_at (x ∷ xs) m

      here : f y.start ≡ some y.value
      here = r.constant y.start (le_refl y.start) r.some_time

      start_same : x.value ≡ y.value → x.start ≤ y.start → y.start < x.end → Order x.start y.start → y.start ≡ x.start
      start_same q h k (less i) =
          absurd (r.not_sooner (y.start - 1) (omega arith) (answer_in x xs (y.start - 1) (omega arith) (omega arith) ∙ ap some q))
      start_same q h k (equal i) = sym i
      start_same q h k (more i) = absurd (omega arith)

      end_same : x.value ≡ y.value → x.start ≤ y.start → y.start < x.end → Order x.end y.end → y.end ≡ x.end
      end_same q h k (less i) = absurd ((head_run x xs w).not_longer (r.constant x.end (omega arith) (omega arith) ∙ ap some (sym q)))
      end_same q h k (equal i) = sym i
      end_same q h k (more i) = absurd (r.not_longer (answer_in x xs y.end (omega (arith, r.some_time)) (omega arith) ∙ ap some q))

      go : Place x.start x.end y.start → (IsRun (answer_at xs) y → Mem y xs) → Mem y (x ∷ xs)
      go (early i) g =
          absurd (none_some (f y.start) y.value (answer_early x xs y.start i ∙ answer_tail x xs w y.start (omega (arith, w.0))) here)
      go (within i j) g =
          let q : x.value ≡ y.value = some_same (f y.start) x.value y.value (answer_in x xs y.start i j) here in
          inl (run_path y x (start_same q i j (order x.start y.start)) (end_same q i j (order x.end y.end)) (sym q))
      go (late i j) g = inr (g (record {
        some_time = r.some_time;
        constant = λ m a b. sym (answer_late x xs m (omega arith)) ∙ r.constant m a b;
        not_sooner = λ m e d. r.not_sooner m e (sooner m (place x.start x.end m) d);
        not_longer = λ d. r.not_longer (answer_late x xs y.end (omega (arith, r.some_time)) ∙ d);
      }))
        where
          sooner : (m : ℕ) → Place x.start x.end m → answer_at xs m ≡ some y.value → answer_at (x ∷ xs) m ≡ some y.value
          sooner m (early a) d = answer_early x xs m a ∙ d
          sooner m (within a b) d = absurd (none_some (answer_at xs m) y.value (answer_tail x xs w m b) d)
          sooner m (late a b) d = answer_late x xs m b ∙ d

  pub longest : (xs : List (Interval A)) → WellFormed xs → (y : Interval A) → Mem y xs ↔ IsRun (answer_at xs) y
  longest xs w y = (mem_run xs w y, run_mem xs w y)

  -- ---- the answers determine the list

  pub same_run : (f g : ℕ → Option A) → ((m : ℕ) → f m ≡ g m) → (x : Interval A) → IsRun f x → IsRun g x
  same_run f g e x r = record {
    some_time = r.some_time;
    constant = λ m h k. sym (e m) ∙ r.constant m h k;
    not_sooner = λ m h d. r.not_sooner m h (e m ∙ d);
    not_longer = λ d. r.not_longer (e x.end ∙ d);
  }

  same_head : (x y : Interval A) (xs ys : List (Interval A)) → WellFormed (x ∷ xs) → WellFormed (y ∷ ys) → Mem x (y ∷ ys) → Mem y (x ∷ xs) → x ≡ y
  same_head x y xs ys w v (inl e) k = e
  same_head x y xs ys w v (inr h) (inl e) = sym e
  same_head x y xs ys w v (inr h) (inr k) = absurd (omega (arith, mem_tail x xs w y k, mem_tail y ys v x h, w.0, v.0))

  same_tail : (x y : Interval A) (xs ys : List (Interval A)) → WellFormed (x ∷ xs) → WellFormed (y ∷ ys) → x ≡ y
      → ((m : ℕ) → answer_at (x ∷ xs) m ≡ answer_at (y ∷ ys) m) → (m : ℕ) → answer_at xs m ≡ answer_at ys m
  same_tail x y xs ys w v e f m = go (dec_le x.end m)
    where
      d : x.end ≡ y.end
      d = ap (λ (r : Interval A). r.end) e

      go : Dec (x.end ≤ m) → answer_at xs m ≡ answer_at ys m
      go (yes h) = sym (answer_late x xs m h) ∙ f m ∙ answer_late y ys m (omega (arith, d))
      go (no h) = answer_tail x xs w m (omega arith) ∙ sym (answer_tail y ys v m (omega (arith, d)))

  pub unique : (xs ys : List (Interval A)) → WellFormed xs → WellFormed ys → ((m : ℕ) → answer_at xs m ≡ answer_at ys m) → xs ≡ ys
  unique [] [] w v f = refl
  unique [] (y ∷ ys) w v f = absurd (run_mem [] tt y (same_run (answer_at (y ∷ ys)) (answer_at []) (λ m. sym (f m)) y (head_run y ys v)))
  unique (x ∷ xs) [] w v f = absurd (run_mem [] tt x (same_run (answer_at (x ∷ xs)) (answer_at []) f x (head_run x xs w)))
  unique (x ∷ xs) (y ∷ ys) w v f =
      let e : x ≡ y = same_head x y xs ys w v
      (run_mem (y ∷ ys) v x (same_run (answer_at (x ∷ xs)) (answer_at (y ∷ ys)) f x (head_run x xs w)))
      (run_mem (x ∷ xs) w y (same_run (answer_at (y ∷ ys)) (answer_at (x ∷ xs)) (λ m. sym (f m)) y (head_run y ys v))) in
      let d : xs ≡ ys = unique xs ys w.2 v.2 (same_tail x y xs ys w v e f) in
      λ i. e i ∷ d i

  -- ---- only one list has exactly the longest runs, in the order of their starts

  -- each starts after those before it
  abbrev pub Rising : List (Interval A) → Type 0
  Rising [] = Unit {0}
  Rising (x ∷ xs) = All (λ y. x.start < y.start) xs × Rising xs

  all_mem : (P : Interval A → Type 0) (xs : List (Interval A)) → All P xs → (y : Interval A) → Mem y xs → P y
  all_mem P [] a y h = absurd h
  all_mem P (x ∷ xs) a y (inl e) = rw e a.0
  all_mem P (x ∷ xs) a y (inr h) = all_mem P xs a.1 y h

  mem_all : (P : Interval A → Type 0) (xs : List (Interval A)) → ((y : Interval A) → Mem y xs → P y) → All P xs
  mem_all P [] f = tt
  mem_all P (x ∷ xs) f = (f x (inl refl), mem_all P xs (λ y h. f y (inr h)))

  pub formed_rising : (xs : List (Interval A)) → WellFormed xs → Rising xs
  formed_rising [] w = tt
  formed_rising (x ∷ xs) w =
      (mem_all (λ y. x.start < y.start) xs (λ y h. omega (arith, mem_tail x xs w y h, w.0)), formed_rising xs w.2)

  rising_same : (xs ys : List (Interval A)) → Rising xs → Rising ys → ((y : Interval A) → Mem y xs ↔ Mem y ys) → xs ≡ ys
  rising_same [] [] r s f = refl
  rising_same [] (y ∷ ys) r s f = absurd ((f y).1 (inl refl))
  rising_same (x ∷ xs) [] r s f = absurd ((f x).0 (inl refl))
  rising_same (x ∷ xs) (y ∷ ys) r s f =
      let e : x ≡ y = head ((f x).0 (inl refl)) ((f y).1 (inl refl)) in
      let d : xs ≡ ys = rising_same xs ys r.1 s.1 (λ z. (λ h. there z e h ((f z).0 (inr h)), λ h. back z e h ((f z).1 (inr h)))) in
      λ i. e i ∷ d i
    where
      past_x : (z : Interval A) → Mem z xs → x.start < z.start
      past_x z h = all_mem (λ y. x.start < y.start) xs r.0 z h

      past_y : (z : Interval A) → Mem z ys → y.start < z.start
      past_y z h = all_mem (λ x. y.start < x.start) ys s.0 z h

      head : Mem x (y ∷ ys) → Mem y (x ∷ xs) → x ≡ y
      head (inl e) k = e
      head (inr h) (inl e) = sym e
      head (inr h) (inr k) = absurd (omega (arith, past_x y k, past_y x h))

      there : (z : Interval A) → x ≡ y → Mem z xs → Mem z (y ∷ ys) → Mem z ys
      there z e h (inl d) = let c : z.start ≡ x.start = ap (λ (u : Interval A). u.start) (d ∙ sym e) in absurd (omega (arith, past_x z h))
      there z e h (inr k) = k

      back : (z : Interval A) → x ≡ y → Mem z ys → Mem z (x ∷ xs) → Mem z xs
      back z e h (inl d) = let c : z.start ≡ y.start = ap (λ (u : Interval A). u.start) (d ∙ e) in absurd (omega (arith, past_y z h))
      back z e h (inr k) = k

  pub only_list : (f : ℕ → Option A) (xs ys : List (Interval A)) → WellFormed xs → ((m : ℕ) → answer_at xs m ≡ f m)
      → Rising ys → ((y : Interval A) → Mem y ys ↔ IsRun f y) → ys ≡ xs
  only_list f xs ys w e r g =
      rising_same ys xs r (formed_rising xs w)
      (λ y. (
        λ h. run_mem xs w y (same_run f (answer_at xs) (λ m. sym (e m)) y ((g y).0 h)),
        λ h. (g y).1 (same_run (answer_at xs) f e y (mem_run xs w y h)),
      ))

  -- ---- a run is a matter of its moments, the one before and the one after

  near_run : (f g : ℕ → Option A) (x : Interval A) → ((m : ℕ) → x.start ≤ suc m → m ≤ x.end → f m ≡ g m) → IsRun f x → IsRun g x
  near_run f g x e r = record {
    some_time = r.some_time;
    constant = λ m h k. sym (e m (omega arith) (omega arith)) ∙ r.constant m h k;
    not_sooner = λ m h d. r.not_sooner m h (e m (omega arith) (omega (arith, r.some_time)) ∙ d);
    not_longer = λ d. r.not_longer (e x.end (omega (arith, r.some_time)) (le_refl x.end) ∙ d);
  }

module _ {A : Type 0} (same : A → A → Bool) (laws : Same same) (n : Interval A) (xs : List (Interval A)) (h : n.start < n.end) (w : WellFormed xs) where
  near : (x : Interval A) → ((m : ℕ) → x.start ≤ suc m → m ≤ x.end → answer_at (overwrite same n xs) m ≡ answer_at xs m) → Mem x xs ↔ Mem x (overwrite same n xs)
  near x e =
      let ys : List (Interval A) = overwrite same n xs in
      let v : WellFormed ys = overwrite_ok same laws n xs h w in (
        λ k. run_mem ys v x (near_run (answer_at xs) (answer_at ys) x (λ m i j. sym (e m i j)) (mem_run xs w x k)),
        λ k. run_mem xs w x (near_run (answer_at ys) (answer_at xs) x e (mem_run ys v x k)),
      )

  pub kept_before : (x : Interval A) → x.end < n.start → Mem x xs ↔ Mem x (overwrite same n xs)
  kept_before x k = near x (λ m i j. overwrite_early same laws n xs h w m (omega arith))

  pub kept_after : (x : Interval A) → n.end < x.start → Mem x xs ↔ Mem x (overwrite same n xs)
  kept_after x k = near x (λ m i j. overwrite_late same laws n xs h w m (omega arith))
