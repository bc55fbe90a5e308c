-- The steps of a comparison. Its device is `Before`: within a stretch p the two tables say p's values, elsewhere what two other
-- tables say, which say nothing before p's end and not both of p's values at it. Then p is reported in front of what is
-- reported of the others, or passed over where its values are the same. Assumes nothing.
use Rattle.std.specs.Prelude.{◌≡◌, ℕ, ◌≤◌, ◌<◌, Bool, true, false, cond, List, [], ◌∷◌}
use Rattle.std.proofs.Math.Path.{refl, sym, ap}
use Rattle.std.proofs.Common.{◌∙◌, arith}
use Rattle.std.proofs.Math.Decide.{ℕ_discrete, dec_le}
use Rattle.std.proofs.Math.Option.{Option, none, some}
use Rattle.theory.specs.RunsTools.{Place, early, within, late, place, none_some, some_same}
use Rattle.map_rules.specs.Table.{Row, answer_for, Ordered}
use Rattle.map_rules.specs.Fronts.{Sooner, row_in, row_out, quiet_rest, quiet, changes, front_ok}
use Rattle.map_compare_rules.specs.Compare.{Difference, Stretches, stretch, left_only, right_only, since, differ, Right}

module _ {A : Type 0} (same : A → A → Bool) where
  cond_some : {X : Type 0} (b : Bool) (u v : X) → cond b none (some u) ≡ some v → u ≡ v
  cond_some true u v e = absurd (none_some none v refl e)
  cond_some false u v e = some_same (some u) u v refl e

  pub differ_is : (l r : Option A) (d : Difference A) → differ same l r ≡ some d → (l ≡ d.left) × (r ≡ d.right)
  unfolding differ
  differ_is none none d e = absurd (none_some none d refl e)
  differ_is none (some v) d e = let q : record { left = none; right = some v } ≡ d = some_same _ _ d refl e in (ap (λ (x : Difference A). x.left) q, ap (λ (x : Difference A). x.right) q)
  differ_is (some u) none d e = let q : record { left = some u; right = none } ≡ d = some_same _ _ d refl e in (ap (λ (x : Difference A). x.left) q, ap (λ (x : Difference A). x.right) q)
  differ_is (some u) (some v) d e =
      let q : record { left = some u; right = some v } ≡ d = cond_some (same u v) _ d e in (ap (λ (x : Difference A). x.left) q, ap (λ (x : Difference A). x.right) q)

  -- a stretch p in front: the two tables say its values within it, and from its end on what the others say, and not its values at its end
  pub record Before (ls rs ls' rs' : List (Row A)) (p : Row (Difference A)) : Type 0 where
    pub some_time : p.start < p.end
    pub left_in : (m : ℕ) → p.start ≤ m → m < p.end → answer_for ls p.instrument m ≡ p.value.left
    pub right_in : (m : ℕ) → p.start ≤ m → m < p.end → answer_for rs p.instrument m ≡ p.value.right
    pub left_out : (i m : ℕ) → (p.instrument ≡ i → p.start ≤ m → m < p.end → ⊥) → answer_for ls i m ≡ answer_for ls' i m
    pub right_out : (i m : ℕ) → (p.instrument ≡ i → p.start ≤ m → m < p.end → ⊥) → answer_for rs i m ≡ answer_for rs' i m
    pub left_quiet : (j m : ℕ) → Sooner j m p.instrument p.end → answer_for ls' j m ≡ none
    pub right_quiet : (j m : ℕ) → Sooner j m p.instrument p.end → answer_for rs' j m ≡ none
    pub changed : answer_for ls' p.instrument p.end ≡ p.value.left → answer_for rs' p.instrument p.end ≡ p.value.right → ⊥

  -- whether a stretch covers a moment of an instrument
  pub covered : (p : Row (Difference A)) (i m : ℕ) → Dec ((p.instrument ≡ i) × (p.start ≤ m) × (m < p.end))
  covered p i m = go (ℕ_discrete p.instrument i) (place p.start p.end m)
    where
      go : Dec (p.instrument ≡ i) → Place p.start p.end m → Dec ((p.instrument ≡ i) × (p.start ≤ m) × (m < p.end))
      go (no d) k = no (λ h. d h.0)
      go (yes e) (early h) = no (λ k. omega (arith, k.1))
      go (yes e) (within h k) = yes (e, h, k)
      go (yes e) (late h k) = no (λ l. omega (arith, l.2))

  -- such a stretch is reported, where its values differ
  pub reported : (ls rs ls' rs' : List (Row A)) (p : Row (Difference A)) (ds : Stretches A) → Before ls rs ls' rs' p
      → differ same p.value.left p.value.right ≡ some p.value → Right same ls' rs' ds → Right same ls rs (p ∷ ds)
  unfolding differ
  reported ls rs ls' rs' p ds b d r =
      record {
        in_order = front_ok p ds b.some_time r.in_order
            (λ j m s. r.answers j m ∙ (λ q. differ same (b.left_quiet j m s q) (b.right_quiet j m s q)))
            (λ e. let q = differ_is (answer_for ls' p.instrument p.end) (answer_for rs' p.instrument p.end) p.value (sym (r.answers p.instrument p.end) ∙ e) in
            b.changed q.0 q.1);
        answers = λ i m. go i m (covered p i m);
      }
    where
      go : (i m : ℕ) → Dec ((p.instrument ≡ i) × (p.start ≤ m) × (m < p.end)) → answer_for (p ∷ ds) i m ≡ differ same (answer_for ls i m) (answer_for rs i m)
      go i m (yes c) =
          row_in p ds i m c.0 c.1 c.2 ∙ sym d
          ∙ sym (λ q. differ same ((ap (λ (k : ℕ). answer_for ls k m) (sym c.0) ∙ b.left_in m c.1 c.2) q) ((ap (λ (k : ℕ). answer_for rs k m) (sym c.0) ∙ b.right_in m c.1 c.2) q))
      go i m (no c) =
          row_out p ds i m (λ e h k. c (e, h, k)) ∙ r.answers i m
          ∙ sym (λ q. differ same (b.left_out i m (λ e h k. c (e, h, k)) q) (b.right_out i m (λ e h k. c (e, h, k)) q))

  -- and passed over, where they are the same
  pub passed : (ls rs ls' rs' : List (Row A)) (p : Row (Difference A)) (ds : Stretches A) → Before ls rs ls' rs' p
      → differ same p.value.left p.value.right ≡ none → Right same ls' rs' ds → Right same ls rs ds
  unfolding differ
  passed ls rs ls' rs' p ds b d r = record { in_order = r.in_order; answers = λ i m. go i m (covered p i m) }
    where
      go : (i m : ℕ) → Dec ((p.instrument ≡ i) × (p.start ≤ m) × (m < p.end)) → answer_for ds i m ≡ differ same (answer_for ls i m) (answer_for rs i m)
      go i m (yes c) =
          let s : Sooner i m p.instrument p.end = record { upto = omega (arith, c.0); early = λ h. c.2 } in
          r.answers i m ∙ (λ q. differ same (b.left_quiet i m s q) (b.right_quiet i m s q)) ∙ sym d
          ∙ sym (λ q. differ same ((ap (λ (k : ℕ). answer_for ls k m) (sym c.0) ∙ b.left_in m c.1 c.2) q) ((ap (λ (k : ℕ). answer_for rs k m) (sym c.0) ∙ b.right_in m c.1 c.2) q))
      go i m (no c) =
          r.answers i m ∙ sym (λ q. differ same (b.left_out i m (λ e h k. c (e, h, k)) q) (b.right_out i m (λ e h k. c (e, h, k)) q))

  -- a row of which the part before a moment is gone
  pub since_ok : (s : ℕ) (x : Row A) (xs : List (Row A)) → s < x.end → Ordered (x ∷ xs) → Ordered (since s x ∷ xs)
  since_ok s x [] h w = (h, tt, tt)
  since_ok s x (y ∷ ys) h w = (h, w.1, w.2)

  -- the answer of a row from a moment on
  pub since_in : (s : ℕ) (x : Row A) (xs : List (Row A)) (i m : ℕ) → x.start ≤ s → (x.instrument ≡ i → x.start ≤ m → m < s → ⊥) → answer_for (x ∷ xs) i m ≡ answer_for (since s x ∷ xs) i m
  since_in s x xs i m l out = go (ℕ_discrete x.instrument i) (place s x.end m) (dec_le x.start m)
    where
      gone : (x.instrument ≡ i → x.start ≤ m → m < x.end → ⊥) → (x.instrument ≡ i → s ≤ m → m < x.end → ⊥) → answer_for (x ∷ xs) i m ≡ answer_for (since s x ∷ xs) i m
      gone a b = row_out x xs i m a ∙ sym (row_out (since s x) xs i m b)

      go : Dec (x.instrument ≡ i) → Place s x.end m → Dec (x.start ≤ m) → answer_for (x ∷ xs) i m ≡ answer_for (since s x ∷ xs) i m
      go (no d) k j = gone (λ e h g. d e) (λ e h g. d e)
      go (yes e) (early h) (yes j) = absurd (out e j h)
      go (yes e) (early h) (no j) = gone (λ e h g. j h) (λ e h g. omega arith)
      go (yes e) (within h k) j = row_in x xs i m e (omega arith) k ∙ sym (row_in (since s x) xs i m e h k)
      go (yes e) (late h k) j = gone (λ e h g. omega arith) (λ e h g. omega arith)

  -- ---- the steps

  -- the left row alone
  pub left_step : (x : Row A) (xs ys : List (Row A)) (ds : Stretches A) → Ordered (x ∷ xs)
      → ((j m : ℕ) → Sooner j m x.instrument x.end → answer_for ys j m ≡ none) → Right same xs ys ds → Right same (x ∷ xs) ys (left_only x ∷ ds)
  unfolding differ
  left_step x xs ys ds w q r = reported (x ∷ xs) ys xs ys (left_only x) ds before refl r
    where
      before : Before (x ∷ xs) ys xs ys (left_only x)
      before = record {
        some_time = w.0;
        left_in = λ m h k. row_in x xs x.instrument m refl h k;
        right_in = λ m h k. q x.instrument m (record { upto = omega arith; early = λ l. k });
        left_out = λ i m out. row_out x xs i m out;
        right_out = λ i m out. refl;
        left_quiet = λ j m s. quiet_rest x xs w j m s;
        right_quiet = λ j m s. q j m s;
        changed = λ a b. changes x xs w a;
      }

  -- the right row alone
  pub right_step : (xs : List (Row A)) (y : Row A) (ys : List (Row A)) (ds : Stretches A) → Ordered (y ∷ ys)
      → ((j m : ℕ) → Sooner j m y.instrument y.end → answer_for xs j m ≡ none) → Right same xs ys ds → Right same xs (y ∷ ys) (right_only y ∷ ds)
  unfolding differ
  right_step xs y ys ds w q r = reported xs (y ∷ ys) xs ys (right_only y) ds before refl r
    where
      before : Before xs (y ∷ ys) xs ys (right_only y)
      before = record {
        some_time = w.0;
        left_in = λ m h k. q y.instrument m (record { upto = omega arith; early = λ l. k });
        right_in = λ m h k. row_in y ys y.instrument m refl h k;
        left_out = λ i m out. refl;
        right_out = λ i m out. row_out y ys i m out;
        left_quiet = λ j m s. q j m s;
        right_quiet = λ j m s. quiet_rest y ys w j m s;
        changed = λ a b. changes y ys w b;
      }

  -- two rows of one instrument that overlap; s is where the later starts
  module _ (x : Row A) (xs : List (Row A)) (y : Row A) (ys : List (Row A)) (w : Ordered (x ∷ xs)) (v : Ordered (y ∷ ys)) (e : x.instrument ≡ y.instrument)
      (h : x.start < y.end) (k : y.start < x.end) where
    quiet_y : (j m : ℕ) → Sooner j m x.instrument y.start → answer_for (y ∷ ys) j m ≡ none
    quiet_y j m s = quiet y ys v j m (record { upto = omega (arith, s.upto); early = λ l. s.early (omega arith) })

    quiet_x : (j m : ℕ) → Sooner j m x.instrument x.start → answer_for (x ∷ xs) j m ≡ none
    quiet_x j m s = quiet x xs w j m s

    pub lead_left : (ds : Stretches A) → x.start < y.start → Right same (since y.start x ∷ xs) (y ∷ ys) ds
        → Right same (x ∷ xs) (y ∷ ys) (stretch x.instrument x.start y.start (some x.value) none ∷ ds)
    unfolding differ
    lead_left ds l r = reported (x ∷ xs) (y ∷ ys) (since y.start x ∷ xs) (y ∷ ys) p ds before refl r
      where
        p : Row (Difference A)
        p = stretch x.instrument x.start y.start (some x.value) none

        before : Before (x ∷ xs) (y ∷ ys) (since y.start x ∷ xs) (y ∷ ys) p
        before = record {
          some_time = l;
          left_in = λ m a b. row_in x xs x.instrument m refl a (omega arith);
          right_in = λ m a b. quiet_y x.instrument m (record { upto = omega arith; early = λ g. b });
          left_out = λ i m out. since_in y.start x xs i m (omega arith) out;
          right_out = λ i m out. refl;
          left_quiet = λ j m s. quiet (since y.start x) xs (since_ok y.start x xs k w) j m s;
          right_quiet = quiet_y;
          changed = λ a b. none_some (answer_for (y ∷ ys) x.instrument y.start) y.value b (row_in y ys x.instrument y.start (sym e) (omega arith) v.0);
        }

    pub lead_right : (ds : Stretches A) → y.start < x.start → Right same (x ∷ xs) (since x.start y ∷ ys) ds
        → Right same (x ∷ xs) (y ∷ ys) (stretch x.instrument y.start x.start none (some y.value) ∷ ds)
    unfolding differ
    lead_right ds l r = reported (x ∷ xs) (y ∷ ys) (x ∷ xs) (since x.start y ∷ ys) p ds before refl r
      where
        p : Row (Difference A)
        p = stretch x.instrument y.start x.start none (some y.value)

        before : Before (x ∷ xs) (y ∷ ys) (x ∷ xs) (since x.start y ∷ ys) p
        before = record {
          some_time = l;
          left_in = λ m a b. quiet_x x.instrument m (record { upto = omega arith; early = λ g. b });
          right_in = λ m a b. row_in y ys x.instrument m (sym e) a (omega arith);
          left_out = λ i m out. refl;
          right_out = λ i m out. since_in x.start y ys i m (omega arith) (λ a b c. out (omega arith) b c);
          left_quiet = quiet_x;
          right_quiet = λ j m s. quiet (since x.start y) ys (since_ok x.start y ys h v) j m (record { upto = omega (arith, s.upto); early = λ g. s.early (omega arith) });
          changed = λ a b. none_some (answer_for (x ∷ xs) x.instrument x.start) x.value a (row_in x xs x.instrument x.start refl (omega arith) w.0);
        }

    -- both, from s to t, where the first of them ends
    module _ (s t : ℕ) (a : x.start ≤ s) (b : y.start ≤ s) (c : s < t) (f : t ≤ x.end) (g : t ≤ y.end) where
      abbrev both : Row (Difference A)
      both = stretch x.instrument s t (some x.value) (some y.value)

      wx : Ordered (since s x ∷ xs)
      wx = since_ok s x xs (omega arith) w

      vy : Ordered (since s y ∷ ys)
      vy = since_ok s y ys (omega arith) v

      reach : (j m i i' u : ℕ) → i ≡ i' → Sooner j m i u → Sooner j m i' u
      reach j m i i' u q z = record { upto = omega (arith, z.upto); early = λ l. z.early (omega arith) }

      pub ends_x : x.end ≡ t → t < y.end → Before (since s x ∷ xs) (since s y ∷ ys) xs (since t y ∷ ys) both
      ends_x q l = record {
        some_time = c;
        left_in = λ m i j. row_in (since s x) xs x.instrument m refl i (omega arith);
        right_in = λ m i j. row_in (since s y) ys x.instrument m (sym e) i (omega arith);
        left_out = λ i m out. row_out (since s x) xs i m (λ d k' l'. out d k' (omega arith));
        right_out = λ i m out. since_in t (since s y) ys i m (omega arith) (λ d k' l'. out (omega arith) k' l');
        left_quiet = λ j m z. quiet_rest (since s x) xs wx j m (record { upto = z.upto; early = λ l'. omega (arith, z.early l') });
        right_quiet = λ j m z. quiet (since t y) ys (since_ok t y ys l v) j m (reach j m x.instrument y.instrument t e z);
        changed = λ i j. changes (since s x) xs wx (ap (λ (n : ℕ). answer_for xs x.instrument n) q ∙ i);
      }

      pub ends_y : y.end ≡ t → t < x.end → Before (since s x ∷ xs) (since s y ∷ ys) (since t x ∷ xs) ys both
      ends_y q l = record {
        some_time = c;
        left_in = λ m i j. row_in (since s x) xs x.instrument m refl i (omega arith);
        right_in = λ m i j. row_in (since s y) ys x.instrument m (sym e) i (omega arith);
        left_out = λ i m out. since_in t (since s x) xs i m (omega arith) (λ d k' l'. out d k' l');
        right_out = λ i m out. row_out (since s y) ys i m (λ d k' l'. out (omega arith) k' (omega arith));
        left_quiet = λ j m z. quiet (since t x) xs (since_ok t x xs l w) j m z;
        right_quiet = λ j m z. quiet_rest (since s y) ys vy j m (record { upto = omega (arith, z.upto); early = λ l'. omega (arith, z.early (omega arith)) });
        changed = λ i j. changes (since s y) ys vy ((λ r. answer_for ys (sym e r) (q r)) ∙ j);
      }

      pub ends_both : x.end ≡ t → y.end ≡ t → Before (since s x ∷ xs) (since s y ∷ ys) xs ys both
      ends_both q p = record {
        some_time = c;
        left_in = λ m i j. row_in (since s x) xs x.instrument m refl i (omega arith);
        right_in = λ m i j. row_in (since s y) ys x.instrument m (sym e) i (omega arith);
        left_out = λ i m out. row_out (since s x) xs i m (λ d k' l'. out d k' (omega arith));
        right_out = λ i m out. row_out (since s y) ys i m (λ d k' l'. out (omega arith) k' (omega arith));
        left_quiet = λ j m z. quiet_rest (since s x) xs wx j m (record { upto = z.upto; early = λ l'. omega (arith, z.early l') });
        right_quiet = λ j m z. quiet_rest (since s y) ys vy j m (record { upto = omega (arith, z.upto); early = λ l'. omega (arith, z.early (omega arith)) });
        changed = λ i j. changes (since s x) xs wx (ap (λ (n : ℕ). answer_for xs x.instrument n) q ∙ i);
      }
