-- The answer of a table with one more row in front, what an ordered table leaves unsaid before its first row and past it, and
-- the seam: which row may stand in front of an ordered table. Assumes nothing.
use Rattle.std.specs.Prelude.{◌≡◌, ◌≢◌, ℕ, ◌≤◌, ◌<◌}
use Rattle.std.proofs.Math.Path.{refl}
use Rattle.std.proofs.Common.{sym, ap, ◌∙◌}
use native.Mathlib.Omega.{arith}
use Rattle.std.proofs.Math.Decide.{ℕ_discrete, dec_le}
use Rattle.std.proofs.Math.Option.{Option, none, some}
use mathlib.Core.List.{List, [], ◌∷◌}
use Rattle.theory.specs.RunsTools.{Place, early, within, late, place, answer_in, answer_early, answer_late, none_some, some_same}
use Rattle.theory.specs.Runs.{answer_at}
use Rattle.map_rules.specs.Table.{Row, interval_of, picked, group, answer_for, Ordered}
use Rattle.map_rules.specs.Groups.{picked_own, picked_other}

-- a place in the order of instruments and moments before another
pub record Sooner (j m i e : ℕ) : Type 0 where
  pub upto : j ≤ i
  pub early : i ≤ j → m < e

-- ---- the answer

module _ {A : Type 0} where
  pub row_in : (x : Row A) (xs : List (Row A)) (i m : ℕ) → x.instrument ≡ i → x.start ≤ m → m < x.end → answer_for (x ∷ xs) i m ≡ some x.value
  unfolding answer_for group
  row_in x xs i m e h k = rw (picked_own i x (group i xs) e) (answer_in (interval_of x) (group i xs) m h k)

  pub row_out : (x : Row A) (xs : List (Row A)) (i m : ℕ) → (x.instrument ≡ i → x.start ≤ m → m < x.end → ⊥) → answer_for (x ∷ xs) i m ≡ answer_for xs i m
  unfolding answer_for group
  row_out x xs i m out = go (ℕ_discrete x.instrument i)
    where
      by : x.instrument ≡ i → Place x.start x.end m → answer_at (interval_of x ∷ group i xs) m ≡ answer_at (group i xs) m
      by e (early h) = answer_early (interval_of x) (group i xs) m h
      by e (within h k) = absurd (out e h k)
      by e (late h k) = answer_late (interval_of x) (group i xs) m k

      go : Dec (x.instrument ≡ i) → answer_at (picked i x (group i xs)) m ≡ answer_at (group i xs) m
      go (yes e) = rw (picked_own i x (group i xs) e) (by e (place x.start x.end m))
      go (no d) = rw (picked_other i x (group i xs) d) refl

  -- the rest of an ordered table says nothing before the first row ends, and all of it nothing before that row starts
  pub quiet_rest : (x : Row A) (xs : List (Row A)) → Ordered (x ∷ xs) → (j m : ℕ) → Sooner j m x.instrument x.end → answer_for xs j m ≡ none
  unfolding answer_for group
  quiet_rest x [] w j m s = refl
  quiet_rest x (y ∷ ys) w j m s =
      row_out y ys j m (λ e h k. omega (arith, sooner.early (omega arith)))
      ∙ quiet_rest y ys w.2 j m (record { upto = sooner.upto; early = λ h. omega (arith, sooner.early h, w.2.0) })
    where
      by : Dec (x.instrument ≡ y.instrument) → y.instrument ≤ j → m < y.start
      by (yes e) h = omega (arith, s.early (omega (arith, w.1.0)), (w.1.1 e).0)
      by (no d) h = absurd (d (omega (arith, s.upto, w.1.0)))

      sooner : Sooner j m y.instrument y.start
      sooner = record { upto = omega (arith, s.upto, w.1.0); early = by (ℕ_discrete x.instrument y.instrument) }

  pub quiet : (x : Row A) (xs : List (Row A)) → Ordered (x ∷ xs) → (j m : ℕ) → Sooner j m x.instrument x.start → answer_for (x ∷ xs) j m ≡ none
  quiet x xs w j m s =
      row_out x xs j m (λ e h k. omega (arith, s.early (omega arith)))
      ∙ quiet_rest x xs w j m (record { upto = s.upto; early = λ h. omega (arith, s.early h, w.0) })

  pub empty_says : (j m : ℕ) → answer_for {A = A} [] j m ≡ none
  unfolding answer_for group
  empty_says j m = refl

  -- right at a row's end the rest says something else
  pub changes : (x : Row A) (xs : List (Row A)) → Ordered (x ∷ xs) → answer_for xs x.instrument x.end ≢ some x.value
  unfolding answer_for group
  changes x [] w q = none_some none x.value refl q
  changes x (y ∷ ys) w q = go (ℕ_discrete x.instrument y.instrument) (dec_le y.start x.end)
    where
      go : Dec (x.instrument ≡ y.instrument) → Dec (y.start ≤ x.end) → ⊥
      go (yes e) (yes h) =
          (w.1.1 e).1 (omega (arith, (w.1.1 e).0))
          (some_same (answer_for (y ∷ ys) x.instrument x.end) x.value y.value q
          (row_in y ys x.instrument x.end (sym e) h (omega (arith, (w.1.1 e).0, w.2.0))))
      go (yes e) (no h) =
          none_some (answer_for (y ∷ ys) x.instrument x.end) x.value
          (quiet y ys w.2 x.instrument x.end (record { upto = w.1.0; early = λ k. omega arith })) q
      go (no d) k =
          none_some (answer_for (y ∷ ys) x.instrument x.end) x.value
          (quiet y ys w.2 x.instrument x.end (record { upto = w.1.0; early = λ h. absurd (d (omega (arith, w.1.0))) })) q

  -- the seam: a row may stand in front of an ordered table that says nothing before the row's end, and something else at it
  pub front_ok : (p : Row A) (ds : List (Row A)) → p.start < p.end → Ordered ds
      → ((j m : ℕ) → Sooner j m p.instrument p.end → answer_for ds j m ≡ none)
      → answer_for ds p.instrument p.end ≢ some p.value → Ordered (p ∷ ds)
  front_ok p [] h w q c = (h, tt, tt)
  front_ok p (d ∷ ds) h w q c = (h, (after, λ e. (touch e, λ f g. c (at e f ∙ ap some (sym g)))), w)
    where
      here : answer_for (d ∷ ds) d.instrument d.start ≡ some d.value
      here = row_in d ds d.instrument d.start refl (omega arith) w.0

      never : Sooner d.instrument d.start p.instrument p.end → ⊥
      never s = none_some (answer_for (d ∷ ds) d.instrument d.start) d.value (q d.instrument d.start s) here

      after : p.instrument ≤ d.instrument
      after = go (dec_le p.instrument d.instrument)
        where
          go : Dec (p.instrument ≤ d.instrument) → p.instrument ≤ d.instrument
          go (yes k) = k
          go (no k) = absurd (never (record { upto = omega arith; early = λ l. absurd (k l) }))

      touch : p.instrument ≡ d.instrument → p.end ≤ d.start
      touch e = go (dec_le p.end d.start)
        where
          go : Dec (p.end ≤ d.start) → p.end ≤ d.start
          go (yes k) = k
          go (no k) = absurd (never (record { upto = omega arith; early = λ l. omega arith }))

      at : p.instrument ≡ d.instrument → p.end ≡ d.start → answer_for (d ∷ ds) p.instrument p.end ≡ some d.value
      at e f = row_in d ds p.instrument p.end (sym e) (omega arith) (omega (arith, w.0))
