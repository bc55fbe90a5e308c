-- A lookup by places in the table: where an instrument's rows begin, and how far the moment reaches.
-- Assumes nothing.
use Rattle.std.specs.Prelude.{◌≡◌, ◌≢◌, cond, length, get_or, ltb, eqb}
use Rattle.std.proofs.Math.Path.{refl, sym, ap}
use Rattle.std.proofs.Common.{◌∙◌, le_refl}
use Prim.Native.Nat.{ℕ, zero, suc, ◌+◌, ◌≤◌, ◌<◌}
use Rattle.std.proofs.Math.Nat.{zero-add, suc-add}
use Rattle.std.proofs.Math.Decide.{dec_le}
use native.Mathlib.Omega.{arith}
use Rattle.std.proofs.Math.Option.{Option, none, some}
use mathlib.Core.List.{List, [], ◌∷◌}
use Rattle.std.proofs.Math.ListN.{get_elem?}
use Rattle.std.proofs.Math.Dec.{eqb_refl, not_T}
use Rattle.std.proofs.Math.Facts.{eqb_yes}
use Rattle.theory.specs.Runs.{Interval}
use Rattle.theory.specs.RunsTools.{cond_yes, cond_no, cond_lt, cond_ge, Order, less, equal, more, order}
use Rattle.map_rules.specs.Table.{Row, interval_of, picked, group}
use Rattle.map_rules.specs.Groups.{picked_own, picked_other, group_none, Least, least_le, Sorted}
use Rattle.map_rules.specs.Lookup.{started}

module _ {A : Type 0} where
  -- the interval of a row, if it is of the instrument
  unfoldable pub own : ℕ → Option (Row A) → Option (Interval A)
  own i none = none
  own i (some x) = cond (eqb x.instrument i) (some (interval_of x)) none

  -- how many rows come first that are of a lower instrument
  unfoldable pub lower : ℕ → List (Row A) → ℕ
  lower i [] = 0
  lower i (x ∷ xs) = let c = lower i xs in cond (ltb x.instrument i) (suc c) 0

  -- how many come first that are of a lower one, or of this one and start at the moment or before
  unfoldable pub upper : ℕ → ℕ → List (Row A) → ℕ
  upper i m [] = 0
  upper i m (x ∷ xs) =
      let c = upper i m xs in
      cond (ltb x.instrument i) (suc c) (cond (ltb i x.instrument) 0 (cond (ltb m x.start) 0 (suc c)))

  pub own_yes : (i : ℕ) (x : Row A) → x.instrument ≡ i → own i (some x) ≡ some (interval_of x)
  unfolding own
  own_yes i x e = cond_yes (eqb x.instrument i) _ _ (rw e (eqb_refl i))

  pub own_no : (i : ℕ) (x : Row A) → x.instrument ≢ i → own i (some x) ≡ none
  unfolding own
  own_no i x d = cond_no (eqb x.instrument i) _ _ (not_T (eqb x.instrument i) (λ t. d (eqb_yes t)))

  own_high : (i : ℕ) (xs : List (Row A)) → Sorted xs → Least (suc i) xs → (k : ℕ) → own i (get_elem? xs k) ≡ none
  unfolding own
  own_high i [] s l k = refl
  own_high i (x ∷ xs) s l zero = own_no i x (omega arith)
  own_high i (x ∷ xs) s l (suc k) = own_high i xs s.1 (least_le (suc i) x.instrument xs l s.0) k

  lower_none : (i : ℕ) (xs : List (Row A)) → Least i xs → lower i xs ≡ 0
  unfolding lower
  lower_none i [] l = refl
  lower_none i (x ∷ xs) l = cond_ge x.instrument i _ 0 l

  -- an instrument's interval number k is the row number k from where its rows begin
  pub group_place : (i : ℕ) (xs : List (Row A)) → Sorted xs → (k : ℕ) → get_elem? (group i xs) k ≡ own i (get_elem? xs (lower i xs + k))
  unfolding group lower own
  group_place i [] s k = refl
  group_place i (x ∷ xs) s k = go (order x.instrument i) k (group_place i xs s.1)
    where
      go : Order x.instrument i → (k : ℕ) → ((j : ℕ) → get_elem? (group i xs) j ≡ own i (get_elem? xs (lower i xs + j)))
          → get_elem? (picked i x (group i xs)) k ≡ own i (get_elem? (x ∷ xs) (lower i (x ∷ xs) + k))
      go (less h) k f =
          rw (picked_other i x (group i xs) (omega arith), cond_lt x.instrument i (suc (lower i xs)) 0 h, suc-add (lower i xs) k) (f k)
      go (equal h) zero f =
          rw (picked_own i x (group i xs) h, cond_ge x.instrument i (suc (lower i xs)) 0 (omega arith)) (sym (own_yes i x h))
      go (equal h) (suc k) f =
          let l : Least i xs = rw (← h) s.0 in
          let z : lower i xs + k ≡ k = ap (λ (c : ℕ). c + k) (lower_none i xs l) ∙ zero-add k in
          rw (picked_own i x (group i xs) h, cond_ge x.instrument i (suc (lower i xs)) 0 (omega arith), zero-add (suc k)) (f k ∙ ap (λ (j : ℕ). own i (get_elem? xs j)) z)
      go (more h) k f =
          rw (group_none i x.instrument (x ∷ xs) s (le_refl x.instrument) h, cond_ge x.instrument i (suc (lower i xs)) 0 (omega arith), zero-add k)
          (sym (own_high i (x ∷ xs) s h k))

  -- the runs that have started, by places
  pub started_place : (i m : ℕ) (xs : List (Row A)) → Sorted xs → upper i m xs ≡ lower i xs + started (group i xs) m
  unfolding group lower upper started
  started_place i m [] s = refl
  started_place i m (x ∷ xs) s = go (order x.instrument i) (started_place i m xs s.1)
    where
      go : Order x.instrument i → upper i m xs ≡ lower i xs + started (group i xs) m → upper i m (x ∷ xs) ≡ lower i (x ∷ xs) + started (picked i x (group i xs)) m
      go (less h) e =
          let u : upper i m (x ∷ xs) ≡ suc (upper i m xs) = cond_lt x.instrument i _ _ h in
          let l : lower i (x ∷ xs) ≡ suc (lower i xs) = cond_lt x.instrument i _ _ h in
          let g : started (picked i x (group i xs)) m ≡ started (group i xs) m = ap (λ (rs : List (Interval A)). started rs m) (picked_other i x (group i xs) (omega arith)) in
          u ∙ (let d : suc (upper i m xs) ≡ suc (lower i xs) + started (group i xs) m = omega arith in d) ∙ sym (λ q. l q + g q)
      go (equal h) e = by (dec_le x.start m)
        where
          l : lower i (x ∷ xs) ≡ 0
          l = cond_ge x.instrument i _ _ (omega arith)

          z : lower i xs ≡ 0
          z = lower_none i xs (rw (← h) s.0)

          u : upper i m (x ∷ xs) ≡ cond (ltb m x.start) 0 (suc (upper i m xs))
          u = cond_ge x.instrument i _ _ (omega arith) ∙ cond_ge i x.instrument _ _ (omega arith)

          g : started (picked i x (group i xs)) m ≡ cond (ltb m x.start) 0 (suc (started (group i xs) m))
          g = ap (λ (rs : List (Interval A)). started rs m) (picked_own i x (group i xs) h)

          by : Dec (x.start ≤ m) → upper i m (x ∷ xs) ≡ lower i (x ∷ xs) + started (picked i x (group i xs)) m
          by (yes k) =
              let a : upper i m (x ∷ xs) ≡ suc (upper i m xs) = u ∙ cond_ge m x.start _ _ k in
              let b : started (picked i x (group i xs)) m ≡ suc (started (group i xs) m) = g ∙ cond_ge m x.start _ _ k in
              a ∙ (let d : suc (upper i m xs) ≡ 0 + suc (started (group i xs) m) = omega (arith, z) in d) ∙ sym (λ q. l q + b q)
          by (no k) =
              let a : upper i m (x ∷ xs) ≡ 0 = u ∙ cond_lt m x.start _ _ (omega arith) in
              let b : started (picked i x (group i xs)) m ≡ 0 = g ∙ cond_lt m x.start _ _ (omega arith) in
              a ∙ sym (λ q. l q + b q)
      go (more h) e =
          let u : upper i m (x ∷ xs) ≡ 0 = cond_ge x.instrument i _ _ (omega arith) ∙ cond_lt i x.instrument _ _ h in
          let l : lower i (x ∷ xs) ≡ 0 = cond_ge x.instrument i _ _ (omega arith) in
          let g : started (picked i x (group i xs)) m ≡ 0 = ap (λ (rs : List (Interval A)). started rs m) (group_none i x.instrument (x ∷ xs) s (le_refl x.instrument) h) in
          u ∙ sym (λ q. l q + g q)

  -- ---- what the rows on both sides of a place tell

  -- r is the first place of a row that is not of a lower instrument
  pub record Begins (i : ℕ) (xs : List (Row A)) (d : Row A) (r : ℕ) : Type 0 where
    pub within : r ≤ length xs
    pub below : (k : ℕ) → k < r → (get_or xs k d).instrument < i
    pub from : r < length xs → i ≤ (get_or xs r d).instrument

  pub lower_begins : (i : ℕ) (d : Row A) (xs : List (Row A)) → Begins i xs d (lower i xs)
  unfolding lower
  lower_begins i d [] = record { within = omega arith; below = λ k l. absurd (omega arith); from = λ l. absurd (omega arith) }
  lower_begins i d (x ∷ xs) = go (dec_le i x.instrument) (lower_begins i d xs)
    where
      go : Dec (i ≤ x.instrument) → Begins i xs d (lower i xs) → Begins i (x ∷ xs) d (lower i (x ∷ xs))
      go (yes h) b =
          rw (cond_ge x.instrument i (suc (lower i xs)) 0 h) (record { within = omega arith; below = λ k l. absurd (omega arith); from = λ l. h })
      go (no h) b =
          rw (cond_lt x.instrument i (suc (lower i xs)) 0 (omega arith))
          (record { within = omega (arith, b.within); below = all; from = λ l. b.from (omega arith) })
        where
          all : (k : ℕ) → k < suc (lower i xs) → (get_or (x ∷ xs) k d).instrument < i
          all zero l = omega arith
          all (suc k) l = b.below k (omega arith)

  -- a row that is of a lower instrument, or of this one and starts at the moment or before
  pub record Passed (i m : ℕ) (x : Row A) : Type 0 where
    pub upto : x.instrument ≤ i
    pub starts : x.instrument ≡ i → x.start ≤ m

  -- one that is of a higher instrument, or of this one and starts later
  pub record Ahead (i m : ℕ) (x : Row A) : Type 0 where
    pub from : i ≤ x.instrument
    pub starts : x.instrument ≡ i → m < x.start

  -- r is the first place of a row that is ahead
  pub record Reaches (i m : ℕ) (xs : List (Row A)) (d : Row A) (r : ℕ) : Type 0 where
    pub within : r ≤ length xs
    pub below : (k : ℕ) → k < r → Passed i m (get_or xs k d)
    pub from : r < length xs → Ahead i m (get_or xs r d)

  pub upper_reaches : (i m : ℕ) (d : Row A) (xs : List (Row A)) → Reaches i m xs d (upper i m xs)
  unfolding upper
  upper_reaches i m d [] = record { within = omega arith; below = λ k l. absurd (omega arith); from = λ l. absurd (omega arith) }
  upper_reaches i m d (x ∷ xs) = go (order x.instrument i) (dec_le x.start m) (upper_reaches i m d xs)
    where
      on : Reaches i m xs d (upper i m xs) → Passed i m x → Reaches i m (x ∷ xs) d (suc (upper i m xs))
      on b p = record { within = omega (arith, b.within); below = all; from = λ l. b.from (omega arith) }
        where
          all : (k : ℕ) → k < suc (upper i m xs) → Passed i m (get_or (x ∷ xs) k d)
          all zero l = p
          all (suc k) l = b.below k (omega arith)

      off : Ahead i m x → Reaches i m (x ∷ xs) d 0
      off p = record { within = omega arith; below = λ k l. absurd (omega arith); from = λ l. p }

      same : x.instrument ≡ i → upper i m (x ∷ xs) ≡ cond (ltb m x.start) 0 (suc (upper i m xs))
      same h = cond_ge x.instrument i _ _ (omega arith) ∙ cond_ge i x.instrument _ _ (omega arith)

      high : i < x.instrument → upper i m (x ∷ xs) ≡ 0
      high h = cond_ge x.instrument i _ _ (omega arith) ∙ cond_lt i x.instrument _ _ h

      go : Order x.instrument i → Dec (x.start ≤ m) → Reaches i m xs d (upper i m xs) → Reaches i m (x ∷ xs) d (upper i m (x ∷ xs))
      go (less h) e b =
          rw (cond_lt x.instrument i (suc (upper i m xs)) (cond (ltb i x.instrument) 0 (cond (ltb m x.start) 0 (suc (upper i m xs)))) h)
          (on b (record { upto = omega arith; starts = λ d. absurd (omega arith) }))
      go (equal h) (yes e) b = rw (same h ∙ cond_ge m x.start 0 (suc (upper i m xs)) e) (on b (record { upto = omega arith; starts = λ d. e }))
      go (equal h) (no e) b =
          rw (same h ∙ cond_lt m x.start 0 (suc (upper i m xs)) (omega arith)) (off (record { from = omega arith; starts = λ d. omega arith }))
      go (more h) e b = rw (high h) (off (record { from = omega arith; starts = λ d. absurd (omega arith) }))
